pub mod Changes
pub mod Steps
pub mod Between
pub mod Counts
pub mod LogEnds
