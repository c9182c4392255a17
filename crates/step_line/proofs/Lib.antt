pub mod Lasts
pub mod CommitCounts
pub mod Ready
pub mod CallCounts
