-- what marks leave
pub mod Marked
