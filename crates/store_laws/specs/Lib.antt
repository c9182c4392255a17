-- what files are
pub mod Outcomes
