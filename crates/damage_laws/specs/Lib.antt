-- what some bytes are
pub mod Outcomes
