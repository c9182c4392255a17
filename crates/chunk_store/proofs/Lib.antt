pub mod Told
pub mod Parts
pub mod Weaker
pub mod Outcomes
pub mod WholeFiles
