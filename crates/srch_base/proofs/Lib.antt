pub mod Shrinking
pub mod Moving
