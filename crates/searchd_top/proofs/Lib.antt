pub mod Doing
pub mod Held
pub mod Lines
pub mod Putting
pub mod Running
pub mod ServedIndexes
pub mod Words
