pub mod Wanting
pub mod Running
