pub mod Taking
pub mod Rows
pub mod Looping
