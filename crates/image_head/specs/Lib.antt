-- what the header is read as
pub mod Heads
