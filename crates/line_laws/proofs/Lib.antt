pub mod Packets
pub mod Answered
pub mod Plain
pub mod Coding
