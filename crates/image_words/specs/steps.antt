-- lists by their heads, and words at a place
pub mod Heads
