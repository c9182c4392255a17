-- one file
pub mod Files
-- one file after the other
pub mod Rests
-- two chunks side by side
pub mod Merging
-- two chunks at a time
pub mod Pairs
