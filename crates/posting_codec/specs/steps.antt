-- parts of a short number's spelling
pub mod Parts
-- a hit list while it is read
pub mod Differences
-- the head of an entry
pub mod Heads
