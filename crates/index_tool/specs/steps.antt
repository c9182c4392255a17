-- what was read of words
pub mod Words
-- what lines are made of
pub mod Pieces
-- what is shown of chunks
pub mod Shown
-- what was read, and is shown
pub mod Reads
-- what calls do to a host
pub mod Sides
