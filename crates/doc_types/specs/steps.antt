-- the index of a plain chunk
pub mod PlainIndex
-- how it is collected
pub mod Collecting
