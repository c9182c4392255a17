-- the chunk that a job makes of a snapshot
pub mod Chunks
-- how much an index has room for
pub mod Limits
-- what serves proofs alone
pub mod steps
