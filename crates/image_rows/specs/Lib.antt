-- bytes that are the image of a chunk
pub mod Images
-- what serves proofs alone
pub mod steps
