-- the image that a job makes, and the layer of its chunk
pub mod Builds
-- what serves proofs alone
pub mod steps
