-- What serves proofs and private functions alone.
pub mod Deciding
pub mod Progress
