-- the two lists of words that a dictionary is
pub mod Parts
-- what serves proofs alone
pub mod steps
