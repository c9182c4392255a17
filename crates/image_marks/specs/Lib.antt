-- the part that is read
pub mod Parts
-- the places that marks lay out and take
pub mod Markings
-- what serves proofs alone
pub mod steps
