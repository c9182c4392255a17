-- what serves proofs and private functions alone

-- flags of rows
pub mod Flags
-- what is told of a row by one keyword after another
pub mod Tallies
