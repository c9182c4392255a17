-- what serves proofs and private functions alone

-- how many words have a row, up to some row
pub mod Tallies
