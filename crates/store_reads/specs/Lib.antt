-- what reading the files of an index says of them
pub mod Reads
-- what serves proofs alone
pub mod steps
