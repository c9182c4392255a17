-- how the bytes of a word are written
pub mod Spelling
-- the written form of a query
pub mod Written
-- what serves proofs and private functions alone
pub mod steps
