-- rows that can be written
pub mod Written
-- headers
pub mod Headers
-- the first bytes of a word
pub mod Heads
-- what serves proofs alone
pub mod steps
