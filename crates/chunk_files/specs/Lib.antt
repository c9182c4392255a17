-- what reading the chunks of a root comes to
pub mod Reads
-- what serves proofs alone
pub mod steps
