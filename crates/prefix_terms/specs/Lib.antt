-- the words of prefixes, and the query without prefixes
pub mod Prefixes
-- what serves proofs alone
pub mod steps
