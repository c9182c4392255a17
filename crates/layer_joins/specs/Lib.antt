-- layers of which some were put together
pub mod Joins
-- what serves proofs alone
pub mod steps
