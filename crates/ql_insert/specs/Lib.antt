-- the transaction that rows become, and why they are refused
pub mod Insertions
-- what serves proofs and private functions alone
pub mod steps
