-- what a transaction makes of the layers of a snapshot, and what is answered
pub mod Commits
-- what serves proofs alone
pub mod steps
