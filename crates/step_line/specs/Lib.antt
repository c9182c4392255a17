-- the writing end of an index, and the step that waits
pub mod Lines
-- the calls of an index that a fault or a contradiction ended
pub mod Tallies
-- what serves proofs alone
pub mod steps
