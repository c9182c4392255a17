-- what serves proofs and private functions alone
pub mod Runs
pub mod Cuts
