-- why a store isn't opened
pub use Rattle.store_reads.specs.declared.fault.StoreFault
-- what a keeper holds
pub mod Keepers
-- what a commit says, and what it leaves
pub mod Commits
-- what the end of a job says, and what it leaves
pub mod Installs
-- what the public calls say of both
pub mod Answers
-- how an answer is charged, and what backs such charges
pub mod Charges
-- what a store is that got a name
pub mod Names
-- what all tokens are told at the end
pub mod Tellings
-- what opening finds, and what it leaves
pub mod Opens
-- what serves proofs alone
pub mod steps
