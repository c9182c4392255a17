-- what stands outside of an engine's lock
pub mod Engines
-- what a call adds to the shares of its token
pub mod Counts
-- what a commit through an engine says
pub mod Answers
-- what the end of a job through an engine says
pub mod Reshapes
-- what the end of an engine says
pub mod Closings
-- what serves proofs alone
pub mod steps
-- what a token and a note have: a beginning of the history of an index
pub use Rattle.step_tokens.specs.Tokens
pub use Rattle.step_book.specs.Fronts
pub use Rattle.step_history.specs.History
-- what a store is that was opened, and the tokens of one that has its name
pub use Rattle.store_keep.specs.Opens
pub use Rattle.store_keep.specs.Names
pub use Rattle.store_keep.specs.Tellings
-- how an answer is charged to its token, and when numbers may have ended
pub use Rattle.store_keep.specs.Charges
pub use Rattle.store_keep.specs.declared.charge.Charge
pub use Rattle.store_keep.specs.declared.opening.Opened
-- what a commit answers, and when it is refused
pub use Rattle.store_keep.specs.declared.fault.CommitFault
pub use Rattle.store_keep.specs.declared.fault.Committed
pub use Rattle.store_steps.specs.Refusals
-- what a line is, and what a disk keeps of it
pub use Rattle.step_line.specs.Lines
pub use Rattle.store_steps.specs.Kept
