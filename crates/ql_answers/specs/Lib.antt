-- indexes, as statements name them
pub mod Indexes
-- operations that wait for their commit
pub mod Pending
-- the state of a session
pub mod States
-- statements that write, and those that end a transaction
pub mod Transactions
-- INSERT and REPLACE
pub mod Writing
-- replies and their packets
pub mod Replies
-- what SHOW META tells
pub mod Metas
-- SELECT from an index
pub mod Reading
-- SHOW, DESCRIBE, and SELECT of a variable
pub mod Showing
-- what a statement wants, or why it is refused
pub mod Plans
-- sessions, and what is replied
pub mod Sessions
-- what clauses cite of lower crates, passed on
pub use Rattle.commit_outcomes.specs.declared.outcome.CommitOutcome
pub use Rattle.prefix_search.specs.Searches
pub use Rattle.ql_refusals.specs.Refusals
pub use Rattle.ql_select.specs.declared.selection.Selection
pub use Rattle.reply_rows.specs.declared.result_set.ResultSet
pub mod steps
