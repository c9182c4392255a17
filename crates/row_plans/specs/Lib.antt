-- cursors on their way over the rows of keywords
pub mod Cursors
-- plans, and how far the next row is
pub mod Plans
-- rows that aren't dead
pub mod Living
-- what serves proofs and private functions alone
pub mod steps
