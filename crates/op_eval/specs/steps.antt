-- what serves proofs and private functions alone

-- what the words of a row tell
pub mod Verdicts
-- what evaluation answers
pub mod Evaluating
-- what keywords find by their terms
pub mod Worded
-- a query's tree on its way over the rows of a chunk
pub mod Searching
-- the rows that are wanted
pub mod Wanted
-- a query's tree between two rows that match
pub mod Streaming
-- plans that serve a query's tree
pub mod Planned
