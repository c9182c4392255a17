-- short numbers, and where one stands
pub mod Numbers
-- hits, their lists, and where one stands
pub mod HitLists
-- entries of rows, and lists of them
pub mod PostingLists
-- what serves proofs alone
pub mod steps
