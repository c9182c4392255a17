-- what a row holds in a column
pub mod Columns
-- which rows a condition holds of
pub mod Filters
-- which of two rows comes first, and rows in order
pub mod Orders
-- the page
pub mod Pages
-- the rows that a collector keeps
pub mod Collecting
-- where found rows go
pub mod Sinks
-- what serves proofs and private functions alone
pub mod steps
