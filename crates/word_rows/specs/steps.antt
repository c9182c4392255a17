-- what serves proofs and private functions alone

-- cursors from row to row, and terms as they are made
pub mod Cursors
-- reading what a query asks of a row
pub mod Loading
