-- How each piece of a statement is spelled
pub mod Pieces
-- The pieces of each statement: its canonical text
pub mod Canonical
-- What it is for a text to be read as a statement
pub mod Reading
-- What serves proofs and private functions alone
pub mod steps
