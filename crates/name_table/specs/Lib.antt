-- the order of words, and what a table of words in order is
pub mod Order
-- values that stand for words
pub mod NamedValues
