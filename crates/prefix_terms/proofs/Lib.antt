-- the order of words
pub mod Order
-- words that begin so
pub mod Beginnings
-- whether a row is dead
pub mod DeadRows
-- rows that live and have a word
pub mod Livings
-- the words of a dictionary that begin so
pub mod Runs
-- the words of all parts, merged
pub mod Merged
-- how many words are left
pub mod Left
-- the words of a prefix
pub mod LayerWords
-- the lists of all prefixes
pub mod Listing
-- a node without prefixes, by its kinds
pub mod Rewritten
-- no keyword of it is a prefix
pub mod Plain
