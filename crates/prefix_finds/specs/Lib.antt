-- what a query with prefixes finds
pub mod Taken
-- the numbers of the words that it asks for
pub mod Numbers
-- that two queries find the same
pub mod Same
