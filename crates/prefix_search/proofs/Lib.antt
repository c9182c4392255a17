-- a query without prefixes is asked itself
pub mod Plain
-- what the query that is asked finds is what the query finds
pub mod Carried
-- the words of prefixes are the same whatever the order of the documents
pub mod OneExpansion
-- and so is what is found
pub mod OneSearch
