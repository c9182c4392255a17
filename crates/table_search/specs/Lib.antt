-- what a SELECT finds
pub mod Tables
-- the keywords of a query, and the documents that have them
pub mod Keywords
-- facets while rows come one after the other
pub mod Gathering
-- what serves proofs and private functions alone
pub mod steps
