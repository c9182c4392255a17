-- the keywords of a query
pub mod TreeKeys
-- which words a keyword takes
pub mod Taking
