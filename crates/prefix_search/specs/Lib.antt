-- what a search finds by a query with prefixes
pub mod Searches
-- the query that is asked in the place of another one
pub mod Asking
