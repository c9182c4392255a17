-- the keywords of a query, one after the other
pub mod OnceKeys
-- the rows of a word that live
pub mod LiveRows
-- rows for several facets
pub mod Offered
-- lists of which no two elements are alike
pub mod OneList
-- sums in any order
pub mod IntSums
-- the same rows in two orders
pub mod SameRows
-- what a SELECT finds is the same whatever the order of the documents
pub mod OneTable
-- documents that have a word that a keyword takes
pub mod Taken
-- marks for rows
pub mod Marks
-- what a SELECT finds by the query that is asked
pub mod Told
