-- what a query with prefixes finds, by the kinds of nodes
pub mod TakenNodes
-- findings that are the same, through the operators
pub mod Alike
-- a keyword and the ORs in its place
pub mod Leaves
-- the lists of a query's prefixes
pub mod Listed
-- the tree
pub mod Trees
-- the keywords of a query that is asked in the place of another one
pub mod AskedKeys
-- the query positions of such a query
pub mod Positions
-- a query without prefixes, asked itself
pub mod Itself
