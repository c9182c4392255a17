-- the rows ahead of a cursor, and the flags that are set by them
pub mod RowsAhead
-- what a keyword's fields tell
pub mod Places
-- flags of nodes, by those of their parts
pub mod NodeFlags
-- how many rows pass, by their flags
pub mod Counted
-- rows that are taken of a cursor
pub mod TakenRows
-- what is told of a row by its keywords
pub mod KeyTallies
-- the fields that are told of a row
pub mod ToldFields
-- what is known of rows
pub mod ToldRows
-- dead rows, which ascend, cut where a row would stand among them
mod Ascending
