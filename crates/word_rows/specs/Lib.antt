-- where a keyword stands in a row
pub mod Keywords
-- what a query asks of a row beside the places of its words
pub mod RowMarks
-- the terms of a row: what is known of each keyword
pub mod Terms
-- the keywords of a query on their way over the rows of a chunk
pub mod Slots
-- keywords of which a row's fields tell all
pub mod Fields
-- what serves proofs and private functions alone
pub mod steps
