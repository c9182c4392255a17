-- a field made of its words and boundaries
pub mod Fields
-- filters of hits that ascend
pub mod Filters
-- words at positions, and their hits
pub mod Rowing
-- a row made of its parts is one of the schema
pub mod RowMade
-- and has the places of each word
pub mod RowHits
-- the rows that have a word
pub mod Posting
-- how many hits there are
pub mod Counting
-- the image of rows that are made
pub mod Made
-- they are rows of the schema
pub mod Whole
-- words that ascend
pub mod Words
-- marks that cover a row
pub mod Marked
-- pieces of bytes
pub mod Pieces
-- rows as they stand in an image
pub mod Columns
-- the word table
pub mod Table
-- zones of rows
pub mod Zones
-- bytes without damage
pub mod Undamaged
