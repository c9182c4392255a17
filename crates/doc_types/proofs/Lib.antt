-- the words, boundaries and spans of a field, appended one by one
pub mod FieldParts
-- binary searches among elements with keys
pub mod BinarySearches
-- how the place of a cursor moves
pub mod PlainPlaces
-- how it moves over the rows below one
pub mod Seeking
-- the rows of each word, as they are collected
pub mod Collected
-- the index that is made of them
pub mod Indexed
-- what a chunk's rows are of
pub mod Contents
-- rows by their ids
pub mod Ids
-- rows that live
pub mod Living
-- what a transaction changes
pub mod Changes
-- bounds on the numbers of rows
pub mod Numbers
