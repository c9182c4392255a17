-- which boundaries and spans a node asks for
pub mod MarkedNodes
-- nodes that join two others
pub mod JoinedNodes
-- cursors that go over rows
pub mod Passing
-- two lists side by side
pub mod Zipped
-- the words of keywords, each once
pub mod FirstUses
-- lists in order, and tests that agree on a list
pub mod Lists
-- the places of words in rows
pub mod PlacedRows
-- the places that a keyword's limits and marks allow
pub mod Allowed
-- the next row that has a word
pub mod NextRows
-- terms that are told whether a row has their words
pub mod Marking
-- what is opened of a word in a row
pub mod Opening
-- terms that have read their places in a row
pub mod Loaded
-- the ends of sentences and paragraphs, field by field
pub mod Ends
-- whether spans are asked for
pub mod ZonesAsked
-- how many terms are present in a row
pub mod PresentCounts
-- the bits of fields
pub mod FieldBits
