-- what the nodes of a query find in a row
pub mod Finding
-- SENTENCE and PARAGRAPH where sentences are not read
pub mod Sentences
-- which rows match
pub mod Matching
-- the occurrences of a query in a row
pub mod Occurrences
-- the hits of a query in a row
pub mod Hits
-- the rows that match, one after another
pub mod Streams
-- the lists that rows may open
pub mod Debts
-- queries that the fields of words decide
pub mod Fields
-- what serves proofs and private functions alone
pub mod steps
-- queries whose keywords are numbered, and their hits
pub mod Numbered
