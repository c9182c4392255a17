-- the columns of an index
pub mod Schemas
-- the tokens of a field, documents, and lists of rows
pub mod Documents
-- the rows of an index by their ids
pub mod Rows
-- transactions of a schema
pub mod Transactions
-- what a commit makes of the rows, and what becomes of a transaction
pub mod Commits
-- documents by which a law gives an example of commits
pub mod Examples
-- how many bytes a transaction takes in a log
pub mod Payloads
-- what a chunk answers
pub mod Chunks
-- what the numbers of a chunk's rows fit in
pub mod Numbers
-- layers of chunks, and the rows that live
pub mod Snapshots
-- what serves proofs alone
pub mod steps
