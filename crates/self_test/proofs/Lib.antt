-- what was replied to a text that is one statement
pub mod Replied
-- which refusal a reply's bytes are
pub mod Codes
-- a query's answer, and packets one by one
pub mod Talking
-- the letters of canonical texts
pub mod Letters
-- tokens that stand for the statements
pub mod Values
-- statements that are done or go astray, and rows that are counted
pub mod Conversing
-- what a SELECT replies
pub mod Finding
-- what a text that is told comes to
pub mod Answering
-- what was asked leads from one store to another
pub mod Leading
-- whose the tokens of a worker are
pub mod Seats
-- an engine for one worker
pub mod Engines
-- the index of a selftest
pub mod Own
-- how long the tokens of a short text are
pub mod Sizes
-- what an INSERT of a generated document stores
pub mod Stored
-- documents that are inserted under new ids
pub mod Inserting
-- what the statements want, and what is replied to them
pub mod Wants
-- the token of the one worker
pub mod Seated
-- what it knows of the documents
pub mod Knowing
-- what stands between two statements
pub mod Standing
-- the statements that write all documents
pub mod Scripts
-- what the end of the engine says of them
pub mod Ending
-- a store that is opened without files, and the end of its engine
pub mod Begun
-- the texts of its queries are queries
pub mod Querying
-- no SELECT of it is refused but for want of memory
pub mod Served
-- what is known of the texts of queries
pub mod Losing
-- its reply is short
pub mod Brief
-- so none is lost
pub mod Lost
-- what the SELECTs read
pub mod Reading
-- what they find
pub mod Counting
