-- the documents that a number stands for
pub mod Documents
-- the index that they are written to
pub mod Own
-- what is written and asked
pub mod Texts
-- what is stored of documents
pub mod Loads
-- what a summary says of the documents
pub mod Summaries
-- what a SELECT finds through a store
pub mod Findings
-- what a session is asked, and what it replies
pub mod Asking
-- the conversation of a selftest
pub mod Conversations
-- how the engine ends that a selftest ran over
pub mod Ends
-- what serves proofs alone
pub mod steps
