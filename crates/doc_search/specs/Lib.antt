-- how a document is weighed
pub mod Rankings
-- what a search finds, and what is shown of it
pub mod Searches
-- what serves proofs and private functions alone
pub mod steps
