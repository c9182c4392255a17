-- what serves proofs and private functions alone

-- the tokens of a written query beside the pieces of its text
pub mod Signs
-- what the writers of a query's parts append
pub mod Writes
-- what a row of tokens is to the grammar, apart from any text
pub mod TokenRun
-- which trees can be written
pub mod Writable
-- what marks say of keywords
pub mod Carried
