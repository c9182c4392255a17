-- what is published of an index
pub mod Shows
-- what a token remembers
pub mod Tokens
-- what a reading end remembers: nothing
pub mod Ends
