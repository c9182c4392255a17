-- an index that can be served
pub mod Servable
-- how an engine is made for a selftest, and what its end says
pub mod Engines
-- the canonical texts, letter by letter
pub mod Letters
-- what the first bytes of a reply say
pub mod Replies
