-- characters: their numbers in order, and how a text writes them
pub mod Characters
-- entries: `c`, `c..d`, `c->e` and `c..d->e..f`
pub mod Entries
-- the value that entries give a character, and when entries are a table
pub mod Table
-- the values of a table that is kept as spans
pub mod Spans
-- what a text is: a table, or its first fault
pub mod TableText
-- what serves proofs and private functions alone
pub mod steps
