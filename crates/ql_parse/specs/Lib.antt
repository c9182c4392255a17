-- which tokens are a packet of which statements, and where tokens are no packet
pub use Rattle.ql_grammar.specs.Packets
-- the tokens of a text, as the grammar sees them
pub use Rattle.ql_grammar.specs.Tokens
-- the canonical text of a statement, and what it is for a text to be read as one
pub use Rattle.ql_write.specs.Canonical
pub use Rattle.ql_write.specs.Reading
