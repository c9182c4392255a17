-- which tokens are a packet of which statements, and where tokens are no packet
pub use Rattle.ql_grammar.specs.Packets
-- the tokens of a text, as the grammar sees them
pub use Rattle.ql_grammar.specs.Tokens
-- What serves proofs and private functions alone
pub mod steps
