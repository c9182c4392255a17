-- The keywords
pub mod Keywords
-- Tokens as the grammar sees them: their kinds, and what they stand for
pub mod Tokens
-- The classes of tokens that the grammar names
pub mod Classes
-- That the tests of classes are right: proofs, of which nothing has to be believed
pub mod KeywordLaws
pub mod SignLaws
pub mod ClassLaws
-- The tokens and classes together
pub mod Alphabet
-- Which tokens stand for names, numbers, texts and lists of them
pub mod Parts
-- .. for the parts of a SELECT
pub mod Selects
-- .. for each statement
pub mod Statements
-- .. for a packet of statements, and where tokens are no packet
pub mod Packets
-- What the faults print
pub mod FaultTexts
-- The words of the grammar: one token, and parts in parentheses
pub mod Terminals
-- The grammar itself, and what serves proofs and private functions alone
pub mod steps
