-- the bytes of a text, and those that are blank, bounds, digits or of a name
pub mod QueryBytes
-- operators, limits and quoted pieces, each by its own bytes
pub mod Operators
-- letters: the characters that make words
pub mod Letters
-- the pieces of a text
pub mod Pieces
-- what serves proofs and private functions alone
pub mod steps
