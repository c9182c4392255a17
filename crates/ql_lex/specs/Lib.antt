-- The shapes of tokens, each by its own bytes
pub mod Shapes
-- The tokens of a text, and its faults
pub mod Tokens
-- What tokens stand for
pub mod Values
-- What the faults print
pub mod Faults
-- Texts that are tokens with one space between them
pub mod Spacing
-- What serves proofs and private functions alone
pub mod steps
