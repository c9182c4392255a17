-- what each character and each tag of a text is to its words
pub mod TextSigns
-- words: maximal runs of letters, with their boundaries and positions
pub mod Words
-- the spans of zones
pub mod Spans
-- the tokens of a text
pub mod Tokens
-- what serves proofs and private functions alone
pub mod steps
