-- what the kinds of faults print
pub mod KindTexts
-- the words that a slice spells
pub mod QueryWords
-- the names and numbers of limits
pub mod LimitNames
-- the numbers of quoted pieces
pub mod Hows
-- what limits stand for
pub mod Limits
-- what each piece means by those before it, and what is wrong with it by itself
pub mod Marks
-- which limits stand over a keyword
pub mod LimitsOver
-- how far the marks of a text are given
pub mod Enough
-- what serves proofs and private functions alone
pub mod steps
