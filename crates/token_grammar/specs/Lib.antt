-- The tokens of a language, and the classes by which its grammar names them
pub mod Alphabets
-- Which lists of tokens are texts of a grammar, and where a list leaves it
pub mod Language
-- With which tokens the texts of a grammar begin, and which may follow it
pub mod Firsts
-- Which tokens stand for a value
pub mod Values
-- What a reader makes of the tokens before it
pub mod Reading
-- What serves proofs and private functions alone
pub mod steps
