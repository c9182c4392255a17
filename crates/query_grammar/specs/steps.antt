-- what serves proofs and private functions alone
-- the classes by which the grammar names marks
pub mod Classes
-- the tests of classes are right
pub mod ClassLaws
-- the alphabet of the grammar
pub mod MarkAlphabet
-- the grammar over classes, by depth
pub mod QueryGrammar
-- where a group can't begin
pub mod Joined
-- what holds of the marks of each text
pub mod MarkFacts
-- what the parts of the reader answer
pub mod Answers
