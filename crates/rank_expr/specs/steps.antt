-- what serves proofs and private functions alone
-- the classes by which the grammar names marks
pub mod Classes
-- the tests of classes are right
pub mod ClassLaws
-- the alphabet of the grammar
pub mod MarkAlphabet
-- the grammar over classes, by depth
pub mod ExprGrammar
-- what parts of the reader answer
pub mod Joining
-- the values of a pass over the fields
pub mod Summing
