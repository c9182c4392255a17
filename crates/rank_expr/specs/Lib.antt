-- the pieces of a text
pub mod Pieces
-- the marks of a text
pub mod Marks
-- the grammar, with its values
pub mod Grammar
-- the first fault of a text
pub mod ExprFaults
-- the weight that an expression gives a document
pub mod ExpressionWeight
-- expressions that look at which fields have a hit, and at no more of hits
pub mod ByFields
-- what serves proofs and private functions alone
pub mod steps
