-- the weight of a document by its hits
pub mod Weight
-- what a field gives to a ranking expression
pub mod Factors
-- the fields of hits, and hits of one keyword
pub mod Fields
-- hits that are of so many keywords at most
pub mod Limits
-- what serves proofs and private functions alone
pub mod steps
