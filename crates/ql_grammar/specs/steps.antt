-- The grammar itself, and what serves proofs and private functions alone.
pub mod Grammar
pub mod GoingOn
pub mod Selecting
pub mod Stating
