-- items that are spelled one behind the other
pub mod Items
-- what serves proofs alone
pub mod steps
