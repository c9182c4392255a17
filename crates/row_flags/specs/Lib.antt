-- what is known of rows by words alone
pub mod Windows
-- what serves proofs and private functions alone
pub mod steps
