-- images of rows that were put together
pub mod JoinedImages
-- what serves proofs alone
pub mod steps
