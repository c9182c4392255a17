-- whose image some bytes are, and where its parts begin
pub mod Images
-- what serves proofs alone
pub mod steps
