-- whose image the bytes are
pub mod Images
-- where cursors stand
pub mod Places
-- what serves proofs alone
pub mod steps
