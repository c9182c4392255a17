-- result sets as payloads
pub mod ResultSets
-- replies as they are written
pub mod Written
-- what serves proofs and private functions alone
pub mod steps
