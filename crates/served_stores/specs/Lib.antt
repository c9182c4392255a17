-- stores that were opened, and what their names say of them
pub mod Stores
-- what comes of serving them
pub mod Serving
-- what serves proofs alone
pub mod steps
