pub mod HeldRows
pub mod Indexes
