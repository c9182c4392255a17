pub mod RowSizes
pub mod Staying
pub mod Built
