-- the columns of an index, as statements name them
pub mod Columns
