-- ids one row at a time
pub mod Ascending
