-- how the documents of an INSERT are built
pub mod Documents
