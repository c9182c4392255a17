-- the tokens of an engine are those of its users; steps of an index without documents
pub mod Bare
pub mod Beginning
pub mod Differ
pub mod Users
