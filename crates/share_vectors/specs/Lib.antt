-- who uses an engine
pub mod Users
