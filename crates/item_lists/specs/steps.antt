-- items at a place
pub mod Places
