pub mod Spellings
pub mod HitSteps
pub mod Writing
pub mod Reading
pub mod Entries
