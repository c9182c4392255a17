pub mod Gates
pub mod Inverses
pub mod Joining
pub mod ReadingChunks
pub mod Replacements
pub mod SlotLaws
pub mod Spelling
pub mod Standing
