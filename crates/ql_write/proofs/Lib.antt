pub mod CanonicalSamples
pub mod Writings
pub mod CanonicalNames
pub mod CanonicalTexts
pub mod CanonicalPieces
pub mod CanonicalParts
pub mod CanonicalSelects
pub mod CanonicalStatements
