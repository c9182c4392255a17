-- the chunk over an image
pub mod Kept
