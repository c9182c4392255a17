pub mod SeenShapes
pub mod Settings
pub mod Drafts
pub mod Taking
pub mod LineReader
