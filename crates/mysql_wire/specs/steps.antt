pub mod Numbering
pub mod NumberFronts
pub mod Heads
pub mod Scanning
pub mod Layouts
pub mod ResponseFronts
