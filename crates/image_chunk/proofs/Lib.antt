pub mod Stepping
pub mod Fields
pub mod Cursors
pub mod Starting
pub mod Opening
pub mod Building
-- layers that were put together as an image
pub mod JoinedLayers
-- how long an image is
pub mod Sizes
