-- layers, and how they are put together
pub mod Layering
