pub mod TheSchema
pub mod Rows
pub mod Layers
mod PlainSchema
pub mod Committed
