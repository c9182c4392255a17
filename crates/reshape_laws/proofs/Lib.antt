pub mod Ids
pub mod RowMaps
pub mod Members
pub mod Layers
pub mod Rebased
pub mod Jobs
pub mod Schemas
