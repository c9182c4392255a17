-- rows of which no two have one id
pub mod Ids
-- maps of rows by their ids
pub mod RowMaps
-- the rows of layers that live
pub mod Livings
-- layers that were put together
pub mod Upkeep
-- sorted rows and layers of them
pub mod Limits
-- the layers on a disk, and the schema
pub mod Kept
-- layers behind a place, and rows at one
pub mod Behind
-- layers that are put together more than once
pub mod Again
