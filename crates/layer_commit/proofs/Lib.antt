-- rows by their ids, as lists and as maps
pub mod RowMaps
-- the rows of layers that live
pub mod Lives
-- lists of dead rows
pub mod DeadRows
-- operations tried one by one
pub mod Tried
-- layers with rows that died, and one more
pub mod Layered
