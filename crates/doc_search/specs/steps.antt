pub mod Gathering
pub mod Lacking
-- rankers that look at fields alone
pub mod ByFields
pub mod ListedRows
-- rows that are gone over many at a time
pub mod Windows
