pub mod ChunkRows
pub mod Collecting
pub mod Listing
pub mod Selecting
