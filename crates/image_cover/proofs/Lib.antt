mod AllLists
pub mod Apart
mod Counting
mod Listing
pub mod Taken
