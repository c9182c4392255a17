pub mod Merging
pub mod Moved
pub mod Numbers
pub mod Taking
