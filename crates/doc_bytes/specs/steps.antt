-- words whose positions ascend
pub mod Sorted
