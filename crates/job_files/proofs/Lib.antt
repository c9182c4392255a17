-- what the log that grows has since a job began
pub mod Growing
-- files that no state names
pub mod Aside
-- new files are written
pub mod Writing
-- what the new state of a job stands for
pub mod Jobs
-- the root is replaced by it
pub mod Replacing
-- a file that no state names is removed
pub mod Removing
