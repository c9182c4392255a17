-- which rows of a snapshot stand in chunks on the disk, and which in memory
pub mod Places
-- the steps of an index, and which lists of them are good histories
pub mod History
-- how far the log is after some steps
pub mod Logs
-- what lies between two snapshots of one shape
pub mod Since
