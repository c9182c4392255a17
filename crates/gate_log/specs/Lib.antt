-- records as bytes
pub mod Frames
-- logs: what a file of records stands for, and where a log stands in it
pub mod Logs
-- what a log is read as
pub mod Reading
pub mod steps
