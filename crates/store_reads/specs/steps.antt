-- what was read of records of a log
pub mod Recents
-- records of logs, and the rows after them
pub mod Records
-- pieces of a log, and the layers that they become
pub mod Pieces
-- what was read of logs
pub mod Loads
-- what was read of their files
pub mod LogFiles
-- what was read of chunks
pub mod Bases
-- what was read of a root and of what it names
pub mod Founds
