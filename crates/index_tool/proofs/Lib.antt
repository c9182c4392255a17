-- characters that are folded
pub mod Folded
-- lines that are put together of pieces
pub mod Putting
-- lines that were printed one after the other
pub mod Printed
-- a line of each element of a list
pub mod EachLine
-- the lines of a word's places
pub mod HitRows
-- the lines of chunks
pub mod EachChunk
-- what was found is what the files hold
pub mod Held
-- deeds of a run
pub mod Doing
-- the store of an index, looked at
pub mod Looked
-- whole runs
pub mod Running
