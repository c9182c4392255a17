-- one root
pub mod OneRoot
-- one reading of a log
pub mod OneLog
-- one directory
pub mod OneDirectory
-- one damage of chunks
pub mod OneChunk
-- the laws of images
pub mod ImageLaws
-- one damage, or none
pub mod OneDamage
-- some root, or a slot that is wrong
pub mod SomeRoot
-- good chunks, or wrong ones
pub mod SomeChunks
-- a log that is read, or wrong
pub mod SomeLog
-- a directory, or damage
pub mod SomeDirectory
