-- what is recent after changes
pub mod Recents
-- records of logs that are taken one by one, and pieces that are laid
pub mod Loads
-- the bytes of a log whose records were read
pub mod LogBytes
-- files of logs that were read
pub mod FilesRead
-- rows that were read, by ascending id
pub mod Layers
-- layers of which rows died, and one more
pub mod NewLayers
-- chunks that stay on the disk meanwhile
pub mod Staying
-- what is recent has a layer
pub mod Laid
-- pieces one behind the other
pub mod BothPieces
-- chunks that were read
pub mod Bases
-- chunks as layers, over which logs are laid
pub mod Chunked
-- what was read of a disk is what its files hold
pub mod Founds
-- logs that end early
pub mod Early
-- the root that was read
pub mod RootFound
