-- the words of a layer that begin so
pub mod Parts
-- the words of all layers, merged
pub mod Merging
-- the words that are kept of those that were found
pub mod Keeping
