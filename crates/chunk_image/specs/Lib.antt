-- rows of which a chunk answers alike
pub mod AlikeRows
-- boundaries and spans of a row
pub mod Marks
-- the whole image
pub mod ChunkImage
-- an example
pub mod Example
