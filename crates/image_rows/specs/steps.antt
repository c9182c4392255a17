-- words between boundaries
pub mod Between
-- which words stand where
pub mod Owned
-- what the parts of an image say
pub mod Contents
-- which contents are those of rows
pub mod ContentsOf
-- numbers of hits
pub mod Counts
