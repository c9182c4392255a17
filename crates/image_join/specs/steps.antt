-- the chunks that are put together
pub mod Parts
-- their rows that live, and the numbers that these get
pub mod Numbering
-- the entries of a word
pub mod Entries
-- the words that were gone over
pub mod Merging
-- posting lists one behind the other
pub mod Stacking
-- what becomes of rows that are in order
pub mod OrderedRows
