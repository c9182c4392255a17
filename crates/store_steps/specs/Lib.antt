-- what a record of a log says
pub mod Batches
-- what the files of an index stand for
pub mod Directory
-- what is wrong with them
pub mod Damage
-- and in which words that is told
pub mod DamageTexts
-- what the log that grows has after some steps
pub mod Grown
-- a root of which it is in doubt which state it has
pub mod Doubts
-- what a disk keeps of a history
pub mod Kept
-- when a commit is refused
pub mod Refusals
-- what a commit leaves
pub mod Answers
-- files of a small index, byte by byte
pub mod Example
