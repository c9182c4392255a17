-- counts of the elements of a list that pass a test
pub mod Counting
-- the greatest of some numbers
pub mod Greatest
-- hits that differ by a number below a limit
pub mod FewHits
-- hits at one offset
pub mod AtOffset
-- the ring of the counts of the last offsets
pub mod OffsetRing
-- the table of the words that were met
pub mod WordTable
-- what a field gives
pub mod FieldValues
-- offsets as whole numbers
pub mod WholeOffsets
-- the greatest of what hits give, one hit more at a time
pub mod AnyOrder
-- hits of one keyword
pub mod LoneValues
-- the most that hits of so many keywords weigh
pub mod MostWeights
-- the most that hits of so many keywords weigh in some fields
pub mod MostWithin
-- hits whose fields ascend
pub mod Runs
-- the first hit of a field
pub mod FirstHits
