-- what a worker does with the lines of its door, whatever holds the documents
pub mod Lines
-- what the events of lines show of an index, and which of them may have changed it
pub mod Attempts
-- the seats of workers
pub mod Seats
-- what each worker does with its door, over its tokens of all indexes
pub mod Workers
-- the one history of an index, by what the lines were shown and told
pub mod Histories
-- what becomes of calls that were left in doubt
pub mod Doubts
-- how many faults and stops there are, by what the disk of an index counts
pub mod Faults
-- what it rests on that the history of an index strayed
pub mod Strayings
-- one line of a worker alone, where nothing failed on the way
pub mod Alone
-- the whole: what all workers did, how each index ended, and its one history
pub mod Served
-- what serves proofs alone
pub mod steps
