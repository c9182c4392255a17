-- a step is published
pub mod Publishing
-- a commit is entered
pub mod Staging
-- a commit that was entered, and then settled or not
pub mod Ending
-- a token that doesn't contradict its keeper
pub mod Straying
-- a commit over layers follows in the history
pub mod Following
-- a commit that is prepared
pub mod Accepting
-- all tokens are told the whole history
pub mod Telling
-- loops that look at each element of a list
pub mod Fitting
-- files that were synced
pub mod Steadied
-- what was read of a disk is what it keeps
pub mod Founds
-- the first log and the first root are written
pub mod FirstFiles
-- an index that was begun
pub mod Begun
-- chunks of a snapshot that are on the disk
pub mod Counted
pub mod Reshaping
-- what is known of counts goes on over a call
pub mod Carrying
-- what the answers of commits and jobs say of counts
pub mod Charged
-- a stop has its cause
pub mod Stopped
