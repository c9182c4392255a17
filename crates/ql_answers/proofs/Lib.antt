-- places of a list as a loop goes over it
pub mod Placing
-- the index that stands at a name's place
pub mod Placed
-- what a statement that writes wants
pub mod Written
-- what is left of a plan once the state has turned
pub mod Turned
-- a list that is mapped in place
pub mod Putting
-- want of memory is told of whatever a statement wants
pub mod SaidBy
-- a row's payload, value by value
pub mod Cells
-- a name of an index is served in one way, a SELECT and an INSERT are read in one way, and so is each statement
pub mod OneServed
pub mod OneSearch
pub mod OneInsert
pub mod OneWrite
pub mod OnePlan
-- what came of a plan has one reply
pub mod OneReply
