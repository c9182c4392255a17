-- the fault that decides is the first by class and place
pub mod FirstFaults
-- the aliases of a list, item by item
pub mod Aliased
-- what `*` shows, attribute by attribute
pub mod Numbering
-- what holds of a SELECT that nothing is wrong with
pub mod NoFault
-- a SELECT that was gone over
pub mod GoneOver
-- what such a SELECT asks of its index
pub mod Questions
pub mod Asked
-- what the answers to a SELECT mean
pub mod Meaning
-- a SELECT means one thing, or is refused for one reason
pub mod OneSelection
