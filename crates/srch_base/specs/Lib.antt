-- what faults print
pub mod Faults
-- counts of faults, and what a rise says
pub mod Counts
-- what a link records of the bytes that went over it
pub mod Told
-- what moved over a link, and its meters
pub mod Moves
-- what a door answers
pub mod Doors
-- links and doors over memory
pub mod Memory
-- number fields
pub mod Numbers
-- the bytes of a word, a name or a text
pub mod Places
pub mod steps
