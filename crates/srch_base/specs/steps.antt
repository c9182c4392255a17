-- rises and causes over calls in a row
pub mod Counting
-- what is recorded over calls in a row
pub mod Telling
-- what moved over calls in a row
pub mod Moving
-- writing some bytes to their end
pub mod Writing
-- number fields among other bytes
pub mod Fields
