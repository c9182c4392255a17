-- the lines of a door, one after another
pub mod Turns
-- a seat before and after its worker's work
pub mod Working
