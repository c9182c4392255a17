-- the names that are picked
pub mod Picks
