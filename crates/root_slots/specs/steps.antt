-- what each part of replacing makes of a slot
pub mod Gates
-- a state with its length, as bytes
pub mod Spelled
-- the root of two slots, by what each is read as
pub mod Chosen
