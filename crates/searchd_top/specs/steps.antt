-- what calls leave of a host
pub mod Sides
-- stores that are opened one after the other
pub mod Openings
-- serving over stores in hand
pub mod Servings
