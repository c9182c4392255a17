-- tokens that stay as they are
pub mod Staying
-- room for what is left of engines
pub mod Rooms
-- the last tokens of workers
pub mod Lasts
-- how engines are made one after the other
pub mod Makings
-- the tokens of all workers
pub mod Seats
