-- a keeper that commits can be made with, and jobs be ended
pub mod Ready
pub mod Seats
