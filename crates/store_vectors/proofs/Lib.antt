pub mod LastNumber
pub mod Rooms
