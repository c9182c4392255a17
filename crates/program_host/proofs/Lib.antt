pub mod Copies
pub mod Lined
pub mod StorePlaces
