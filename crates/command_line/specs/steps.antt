pub mod Words
pub mod Options
pub mod Commands
pub mod Found
