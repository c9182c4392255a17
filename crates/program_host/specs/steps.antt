-- how the line of a status is put together
pub mod Lines
