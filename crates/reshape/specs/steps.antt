-- which rows move, and the numbers of those that don't
pub mod Moving
