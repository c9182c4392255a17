-- the standard streams
pub mod Streams
