pub mod Queues
pub mod Callers
