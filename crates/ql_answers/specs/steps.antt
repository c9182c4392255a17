pub mod Serving
pub mod Planning
pub mod Answering
pub mod Turning
pub mod Tables
