pub mod Deciding
pub mod Sharing
pub mod Serving
pub mod Replying
pub mod Ending
