pub mod Filling
pub mod Turning
pub mod OneReading
pub mod SameReplies
