pub mod Growing
pub mod Chunks
pub mod Ends
pub mod Layouts
pub mod Lengths
pub mod Pushing
