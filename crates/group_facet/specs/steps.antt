pub mod Folding
pub mod Showing
