-- what the words after the program's name stand for
pub mod Modes
-- what a mode says that was read
pub mod Reading
pub mod steps
