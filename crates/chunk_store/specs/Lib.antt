-- files with their bytes, and what calls make of them
pub mod Images
-- what a crash may leave, and how it moves with each call
pub mod CrashModel
-- what a crash at any moment of several calls leaves
pub mod Calls
-- the disk in memory: the calls on it, what a read gives after them, what a crash may leave
pub mod Memory
pub mod steps
