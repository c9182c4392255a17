-- the laws of a disk, of the one in memory
pub mod MemoryLaws
