-- what stays on the disk, and the chunk that is made beside it
pub mod Making
