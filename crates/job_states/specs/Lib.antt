-- the state of a root at the end of a job
pub mod States
