-- what the files have once a job has ended
pub mod Endings
