-- what the end of a job writes
pub mod Jobs
