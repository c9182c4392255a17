-- the limit of the log alone
pub mod Limits
-- the parts of a commit
pub mod Stages
-- what is found on a disk
pub mod Finds
-- how the first files are made
pub mod Beginnings
-- the parts of the end of a job
pub mod Endings
-- what is to be known before a call is charged
pub mod Charging
