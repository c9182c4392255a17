-- the words of the command line after the program's name
pub mod CommandLine
-- the configuration that they name
pub mod Configuring
-- what a run asks its host for
pub mod Requests
-- what a run does through its host
pub mod Deeds
-- what a status says of lines that go to the output
pub mod Output
-- stores that were opened for indexes
pub mod Openings
-- how a run serves
pub mod Plans
-- what each mode does
pub mod Sessions
pub mod Checks
pub mod Selftests
-- a run of any mode
pub mod Runs
pub mod steps
