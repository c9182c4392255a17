-- the texts of files, and what is read of them
pub mod Texts
-- statuses, and what they print
pub mod Statuses
-- what is printed on the two streams
pub mod Printing
-- things that are given out and handed back
pub mod Lending
-- what a host is asked for
pub mod Requests
-- a host over memory
pub mod HostMemory
pub mod steps
