-- what answers the commands of a connection
pub mod Machines
-- a connection from its greeting to its end
pub mod Line
pub mod steps
