-- what the other files of a directory hold doesn't change with its newer log
pub mod Naming
-- one more batch in the newer log
pub mod Taking
-- what an image gives that is as root and log left it
pub mod Giving
-- how a disk keeps a history from call to call
pub mod Keeping
-- several calls in a row
pub mod Leaving
-- how long a record is
pub mod Lengths
-- what the log that grows has
pub mod Growing
-- no row is of a later commit
pub mod Born
-- the example
pub mod Examples
-- what is kept once a store was opened
pub mod Opening
-- rows apart
pub mod Apart
