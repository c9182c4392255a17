pub mod OnceParts
pub mod OnceSelects
pub mod OnceStatements
pub mod OncePackets
pub mod Faults
