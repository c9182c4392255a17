pub mod Nameless
pub mod Naming
pub mod Ready
pub mod Wholes
