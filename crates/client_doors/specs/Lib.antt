-- doors at their beginning
pub mod Fresh
-- things that were given out, and those that came back
pub mod Lending
