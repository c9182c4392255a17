-- what a check answers
pub mod Checks
-- what the looks at parts begin from
pub mod Begun
