-- what a token took of lines of calls
pub mod Takings
-- what an end answers
pub mod Endings
