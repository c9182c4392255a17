-- calls that the history of an index decides
pub mod Decided
-- shares and counts that stand still
pub mod Faultless
-- runs in which nothing fails
pub mod GoodRuns
