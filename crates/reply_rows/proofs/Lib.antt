-- payloads that follow others, and the parts of a result set
pub mod Numbering
-- how long the shortest replies are
pub mod Short
-- result sets one after another
pub mod Following
