-- what stands at a place of some bytes
pub mod Standing
-- short numbers in a row, and what the marks of a field and of a span are read as
pub mod Reading
