-- the marks of a field and of a span
pub mod Marking
-- words with their places, and how these are grouped
pub mod Gathering
-- occurrences of words
pub mod Places
-- the entry of a row
pub mod Posting
