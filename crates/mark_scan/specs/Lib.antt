-- the parts of a text: comments, tags, and plain text between them
pub mod Markup
-- what a tag does: removed, the end of a paragraph, or of a zone
pub mod Tags
-- where a sentence ends
pub mod Sentences
-- the marks of a text
pub mod Marks
-- what serves proofs and private functions alone
pub mod steps
