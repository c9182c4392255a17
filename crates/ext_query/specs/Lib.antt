-- what a text is answered by, the grammar with its values, and queries without the limit on nesting
pub use Rattle.query_grammar.specs.Queries
pub use Rattle.query_grammar.specs.Grammar
pub use Rattle.query_grammar.specs.DeepValues
-- the marks of a text and its pieces
pub use Rattle.query_marks.specs.Marks
pub use Rattle.query_pieces.specs.Pieces
-- the written form of a query
pub use Rattle.query_write.specs.Written
-- the keywords of a tree
pub use Rattle.query_tree.specs.TreeKeys
