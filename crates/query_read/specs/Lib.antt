-- what a text is answered by, and the grammar with its values
pub use Rattle.query_grammar.specs.Queries
pub use Rattle.query_grammar.specs.Grammar
pub use Rattle.query_grammar.specs.declared.fault.QueryFault
-- the marks of a text and its pieces, by a table of characters
pub use Rattle.query_marks.specs.Marks
pub use Rattle.query_pieces.specs.Pieces
pub use Rattle.query_pieces.specs.Letters
pub use Rattle.query_pieces.specs.declared.piece.Piece
pub use Rattle.charset_map.specs.Spans
-- the keywords of a tree
pub use Rattle.query_tree.specs.TreeKeys
-- what serves proofs and private functions alone
pub mod steps
