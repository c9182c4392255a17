-- The words of a text's pieces are words, and the zones of their limits can be written.
use Rattle.std.proofs.Common.{◌≡◌, ℕ, ◌<◌, Bool, false, List, [], ◌∷◌, length, refl, IsUtf8, map}
use Rattle.std.specs.Prelude.{Option, Some}
use Rattle.std.specs.Str.{IsCharBoundary}
use Rattle.std.proofs.lemmas.Str.{IsCharBoundary-start}
use Rattle.doc_types.specs.declared.schema.Schema.{Schema}
use Rattle.doc_types.specs.Schemas.{IsSchema}
use Rattle.query_pieces.specs.declared.piece.Form.{Form}
use Rattle.query_pieces.specs.declared.piece.Form.TheVariants as forms
use Rattle.query_pieces.specs.declared.piece.Piece.{Piece}
use Rattle.query_pieces.specs.Pieces.{Splits, ArePieces, Stands, ends_in_letter, IsWord}
use Rattle.query_pieces.specs.steps.Ends.{Follows}
use Rattle.query_pieces.proofs.EachPiece.{piece_follows}
use Rattle.query_marks.specs.LimitNames.{bytes_of}
use Rattle.query_write.specs.steps.Signs.{alphabet_by}
use Rattle.query_write.proofs.CarriedMarks.{Each, IsRightPiece}
use Rattle.query_grammar.proofs.OneWord.{one_run}
use Rattle.query_write.proofs.RightZones.{right_zones}
use Rattle.query_write.proofs.ZoneNames.{zone_names}
use Rattle.query_grammar.proofs.WordLetters.{stands_word, word_marks}
use Rattle.query_write.proofs.ReadWords.{long_word}
use Rattle.query_marks.specs.QueryWords.{word_of}

right_piece : (fold : ℕ → Option ℕ) (schema : Schema) (text : List ℕ) (inside : Bool) (place : ℕ) (p : Piece) → IsSchema schema → IsUtf8 text → IsCharBoundary text place → place < length text → Stands (alphabet_by fold schema) text inside place p → (form : Form) → p.form ≡ form → IsRightPiece fold schema text form
right_piece fold schema text inside place p is utf8 seam within stands (forms.Word w) e =
    let one = one_run (alphabet_by fold schema) text inside place p w utf8 seam within stands e in
    let word : IsWord (alphabet_by fold schema) text place p = stands_word (alphabet_by fold schema) text inside place p w within stands e in
    (word_of (map (λ (v : ℕ). Some v) one.0), one.2, word_marks (alphabet_by fold schema) text place p w e word, λ gives long. long_word fold gives (bytes_of text w.letters) one.0 schema.min_prefix one.1 is.prefixes long)
right_piece fold schema text inside place p is utf8 seam within stands (forms.Zones limit) e = λ some right. right_zones schema (bytes_of text limit.names) is some (zone_names (alphabet_by fold schema) text inside place p limit stands e) right
right_piece fold schema text inside place p is utf8 seam within stands _ e = tt

pieces_from : (fold : ℕ → Option ℕ) (schema : Schema) (text : List ℕ) (inside : Bool) (place : ℕ) (pieces : List Piece) → IsSchema schema → IsUtf8 text → IsCharBoundary text place → Splits (alphabet_by fold schema) text inside place pieces (length text) → Each (λ p. IsRightPiece fold schema text p.form) pieces
pieces_from fold schema text inside place [] is utf8 seam splits = tt
pieces_from fold schema text inside place (p ∷ pieces) is utf8 seam splits =
    let follows : Follows text place p.to = piece_follows (alphabet_by fold schema) text inside place p utf8 seam splits.0 splits.1 in
    (right_piece fold schema text inside place p is utf8 seam splits.0 splits.1 p.form refl, pieces_from fold schema text (ends_in_letter p.form) p.to pieces is utf8 follows.seam splits.2)

pub right_pieces : (fold : ℕ → Option ℕ) (schema : Schema) (text : List ℕ) (pieces : List Piece) → IsSchema schema → IsUtf8 text → ArePieces (alphabet_by fold schema) text pieces → Each (λ p. IsRightPiece fold schema text p.form) pieces
right_pieces fold schema text pieces is utf8 are = pieces_from fold schema text false 0 pieces is utf8 (IsCharBoundary-start text utf8) are
