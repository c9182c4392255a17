-- What the reader of a text answers: its query, exactly where nothing is left but the end, or the text is in the grammar and
-- nothing is wrong with it; and else its first fault.
use Rattle.std.specs.Prelude.{◌≡◌, ℕ, List, Option, Some, None, Result, Ok, Err, length}
use Rattle.std.specs.List.{flat_map}
use Rattle.srch_base.specs.declared.faults.Or.{Or}
use Rattle.srch_base.specs.declared.faults.Or.TheVariants.{NoMemory, Fault}
use Rattle.query_pieces.specs.declared.piece.Piece.{Piece}
use Rattle.query_pieces.specs.Pieces.{ArePieces}
use Rattle.query_tree.specs.declared.query.Node.{Node}
use Rattle.query_tree.specs.declared.query.Query.{Query}
use Rattle.query_grammar.specs.declared.fault.QueryFault.{QueryFault}
use Rattle.query_marks.specs.declared.mark.Mark.{Mark}
use Rattle.query_marks.specs.declared.mark.Sign.TheVariants as signs
pub use Rattle.query_marks.specs.LimitsOver.{keys_of_sign as keys_of}
use Rattle.query_marks.specs.Marks.{Setting, alphabet_in, marks_of}
use Rattle.query_grammar.specs.Grammar.{Is, IsQuery}
use Rattle.query_grammar.specs.QueryFaults.{Any, Told, IsFirstFault, IsCandidate}

-- The marks have this query as their value: it has no root where nothing is left but the end, and where it has one the marks
-- are in the grammar, with groups nested at most 32 deep, and nothing is wrong with them.
abbrev pub IsRoot : Option Node → List Mark → Type 0
IsRoot None marks = Is signs.End marks
IsRoot (Some node) marks = IsQuery Any 32 node marks × ((told : Told) → IsCandidate marks told → ⊥)

abbrev pub IsValue : Query → List Mark → Type 0
IsValue query marks = IsRoot query.root marks × (query.keywords ≡ length (flat_map (λ m. keys_of m.sign) marks))

abbrev pub told_of : QueryFault → Told
told_of fault = record { place = fault.place; kind = fault.kind; name = fault.name }

-- The marks have this first fault; those of which nothing is left but the end have none.
abbrev pub IsRefused : QueryFault → List Mark → Type 0
IsRefused fault marks = IsFirstFault marks (told_of fault) × (Is signs.End marks → ⊥)

-- what is answered by the marks of a text; without memory nothing is said
abbrev pub IsAnswer : Result Query (Or QueryFault) → List Mark → Type 0
IsAnswer (Ok query) marks = IsValue query marks
IsAnswer (Err NoMemory) marks = Unit {0}
IsAnswer (Err (Fault fault)) marks = IsRefused fault marks

-- What is answered for a text, by the pieces that it has.
abbrev pub ReadsQuery : Setting → List ℕ → Result Query (Or QueryFault) → Type 0
ReadsQuery setting text result = (pieces : List Piece) → ArePieces (alphabet_in setting) text pieces → IsAnswer result (marks_of setting text pieces)
