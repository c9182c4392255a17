-- The value of a text is one without the limit on nesting, and such a one is the value where groups keep to the limit.
use Rattle.std.proofs.Common.{◌≡◌, ℕ, List, [], ◌∷◌, Option, Some, None, inl, inr, sym, ◌∙◌, ap, subst}
use Rattle.std.specs.Prelude.{◌≢◌, Contains, length}
use Rattle.query_pieces.specs.declared.piece.Piece.{Piece}
use Rattle.query_marks.specs.declared.mark.Mark.{Mark}
use Rattle.query_marks.specs.declared.mark.Sign.TheVariants as signs
use Rattle.query_marks.specs.Marks.{Setting, mark_at, mark_of, after, before_marks, marks_from, marks_of, at_start}
use Rattle.query_tree.specs.declared.query.Node.{Node}
use Rattle.query_tree.specs.declared.query.Query.{Query}
use Rattle.query_grammar.specs.Grammar.{Is}
use Rattle.query_grammar.specs.Queries.{IsRoot, IsValue}
use Rattle.query_grammar.specs.DeepValues.{IsDeepRoot, IsDeepValue, IsShallow}
use Rattle.query_grammar.proofs.MarkPlaces.{none_contained, contained_cases}
use Rattle.query_read.proofs.OpenQueries.{text_of_root}
use Rattle.query_read.proofs.AtDepth.{root_within}

-- nothing is wrong with any of the marks
abbrev AreRight : List Mark → Type 0
AreRight marks = (m : Mark) → Contains marks m → m.wrong ≡ None

-- ---- a text of which nothing is left but the end

some_before : (mark : Option Mark) (marks : List Mark) → marks ≢ [] → before_marks mark marks ≢ []
some_before None marks some = some
some_before (Some m) marks some = λ e. cc

some_marks : (setting : Setting) (text : List ℕ) (state : _) (place : ℕ) (pieces : List Piece) → marks_from setting text state place pieces ≢ []
some_marks setting text state place [] = λ e. cc
some_marks setting text state place (p ∷ pieces) =
    some_before (mark_of setting state text place p.form) (marks_from setting text (after setting state text p.form) p.to pieces) (some_marks setting text (after setting state text p.form) p.to pieces)

alone_before : (mark : Option Mark) (marks : List Mark) (t : Mark) → marks ≢ [] → (marks ≡ t ∷ [] → t.wrong ≡ None) → before_marks mark marks ≡ t ∷ [] → t.wrong ≡ None
alone_before None marks t some rest e = rest e
alone_before (Some m) marks t some rest e =
    let none : marks ≡ [] = cc in
    absurd (some none)

-- a mark that stands alone is the end's, with which nothing is wrong
alone_right : (setting : Setting) (text : List ℕ) (state : _) (place : ℕ) (pieces : List Piece) (t : Mark) → marks_from setting text state place pieces ≡ t ∷ [] → t.wrong ≡ None
alone_right setting text state place [] t e =
    let same : mark_at (length text) None signs.End ≡ t = cc in
    sym (ap (λ (m : Mark). m.wrong) same)
alone_right setting text state place (p ∷ pieces) t e =
    alone_before (mark_of setting state text place p.form) (marks_from setting text (after setting state text p.form) p.to pieces) t (some_marks setting text (after setting state text p.form) p.to pieces)
    (alone_right setting text (after setting state text p.form) p.to pieces t) e

end_right : (setting : Setting) (text : List ℕ) (pieces : List Piece) → Is signs.End (marks_of setting text pieces) → AreRight (marks_of setting text pieces)
end_right setting text pieces (t, e, is) m has = elim (contained_cases t [] m (subst (λ l. Contains l m) e has)) [
  | inl same ↦ sym (ap (λ (x : Mark). x.wrong) same) ∙ alone_right setting text (at_start setting) 0 pieces t e
  | inr never ↦ absurd (none_contained m never)
]

-- ---- values

record DeepRoot (root : Option Node) (marks : List Mark) : Type 0 where
  deep : IsDeepRoot root marks
  right : AreRight marks

root_deep : (setting : Setting) (text : List ℕ) (pieces : List Piece) (root : Option Node) → IsRoot root (marks_of setting text pieces) → DeepRoot root (marks_of setting text pieces)
root_deep setting text pieces None is = record { deep = is; right = end_right setting text pieces is }
root_deep setting text pieces (Some node) is =
    let both = text_of_root node (marks_of setting text pieces) is in
    record { deep = (32, both.0); right = both.1 }

pub value_deep : (setting : Setting) (text : List ℕ) (pieces : List Piece) (query : Query) → IsValue query (marks_of setting text pieces) → IsDeepValue query (marks_of setting text pieces)
value_deep setting text pieces query value =
    let root : DeepRoot query.root (marks_of setting text pieces) = root_deep setting text pieces query.root value.0 in
    record { root = root.deep; right = root.right; keywords = value.1 }

root_shallow : (root : Option Node) (marks : List Mark) → AreRight marks → IsShallow marks → IsDeepRoot root marks → IsRoot root marks
root_shallow None marks right shallow is = is
root_shallow (Some node) marks right shallow (depth, query) = root_within depth node marks query right shallow

pub value_shallow : (query : Query) (marks : List Mark) → IsDeepValue query marks → IsShallow marks → IsValue query marks
value_shallow query marks value shallow = (root_shallow query.root marks value.right shallow value.root, value.keywords)
