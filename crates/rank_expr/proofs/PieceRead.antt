-- What the cursor makes of a piece.
use Rattle.std.proofs.Common.{arith, ◌≡◌, ◌+◌, ◌-◌, ◌<◌, ◌≤◌, ℕ, List, [], ◌∷◌, Bool, true, false, length, drop, sym, ◌∙◌, ap, length-drop}
use Rattle.std.specs.Prelude.{if◌then◌else◌, slice_index, nat_lt, ◌==◌}
use Rattle.std.proofs.lemmas.Bool.{eqb-true}
use Rattle.doc_types.specs.declared.schema.Schema.{Schema}
use Rattle.rank_expr.specs.declared.mark.Mark.{Mark}
use Rattle.rank_expr.specs.declared.mark.Sign.{Sign}
use Rattle.rank_expr.specs.Pieces.{is_blank, piece_of}
use Rattle.rank_expr.specs.Marks.{in_scope, is_due_after, level_after, mark_of, marks_from}
use Rattle.rank_expr.specs.steps.Classes.{is_end}
use Rattle.rank_expr.proofs.PieceSizes.{IsSized, piece_sized, scoped_no_end}
use Rattle.rank_expr.proofs.MarkSteps.{first_mark}

pub some_text : (text : List ℕ) (b : Bool) → b ≡ (length text == 0) → b ≡ false → 0 < length text
some_text [] b e f = cc
some_text (x ∷ text) b e f = omega arith

pub no_text : (text : List ℕ) (b : Bool) → b ≡ (length text == 0) → b ≡ true → length text ≡ 0
no_text text b e t = eqb-true (length text) 0 (sym e ∙ t)

pub size_fits : (schema : Schema) (text : List ℕ) (piece : Sign × ℕ) → 0 < length text → piece ≡ ((piece_of schema text).sign, (piece_of schema text).size) → (1 ≤ piece.1) × (piece.1 ≤ length text)
size_fits schema text piece some is =
    let sized = piece_sized schema text some in
    let same : piece.1 ≡ (piece_of schema text).size = ap (λ (p : Sign × ℕ). p.1) is in
    (omega (arith, same, sized.least), omega (arith, same, sized.most))

pub rest_fits : (schema : Schema) (at limit : ℕ) (text rest : List ℕ) (piece : Sign × ℕ) → 0 < length text → piece ≡ ((piece_of schema text).sign, (piece_of schema text).size) → rest ≡ drop piece.1 text → at + length text < limit → at + piece.1 + length rest < limit
rest_fits schema at limit text rest piece some is rest_is small =
    let fits = size_fits schema text piece some is in
    let size : length rest ≡ length text - piece.1 = ap length rest_is ∙ length-drop piece.1 text in
    omega (arith, fits.1, size, small)

module _ (schema : Schema) (due : Bool) (level at : ℕ) (text rest : List ℕ) (piece : Sign × ℕ) (scoped : Sign) (due2 : Bool) (level2 : ℕ) where
  abbrev first : Sign
  first = (piece_of schema text).sign

  abbrev size : ℕ
  size = (piece_of schema text).size

  abbrev mark : Mark
  mark = mark_of due level at first

  pub piece_read : 0 < length text → is_blank (slice_index text 0) ≡ false → piece ≡ (first, size) → rest ≡ drop piece.1 text → scoped ≡ in_scope (nat_lt 0 level) piece.0 → due2 ≡ is_due_after piece.0 → level2 ≡ level_after level piece.0
      → record { at = at; sign = scoped; due = due } ∷ (if is_end scoped then [] else marks_from schema due2 level2 (at + piece.1) 0 rest) ≡ marks_from schema due level at 0 text
  piece_read some plain is rest_is scoped_is due_is level_is =
      let sized : IsSized (length text) (piece_of schema text) = piece_sized schema text some in
      let scoped_so : scoped ≡ in_scope (nat_lt 0 level) first = scoped_is ∙ ap (λ (p : Sign × ℕ). in_scope (nat_lt 0 level) p.0) is in
      let goes_on : is_end (in_scope (nat_lt 0 level) first) ≡ false = scoped_no_end (nat_lt 0 level) first sized.no_end in
      let due_so : due2 ≡ is_due_after first = due_is ∙ ap (λ (p : Sign × ℕ). is_due_after p.0) is in
      let level_so : level2 ≡ level_after level first = level_is ∙ ap (λ (p : Sign × ℕ). level_after level p.0) is in
      let rest_so : rest ≡ drop size text = rest_is ∙ ap (λ (p : Sign × ℕ). drop p.1 text) is in
      ap (λ (s : Sign). record { at = at; sign = s; due = due } ∷ (if is_end s then [] else marks_from schema due2 level2 (at + piece.1) 0 rest)) scoped_so
      ∙ ap (λ (b : Bool). mark ∷ (if b then [] else marks_from schema due2 level2 (at + piece.1) 0 rest)) goes_on
      ∙ ap (λ (d : Bool). mark ∷ marks_from schema d level2 (at + piece.1) 0 rest) due_so
      ∙ ap (λ (l : ℕ). mark ∷ marks_from schema (is_due_after first) l (at + piece.1) 0 rest) level_so
      ∙ ap (λ (u : List ℕ). mark ∷ marks_from schema (is_due_after first) (level_after level first) (at + piece.1) 0 u) rest_so
      ∙ ap (λ (p : Sign × ℕ). mark ∷ marks_from schema (is_due_after first) (level_after level first) (at + p.1) 0 (drop size text)) is
      ∙ sym (first_mark schema due level at text some plain sized.least sized.most)
