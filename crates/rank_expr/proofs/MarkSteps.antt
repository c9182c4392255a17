-- The marks of a text, one after the other: past its blanks, and past its first piece.
use Rattle.std.proofs.Common.{arith, ◌≡◌, ◌+◌, ◌-◌, ◌<◌, ◌≤◌, ℕ, zero, suc, List, [], ◌∷◌, Bool, true, false, length, drop, refl, sym, ◌∙◌, ap, subst, add-zero, length-drop}
use Rattle.std.specs.Prelude.{slice_index}
use Rattle.std.specs.List.{prefix_len}
use Rattle.std.proofs.lemmas.List.Sums.{prefix_len-le-length}
use Rattle.doc_types.specs.declared.schema.Schema.{Schema}
use Rattle.rank_expr.specs.declared.mark.Mark.{Mark}
use Rattle.rank_expr.specs.declared.mark.Sign.TheVariants as signs
use Rattle.rank_expr.specs.Pieces.{is_blank, piece_of}
use Rattle.rank_expr.specs.Marks.{is_due_after, level_after, mark_of, marks_from}

module _ (schema : Schema) (due : Bool) (level : ℕ) where
  -- the bytes of the piece before are passed
  pub past_piece : (n at : ℕ) (text : List ℕ) → n ≤ length text → marks_from schema due level at n text ≡ marks_from schema due level (at + n) 0 (drop n text)
  unfolding marks_from
  past_piece zero at text small = ap (λ k. marks_from schema due level k 0 text) (sym (add-zero at))
  past_piece (suc n) at [] small = absurd (omega (arith, small))
  past_piece (suc n) at (b ∷ text) small =
      let e : at + 1 + n ≡ at + suc n = omega arith in
      past_piece n (at + 1) text (omega (arith, small)) ∙ ap (λ k. marks_from schema due level k 0 (drop n text)) e

  blank_next : (at b : ℕ) (text : List ℕ) → is_blank b ≡ true → marks_from schema due level at 0 (b ∷ text) ≡ marks_from schema due level (at + 1) 0 text
  unfolding marks_from
  blank_next at b text e = rw e

  -- blanks are passed
  pub past_blanks : (at : ℕ) (text : List ℕ) → marks_from schema due level at 0 text ≡ marks_from schema due level (at + prefix_len is_blank text) 0 (drop (prefix_len is_blank text) text)
  past_blanks at [] = ap (λ k. marks_from schema due level k 0 []) (sym (add-zero at))
  past_blanks at (b ∷ text) = by (is_blank b) refl (past_blanks (at + 1) text)
    where
      by : (c : Bool) → is_blank b ≡ c → marks_from schema due level (at + 1) 0 text ≡ marks_from schema due level (at + 1 + prefix_len is_blank text) 0 (drop (prefix_len is_blank text) text)
          → marks_from schema due level at 0 (b ∷ text) ≡ marks_from schema due level (at + prefix_len is_blank (b ∷ text)) 0 (drop (prefix_len is_blank (b ∷ text)) (b ∷ text))
      by false e rest = rw e (ap (λ k. marks_from schema due level k 0 (b ∷ text)) (sym (add-zero at)))
      by true e rest =
          let places : at + 1 + prefix_len is_blank text ≡ at + (1 + prefix_len is_blank text) = omega arith in
          let one : 1 + prefix_len is_blank text ≡ suc (prefix_len is_blank text) = omega arith in
          let here : marks_from schema due level at 0 (b ∷ text) ≡ marks_from schema due level (at + (1 + prefix_len is_blank text)) 0 (drop (suc (prefix_len is_blank text)) (b ∷ text)) =
          blank_next at b text e ∙ rest ∙ ap (λ k. marks_from schema due level k 0 (drop (prefix_len is_blank text) text)) places in
          let there : marks_from schema due level at 0 (b ∷ text) ≡ marks_from schema due level (at + (1 + prefix_len is_blank text)) 0 (drop (1 + prefix_len is_blank text) (b ∷ text)) =
          here ∙ ap (λ k. marks_from schema due level (at + (1 + prefix_len is_blank text)) 0 (drop k (b ∷ text))) (sym one) in
          rw e there

  piece_next : (at b : ℕ) (text : List ℕ) → is_blank b ≡ false
      → marks_from schema due level at 0 (b ∷ text) ≡ mark_of due level at (piece_of schema (b ∷ text)).sign ∷ marks_from schema (is_due_after (piece_of schema (b ∷ text)).sign) (level_after level (piece_of schema (b ∷ text)).sign) (at + 1) ((piece_of schema (b ∷ text)).size - 1) text
  unfolding marks_from
  piece_next at b text e = rw e

one_less : (size b : ℕ) (text : List ℕ) → 1 ≤ size → drop size (b ∷ text) ≡ drop (size - 1) text
one_less zero b text least = absurd (omega (arith, least))
one_less (suc n) b text least =
    let e : suc n - 1 ≡ n = omega arith in
    ap (λ k. drop k text) (sym e)

join_mark : (schema : Schema) (due : Bool) (level at size b : ℕ) (text : List ℕ) (m : Mark) (whole : List Mark) → 1 ≤ size → size ≤ length (b ∷ text)
    → whole ≡ m ∷ marks_from schema due level (at + 1) (size - 1) text → whole ≡ m ∷ marks_from schema due level (at + size) 0 (drop size (b ∷ text))
join_mark schema due level at size b text m whole least most is =
    let places : at + 1 + (size - 1) ≡ at + size = omega (arith, least) in
    let fits : size - 1 ≤ length text = omega (arith, most) in
    is
    ∙ ap (λ u. m ∷ u) (
    past_piece schema due level (size - 1) (at + 1) text fits
    ∙ ap (λ k. marks_from schema due level k 0 (drop (size - 1) text)) places
    ∙ ap (λ u. marks_from schema due level (at + size) 0 u) (sym (one_less size b text least))
    )

-- the first piece, and the marks behind it
pub first_mark : (schema : Schema) (due : Bool) (level at : ℕ) (text : List ℕ) → 0 < length text → is_blank (slice_index text 0) ≡ false → 1 ≤ (piece_of schema text).size → (piece_of schema text).size ≤ length text
    → marks_from schema due level at 0 text ≡ mark_of due level at (piece_of schema text).sign ∷ marks_from schema (is_due_after (piece_of schema text).sign) (level_after level (piece_of schema text).sign) (at + (piece_of schema text).size) 0 (drop (piece_of schema text).size text)
first_mark schema due level at [] some plain least most = absurd (omega (arith, some))
first_mark schema due level at (b ∷ text) some plain least most =
    join_mark schema (is_due_after (piece_of schema (b ∷ text)).sign) (level_after level (piece_of schema (b ∷ text)).sign) at (piece_of schema (b ∷ text)).size b text (mark_of due level at (piece_of schema (b ∷ text)).sign) (marks_from schema due level at 0 (b ∷ text)) least most (piece_next schema due level at b text plain)

-- a text without a piece
pub no_mark : (schema : Schema) (due : Bool) (level at : ℕ) (text : List ℕ) → length text ≡ 0 → marks_from schema due level at 0 text ≡ record { at = at; sign = signs.End; due = due } ∷ []
unfolding marks_from
no_mark schema due level at [] none = refl
no_mark schema due level at (b ∷ text) none = absurd (omega (arith, none))

-- behind the blanks no blank comes first
first_plain : (text : List ℕ) → is_blank (slice_index (drop (prefix_len is_blank text) text) 0) ≡ false
first_plain [] = refl
first_plain (b ∷ text) = by (is_blank b) refl (first_plain text)
  where
    by : (c : Bool) → is_blank b ≡ c → is_blank (slice_index (drop (prefix_len is_blank text) text) 0) ≡ false → is_blank (slice_index (drop (prefix_len is_blank (b ∷ text)) (b ∷ text)) 0) ≡ false
    by false e rest = rw e e
    by true e rest =
        let one : 1 + prefix_len is_blank text ≡ suc (prefix_len is_blank text) = omega arith in
        let there : is_blank (slice_index (drop (1 + prefix_len is_blank text) (b ∷ text)) 0) ≡ false = subst (λ k. is_blank (slice_index (drop k (b ∷ text)) 0) ≡ false) (sym one) rest in
        rw e there

pub no_blank : (text : List ℕ) (count : ℕ) (rest : List ℕ) → count ≡ prefix_len is_blank text → rest ≡ drop count text → is_blank (slice_index rest 0) ≡ false
no_blank text count rest is same = subst (λ u. is_blank (slice_index u 0) ≡ false) (sym (same ∙ ap (λ k. drop k text) is)) (first_plain text)

pub behind_blanks : (at count limit : ℕ) (text rest : List ℕ) → count ≡ prefix_len is_blank text → rest ≡ drop count text → at + length text < limit → at + count + length rest < limit
behind_blanks at count limit text rest is same small =
    let size : length rest ≡ length text - count = ap length same ∙ length-drop count text in
    omega (arith, small, size, is, prefix_len-le-length is_blank text)
