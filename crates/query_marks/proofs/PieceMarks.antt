-- The marks of a text, piece by piece: those of some pieces, and then those of the others, by what the first ones leave.
use Rattle.std.proofs.Common.{◌≡◌, ◌⊎◌, inl, inr, ℕ, zero, suc, List, [], ◌∷◌, ◌++◌, Option, Some, None, refl, sym, ap, subst, ◌∙◌, append_assoc, arith}
use Rattle.std.specs.Prelude.{Contains}
use Rattle.std.proofs.lemmas.List.{append_cancel_left, append_cancel_right}
use Rattle.query_pieces.specs.declared.piece.Piece.{Piece}
use Rattle.query_marks.specs.declared.mark.Mark.{Mark}
use Rattle.query_marks.specs.declared.state.State.{State}
use Rattle.query_marks.specs.Marks.{Setting, after, at_start, before_marks, mark_of, marks_from, marks_of}
use Rattle.query_marks.specs.LimitsOver.{text_end, IsMarkAfter, IsMarkOfPiece}

-- ---- lists
none_contained : (m : Mark) → Contains [] m → ⊥
none_contained m (k, within, at) = absurd (omega (arith, within))

contained_cases : (n : Mark) (marks : List Mark) (m : Mark) → Contains (n ∷ marks) m → (n ≡ m) ⊎ Contains marks m
contained_cases n marks m (zero, within, at) = inl at
contained_cases n marks m (suc k, within, at) = inr (k, omega (arith, within), at)

before_append : (m : Option Mark) (xs ys : List Mark) → before_marks m (xs ++ ys) ≡ before_marks m xs ++ ys
before_append None xs ys = refl
before_append (Some mark) xs ys = refl

no_more : (xs : List Piece) → xs ++ [] ≡ xs
no_more [] = refl
no_more (x ∷ xs) = ap (λ l. x ∷ l) (no_more xs)

module _ (setting : Setting) (text : List ℕ) where
  -- ---- what pieces leave, and their marks without the text's end
  abbrev pub state_after : State → List Piece → State
  state_after state [] = state
  state_after state (p ∷ pieces) = state_after (after setting state text p.form) pieces

  abbrev pub place_after : ℕ → List Piece → ℕ
  place_after place [] = place
  place_after place (p ∷ pieces) = place_after p.to pieces

  abbrev pub inner : State → ℕ → List Piece → List Mark
  inner state place [] = []
  inner state place (p ∷ pieces) = before_marks (mark_of setting state text place p.form) (inner (after setting state text p.form) p.to pieces)

  ends : (state : State) (place : ℕ) (pieces : List Piece) → marks_from setting text state place pieces ≡ inner state place pieces ++ text_end text ∷ []
  ends state place [] = refl
  ends state place (p ∷ pieces) =
      let m = mark_of setting state text place p.form in
      let next = after setting state text p.form in
      ap (before_marks m) (ends next p.to pieces) ∙ before_append m (inner next p.to pieces) (text_end text ∷ [])

  splits : (state : State) (place : ℕ) (pieces rest : List Piece)
      → marks_from setting text state place (pieces ++ rest) ≡ inner state place pieces ++ marks_from setting text (state_after state pieces) (place_after place pieces) rest
  splits state place [] rest = refl
  splits state place (p ∷ pieces) rest =
      let m = mark_of setting state text place p.form in
      let next = after setting state text p.form in
      ap (before_marks m) (splits next p.to pieces rest) ∙ before_append m (inner next p.to pieces) (marks_from setting text (state_after next pieces) (place_after p.to pieces) rest)

  -- ---- the mark of a piece after others is made by what they leave
  abbrev state_before : List Piece → State
  state_before before = state_after (at_start setting) before

  made : (m : Option Mark) (mark end : Mark) → before_marks m (end ∷ []) ≡ mark ∷ end ∷ [] → m ≡ Some mark
  made None mark end e = absurd (cc)
  made (Some found) mark end e =
      let same : found ≡ mark = cc in
      ap (λ (x : Mark). Some x) same

  pub mark_made : (before : List Piece) (p : Piece) (mark : Mark) → IsMarkAfter setting text before p mark
      → mark_of setting (state_before before) text (place_after 0 before) p.form ≡ Some mark
  mark_made before p mark is =
      let end = text_end text in
      let front = inner (at_start setting) 0 before in
      let m = mark_of setting (state_before before) text (place_after 0 before) p.form in
      let fronts : front ≡ is.marks = append_cancel_right front is.marks (end ∷ []) (sym (ends (at_start setting) 0 before) ∙ is.without) in
      let whole : front ++ before_marks m (end ∷ []) ≡ front ++ mark ∷ end ∷ [] =
      sym (splits (at_start setting) 0 before (p ∷ [])) ∙ is.with ∙ ap (λ (l : List Mark). l ++ mark ∷ end ∷ []) (sym fronts) in
      made m mark end (append_cancel_left front (before_marks m (end ∷ [])) (mark ∷ end ∷ []) whole)

  mark_follows : (before : List Piece) (p : Piece) (mark : Mark) → mark_of setting (state_before before) text (place_after 0 before) p.form ≡ Some mark → IsMarkAfter setting text before p mark
  mark_follows before p mark is = record {
    marks = inner (at_start setting) 0 before;
    without = ends (at_start setting) 0 before;
    with =
        splits (at_start setting) 0 before (p ∷ [])
        ∙ ap (λ (m : Option Mark). inner (at_start setting) 0 before ++ before_marks m (text_end text ∷ [])) is;
  }

  -- ---- each mark is that of a piece
  state_more : (state : State) (before : List Piece) (p : Piece) → state_after state (before ++ p ∷ []) ≡ after setting (state_after state before) text p.form
  state_more state [] p = refl
  state_more state (q ∷ before) p = state_more (after setting state text q.form) before p

  place_more : (place : ℕ) (before : List Piece) (p : Piece) → place_after place (before ++ p ∷ []) ≡ p.to
  place_more place [] p = refl
  place_more place (q ∷ before) p = place_more q.to before p

  abbrev Later : Mark → List Piece → List Piece → Type 0
  Later mark before pieces =
      Contains (marks_from setting text (state_before before) (place_after 0 before) pieces) mark → (mark ≡ text_end text) ⊎ IsMarkOfPiece setting text (before ++ pieces) mark

  each_from : (mark : Mark) (before pieces : List Piece) → Contains (marks_from setting text (state_before before) (place_after 0 before) pieces) mark
      → (mark ≡ text_end text) ⊎ IsMarkOfPiece setting text (before ++ pieces) mark
  each_from mark before [] has = elim (contained_cases (text_end text) [] mark has) [ inl is ↦ inl (sym is) | inr none ↦ absurd (none_contained mark none) ]
  each_from mark before (p ∷ pieces) has =
      by (each_from mark (before ++ p ∷ []) pieces) (mark_of setting (state_before before) text (place_after 0 before) p.form) refl has
    where
      later : Later mark (before ++ p ∷ []) pieces → Contains (marks_from setting text (after setting (state_before before) text p.form) p.to pieces) mark → (mark ≡ text_end text) ⊎ IsMarkOfPiece setting text (before ++ p ∷ pieces) mark
      later others inside =
          let state : after setting (state_before before) text p.form ≡ state_before (before ++ p ∷ []) = sym (state_more (at_start setting) before p) in
          let place : p.to ≡ place_after 0 (before ++ p ∷ []) = sym (place_more 0 before p) in
          let there : Contains (marks_from setting text (state_before (before ++ p ∷ [])) (place_after 0 (before ++ p ∷ [])) pieces) mark =
          subst (λ (s : State). Contains (marks_from setting text s (place_after 0 (before ++ p ∷ [])) pieces) mark) state
          (subst (λ (n : ℕ). Contains (marks_from setting text (after setting (state_before before) text p.form) n pieces) mark) place inside) in
          subst (λ (l : List Piece). (mark ≡ text_end text) ⊎ IsMarkOfPiece setting text l mark) (append_assoc before (p ∷ []) pieces) (others there)

      by : Later mark (before ++ p ∷ []) pieces → (m : Option Mark) → mark_of setting (state_before before) text (place_after 0 before) p.form ≡ m
          → Contains (before_marks m (marks_from setting text (after setting (state_before before) text p.form) p.to pieces)) mark
          → (mark ≡ text_end text) ⊎ IsMarkOfPiece setting text (before ++ p ∷ pieces) mark
      by others None is inside = later others inside
      by others (Some found) is inside = elim (contained_cases found (marks_from setting text (after setting (state_before before) text p.form) p.to pieces) mark inside) [
        | inl same ↦ inr (record {
          before = before;
          piece = p;
          rest = pieces;
          pieces_are = refl;
          mark_is = mark_follows before p mark (is ∙ ap (λ (x : Mark). Some x) same);
        })
        | inr after_it ↦ later others after_it
      ]

  pub each_mark : (pieces : List Piece) (mark : Mark) → Contains (marks_of setting text pieces) mark → (mark ≡ text_end text) ⊎ IsMarkOfPiece setting text pieces mark
  each_mark pieces mark has = each_from mark [] pieces has
