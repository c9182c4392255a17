-- A row is covered exactly where each of its places is taken once and its boundaries lie between words.
use Rattle.std.proofs.Common.{◌≡◌, ℕ, zero, suc, ◌+◌, ◌-◌, ◌*◌, ◌<◌, ◌≤◌, true, cond, eqb, eq-eqb, List, [], ◌∷◌, length, get_or, map, refl, sym, ap, subst, ◌∙◌, arith, inl, inr}
use Rattle.std.specs.List.{AllByRecursion}
use Rattle.std.proofs.lemmas.Bool.{cases_lt}
use Rattle.doc_types.specs.declared.tokens.TheConstants.{MAX_POSITION}
use Rattle.posting_codec.specs.HitLists.{Ascend, IsHit, key}
use Rattle.chunk_damage.specs.Cover.{AreCovered, IsCovered, IsFieldCovered, LiesIn, hits_in, owners}
use Rattle.chunk_damage.specs.RowMarks.{FieldMarks, RowMarks, empty_field, is_taken}
use Rattle.chunk_damage.specs.WordLists.{AreEntries, Entry}
use Rattle.image_cover.specs.Places.{Seen, own_at, place_at, place_in}
use Rattle.image_cover.specs.Layouts.{AreLaid, IsPosition, position_place}
use Rattle.image_cover.specs.Lists.{places_in, places_of, places_of_lists}
use Rattle.image_cover.proofs.Apart.{place_is}
use Rattle.covered_rows.specs.Marked.{AllBetween, FieldsMarked, IsFieldMarked, IsRowMarked}
use Rattle.covered_rows.proofs.Counts.{differ, not_first, same_or, times, times-append}
use Rattle.covered_rows.proofs.Owning.{in_lists, placed_in_lists}
use Rattle.covered_rows.proofs.Ranges.{LiesInRow, hit_lies, next_row, one_row, row_up}

-- ---- fields by their number

field_marked : (starts : List ℕ) (j : ℕ) (s : Seen) (ms : List FieldMarks) (f : ℕ) → FieldsMarked starts j s ms → f < length ms → IsFieldMarked starts (j + f) s (get_or ms f empty_field)
field_marked starts j s [] f all low = absurd (omega (arith, low))
field_marked starts j s (m ∷ ms) zero all low = subst (λ k. IsFieldMarked starts k s m) (nought j) all.0
  where
    nought : (j : ℕ) → j ≡ j + 0
    nought j = omega arith
field_marked starts j s (m ∷ ms) (suc f) all low = subst (λ k. IsFieldMarked starts k s (get_or ms f empty_field)) (on j f) (field_marked starts (j + 1) s ms f all.1 (omega (arith, low)))
  where
    on : (j f : ℕ) → j + 1 + f ≡ j + suc f
    on j f = omega arith

field_short : (ms : List FieldMarks) (f : ℕ) → AllByRecursion (λ (m : FieldMarks). m.last ≤ MAX_POSITION) ms → f < length ms → (get_or ms f empty_field).last ≤ MAX_POSITION
field_short [] f all low = absurd (omega (arith, low))
field_short (m ∷ ms) zero all low = all.0
field_short (m ∷ ms) (suc f) all low = field_short ms f all.1 (omega (arith, low))

field_covered : (lists : List (List Entry)) (row n : ℕ) (ms : List FieldMarks) (f : ℕ) → AreCovered lists row n ms → f < length ms → IsFieldCovered lists row (n + f) (get_or ms f empty_field)
field_covered lists row n [] f all low = absurd (omega (arith, low))
field_covered lists row n (m ∷ ms) zero all low = subst (λ k. IsFieldCovered lists row k m) (nought n) all.0
  where
    nought : (j : ℕ) → j ≡ j + 0
    nought j = omega arith
field_covered lists row n (m ∷ ms) (suc f) all low = subst (λ k. IsFieldCovered lists row k (get_or ms f empty_field)) (on n f) (field_covered lists row (n + 1) ms f all.1 (omega (arith, low)))
  where
    on : (j f : ℕ) → j + 1 + f ≡ j + suc f
    on j f = omega arith

pub covered_between : (lists : List (List Entry)) (row n : ℕ) (ms : List FieldMarks) → AreCovered lists row n ms → AllBetween ms
covered_between lists row n [] all = tt
covered_between lists row n (m ∷ ms) all = (all.0.between, covered_between lists row (n + 1) ms all.1)

-- a field among whose places a place lies
record FieldOf (starts : List ℕ) (j k count : ℕ) : Type 0 where
  f : ℕ
  low : f < count
  from : get_or starts (j + f) 0 ≤ k
  to : k < get_or starts (j + f + 1) 0

field_of : (starts : List ℕ) (j k count : ℕ) → get_or starts j 0 ≤ k → k < get_or starts (j + count) 0 → FieldOf starts j k count
field_of starts j k zero from to = absurd (omega (arith, from, to, ap (λ i. get_or starts i 0) (nought j)))
  where
    nought : (j : ℕ) → j ≡ j + 0
    nought j = omega arith
field_of starts j k (suc count) from to = elim (cases_lt k (get_or starts (j + 1) 0)) [
  | inl low ↦ record { f = 0; low = omega arith; from = omega (arith, from, ap (λ i. get_or starts i 0) (nought j)); to = omega (arith, low, ap (λ i. get_or starts i 0) (nought_one j)) }
  | inr high ↦
      let its = field_of starts (j + 1) k count high (omega (arith, to, ap (λ i. get_or starts i 0) (on j count))) in
      record { f = its.f + 1; low = omega (arith, its.low); from = omega (arith, its.from, ap (λ i. get_or starts i 0) (shift j its.f)); to = omega (arith, its.to, ap (λ i. get_or starts i 0) (shift_one j its.f)) }
]
  where
    nought : (j : ℕ) → j ≡ j + 0
    nought j = omega arith

    nought_one : (j : ℕ) → j + 1 ≡ j + 0 + 1
    nought_one j = omega arith

    on : (j count : ℕ) → j + suc count ≡ j + 1 + count
    on j count = omega arith

    shift : (j f : ℕ) → j + 1 + f ≡ j + (f + 1)
    shift j f = omega arith

    shift_one : (j f : ℕ) → j + 1 + f + 1 ≡ j + (f + 1) + 1
    shift_one j f = omega arith

module _ (starts : List ℕ) (width rows : ℕ) (s : Seen) (laid : AreLaid starts width rows (length s.0)) (lists : List (List Entry)) (are : AllByRecursion (AreEntries rows 0) lists) (few : width ≤ 33)
    (row : ℕ) (low : row < rows) (m : RowMarks) (marked : IsRowMarked starts width s row m.fields) (short : AllByRecursion (λ (f : FieldMarks). f.last ≤ MAX_POSITION) m.fields) where
  abbrev pub all_places : List (ℕ × ℕ)
  all_places = places_of_lists starts width lists

  abbrev pub outer : ℕ
  outer = get_or starts (row * width) 0

  -- the numbers of the starts of a field of the row
  first_at : (f : ℕ) → row * width + f + 1 ≡ row * width + 1 + f
  first_at f = omega arith

  last_at : (f : ℕ) → row * width + f + 2 ≡ row * width + 1 + f + 1
  last_at f = omega arith

  begins : (f : ℕ) → get_or starts (row * width + f + 1) 0 ≡ get_or starts (row * width + 1 + f) 0
  begins f = ap (λ j. get_or starts j 0) (first_at f)

  ends : (f : ℕ) → f < length m.fields → get_or starts (row * width + f + 2) 0 ≡ get_or starts (row * width + f + 1) 0 + (get_or m.fields f empty_field).last
  ends f h = ap (λ j. get_or starts j 0) (last_at f) ∙ (field_marked starts (row * width + 1) s m.fields f marked.fields h).end ∙ ap (λ k. k + (get_or m.fields f empty_field).last) (sym (begins f))

  -- a position of a field of the row, as marks say and as places are laid out
  to_position : (f p : ℕ) → f < length m.fields → 1 ≤ p → p ≤ (get_or m.fields f empty_field).last → IsPosition starts width row (f, p)
  to_position f p h one up = record { field = omega (arith, h, marked.wide); from_one = one; within = omega (arith, ends f h, up) }

  -- what is counted there: the boundary and the words that have it
  counted : (f p : ℕ) → f < length m.fields → 1 ≤ p → p ≤ (get_or m.fields f empty_field).last
      → get_or s.0 (position_place starts width row (f, p)) 0 + times (position_place starts width row (f, p)) all_places ≡ cond (is_taken (get_or m.fields f empty_field).gaps p) 1 0 + owners lists row (key (f, p))
  counted f p h one up =
      let limit = field_short m.fields f short h in
      let hit : IsHit (f, p) = record { field = omega (arith, h, marked.wide, few); from_one = one; within = omega (arith, up, limit) } in
      let owned = in_lists starts width rows (length s.0) laid row low (f, p) (to_position f p h one up) hit lists are in
      let place : position_place starts width row (f, p) ≡ get_or starts (row * width + 1 + f) 0 + p - 1 = ap (λ k. k + p - 1) (begins f) in
      let bit : get_or s.0 (position_place starts width row (f, p)) 0 ≡ cond (is_taken (get_or m.fields f empty_field).gaps p) 1 0 =
      ap (λ k. get_or s.0 k 0) place ∙ (field_marked starts (row * width + 1) s m.fields f marked.fields h).each p one up in
      omega (arith, bit, owned)

  -- ---- hits of the row

  lies : (hit : ℕ × ℕ) → IsPosition starts width row hit → LiesIn m.fields hit
  lies hit is =
      let h : hit.0 < length m.fields = omega (arith, is.field, marked.wide) in
      record { field = h; from_one = is.from_one; within = omega (arith, is.within, ends hit.0 h) }

  all_lie : (hits : List (ℕ × ℕ)) → AllByRecursion (IsPosition starts width row) hits → AllByRecursion (LiesIn m.fields) hits
  all_lie [] all = tt
  all_lie (h ∷ hits) all = (lies h all.0, all_lie hits all.1)

  lists_inside : (ls : List (List Entry)) → AllByRecursion (λ es. AllByRecursion (IsPosition starts width row) (hits_in row es)) ls → AllByRecursion (λ es. AllByRecursion (LiesIn m.fields) (hits_in row es)) ls
  lists_inside [] all = tt
  lists_inside (l ∷ ls) all = (all_lie (hits_in row l) all.0, lists_inside ls all.1)

  -- ---- each place once: covered

  fields_on : (n : ℕ) (ms : List FieldMarks) → ((f p : ℕ) → f < length ms → 1 ≤ p → p ≤ (get_or ms f empty_field).last → cond (is_taken (get_or ms f empty_field).gaps p) 1 0 + owners lists row (key (n + f, p)) ≡ 1) → AllBetween ms → AreCovered lists row n ms
  fields_on n [] each between = tt
  fields_on n (k ∷ ms) each between = (
    record { between = between.0; each = λ p one up. ap (λ (i : ℕ). cond (is_taken k.gaps p) 1 0 + owners lists row (key (i, p))) (nought n) ∙ each 0 p (omega arith) one up },
    fields_on (n + 1) ms (λ f p h one up. ap (λ (i : ℕ). cond (is_taken (get_or ms f empty_field).gaps p) 1 0 + owners lists row (key (i, p))) (on n f) ∙ each (suc f) p (omega (arith, h)) one up) between.1,
  )
    where
      nought : (j : ℕ) → j ≡ j + 0
      nought j = omega arith

      on : (j f : ℕ) → j + 1 + f ≡ j + suc f
      on j f = omega arith

  outer_lies : LiesInRow starts width rows (row, outer)
  outer_lies = record {
    low = low;
    from = omega arith;
    to = omega (arith, laid.outer row low, ap (λ j. get_or starts j 0) (next_row row width), laid.rise (row * width + 1) (row * width + width) (omega (arith, laid.wide)) (omega (arith, laid.long, row_up row rows width low)));
  }

  position_lies : (f p : ℕ) → f < length m.fields → 1 ≤ p → p ≤ (get_or m.fields f empty_field).last → LiesInRow starts width rows (row, position_place starts width row (f, p))
  position_lies f p h one up =
      let top = row_up row rows width low in
      record {
        low = low;
        from = omega (arith, one, laid.rise (row * width) (row * width + f + 1) (omega arith) (omega (arith, laid.long, top, h, marked.wide)));
        to = omega (arith, one, up, ends f h, ap (λ j. get_or starts j 0) (next_row row width), laid.rise (row * width + f + 2) (row * width + width) (omega (arith, h, marked.wide)) (omega (arith, laid.long, top)));
      }

  pub is_covered : ((k : ℕ) → LiesInRow starts width rows (row, k) → get_or s.0 k 0 + times k all_places ≡ 1) → AllBetween m.fields → IsCovered lists row m
  is_covered once between =
      let none : times outer all_places ≡ 0 = omega (arith, once outer outer_lies, marked.own) in
      record {
        fields = fields_on 0 m.fields (λ f p h one up. ap (λ (i : ℕ). cond (is_taken (get_or m.fields f empty_field).gaps p) 1 0 + owners lists row (key (i, p))) (nought f) ∙ sym (counted f p h one up) ∙ once (position_place starts width row (f, p)) (position_lies f p h one up)) between;
        inside = lists_inside lists (placed_in_lists starts width rows (length s.0) laid row low lists are none);
      }
    where
      nought : (f : ℕ) → 0 + f ≡ f
      nought f = omega arith

  -- ---- covered: each place once

  not_outer : (hit : ℕ × ℕ) → LiesIn m.fields hit → place_at (own_at starts width row) hit ≡ outer → ⊥
  not_outer hit is e =
      elim (place_is starts width rows row (length s.0) hit laid low is.from_one) [
        | inl inside ↦ absurd (omega (arith, inside.1, e, is.from_one, laid.outer row low, laid.rise (row * width + 1) (row * width + hit.0 + 1) (omega arith) (omega (arith, laid.long, row_up row rows width low, inside.0.field))))
        | inr outside ↦ outside.0 (to_position hit.0 hit.1 is.field is.from_one is.within)
      ]

  none_in_row : (hits : List (ℕ × ℕ)) → AllByRecursion (LiesIn m.fields) hits → times outer (map (place_in row (own_at starts width row)) hits) ≡ 0
  none_in_row [] all = refl
  none_in_row (h ∷ hits) all = not_first (place_in row (own_at starts width row) h) outer (map (place_in row (own_at starts width row)) hits) (not_outer h all.0) ∙ none_in_row hits all.1

  none_elsewhere : (its before : ℕ) (hits : List (ℕ × ℕ)) → its < rows → (its ≡ row → ⊥) → Ascend before hits → times outer (map (place_in its (own_at starts width its)) hits) ≡ 0
  none_elsewhere its before [] its_low other ascend = refl
  none_elsewhere its before (h ∷ hits) its_low other ascend =
      let own = own_at starts width its in
      not_first (place_in its own h) outer (map (place_in its own) hits)
      (λ e. other (one_row starts width rows (length s.0) laid its row outer (subst (λ k. LiesInRow starts width rows (its, k)) e (hit_lies starts width rows (length s.0) laid its h its_low ascend.0.from_one)) outer_lies))
      ∙ none_elsewhere its (key h) hits its_low other ascend.2

  none_in_list : (least : ℕ) (es : List Entry) → AreEntries rows least es → AllByRecursion (LiesIn m.fields) (hits_in row es) → times outer (places_in starts width es) ≡ 0
  none_in_list least [] fit all = refl
  none_in_list least (e ∷ es) fit all =
      let both = times-append outer (places_of starts width e) (places_in starts width es) in
      elim (same_or e.0 row) [
        | inl same ↦
            let here : AllByRecursion (LiesIn m.fields) e.1 = subst (λ b. AllByRecursion (LiesIn m.fields) (cond b e.1 (hits_in row es))) (eq_is e.0 row same) all in
            let first : times outer (places_of starts width e) ≡ 0 = subst (λ r. times outer (map (place_in r (own_at starts width r)) e.1) ≡ 0) (sym same) (none_in_row e.1 here) in
            omega (arith, both, first, later_none (e.0 + 1) es fit.2 (omega (arith, same)))
        | inr other ↦
            let rest : AllByRecursion (LiesIn m.fields) (hits_in row es) = subst (λ b. AllByRecursion (LiesIn m.fields) (cond b e.1 (hits_in row es))) (differ e.0 row other) all in
            omega (arith, both, none_elsewhere e.0 0 e.1 fit.1 other fit.0.are.ascend, none_in_list (e.0 + 1) es fit.2 rest)
      ]
    where
      eq_is : (a b : ℕ) → a ≡ b → eqb a b ≡ true
      eq_is a b e = eq-eqb a b e

      later_none : (least : ℕ) (es : List Entry) → AreEntries rows least es → row < least → times outer (places_in starts width es) ≡ 0
      later_none least [] fit high = refl
      later_none least (e ∷ es) fit high =
          omega (arith, times-append outer (places_of starts width e) (places_in starts width es), none_elsewhere e.0 0 e.1 fit.1 (λ same. absurd (omega (arith, same, high, fit.0.behind))) fit.0.are.ascend, later_none (e.0 + 1) es fit.2 (omega (arith, high, fit.0.behind)))

  none_in_lists : (ls : List (List Entry)) → AllByRecursion (AreEntries rows 0) ls → AllByRecursion (λ es. AllByRecursion (LiesIn m.fields) (hits_in row es)) ls → times outer (places_of_lists starts width ls) ≡ 0
  none_in_lists [] fit all = refl
  none_in_lists (l ∷ ls) fit all = omega (arith, times-append outer (places_in starts width l) (places_of_lists starts width ls), none_in_list 0 l fit.0 all.0, none_in_lists ls fit.1 all.1)

  pub is_once : IsCovered lists row m → (k : ℕ) → LiesInRow starts width rows (row, k) → get_or s.0 k 0 + times k all_places ≡ 1
  is_once covered k its =
      elim (cases_lt k (get_or starts (row * width + 1) 0)) [
        | inl low_k ↦
            let here : outer ≡ k = omega (arith, its.from, low_k, marked.begin) in
            subst (λ i. get_or s.0 i 0 + times i all_places ≡ 1) here (omega (arith, marked.own, none_in_lists lists are covered.inside))
        | inr high_k ↦
            let end : get_or starts ((row + 1) * width) 0 ≡ get_or starts (row * width + 1 + length m.fields) 0 = ap (λ j. get_or starts j 0) (omega (arith, next_row row width, marked.wide)) in
            let field = field_of starts (row * width + 1) k (length m.fields) high_k (omega (arith, its.to, end)) in
            let f = field.f in
            let p : ℕ = k - get_or starts (row * width + 1 + f) 0 + 1 in
            let up : p ≤ (get_or m.fields f empty_field).last = omega (arith, field.from, field.to, (field_marked starts (row * width + 1) s m.fields f marked.fields field.low).end) in
            let place : position_place starts width row (f, p) ≡ k = omega (arith, begins f, field.from) in
            let sum = counted f p field.low (omega arith) up in
            let one = (field_covered lists row 0 m.fields f covered.fields field.low).each p (omega arith) up in
            subst (λ i. get_or s.0 i 0 + times i all_places ≡ 1) place (sum ∙ ap (λ (i : ℕ). cond (is_taken (get_or m.fields f empty_field).gaps p) 1 0 + owners lists row (key (i, p))) (nought f) ∙ one)
      ]
    where
      nought : (f : ℕ) → f ≡ 0 + f
      nought f = omega arith
