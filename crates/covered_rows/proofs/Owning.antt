-- What the places of hits say of the words at a position.
use Rattle.std.proofs.Common.{◌≡◌, ℕ, ◌+◌, ◌*◌, ◌<◌, ◌≤◌, Bool, false, cond, eqb, eq-eqb, List, [], ◌∷◌, ◌||◌, get_or, map, refl, sym, ap, subst, ◌∙◌, arith, inl, inr}
use Rattle.std.specs.List.{AllByRecursion}
use Rattle.posting_codec.specs.HitLists.{IsHit, key, Ascend}
use Rattle.posting_codec.proofs.HitSteps.{one_key}
use Rattle.chunk_damage.specs.Cover.{has_key, hits_in, owners}
use Rattle.chunk_damage.specs.WordLists.{AreEntries, Entry}
use Rattle.image_cover.specs.Places.{own_at, place_at, place_in}
use Rattle.image_cover.specs.Layouts.{AreLaid, IsPosition, position_place}
use Rattle.image_cover.specs.Lists.{places_in, places_of, places_of_lists}
use Rattle.image_cover.proofs.Apart.{place_is, one_place}
use Rattle.covered_rows.proofs.Counts.{differ, same_or, times, times-append}

abbrev one : Bool → ℕ
one b = cond b 1 0

-- no key is below those of an ascending list
pub none_below : (before k : ℕ) (hs : List (ℕ × ℕ)) → Ascend before hs → k ≤ before → has_key hs k ≡ false
none_below before k [] ascend low = refl
none_below before k (h ∷ hs) ascend low =
    ap (λ b. b || has_key hs k) (differ (key h) k (omega (arith, ascend.1, low))) ∙ none_below (key h) k hs ascend.2 (omega (arith, ascend.1, low))

-- no row before the first one of some entries
pub none_before : (rows least row : ℕ) (es : List Entry) → AreEntries rows least es → row < least → hits_in row es ≡ []
none_before rows least row [] are low = refl
none_before rows least row (e ∷ es) are low =
    ap (λ b. cond b e.1 (hits_in row es)) (differ e.0 row (omega (arith, are.0.behind, low))) ∙ none_before rows (e.0 + 1) row es are.2 (omega (arith, are.0.behind, low))

module _ (starts : List ℕ) (width rows places : ℕ) (laid : AreLaid starts width rows places) (row : ℕ) (low : row < rows) where
  -- at a position of the row, which is a hit
  module _ (at : ℕ × ℕ) (is : IsPosition starts width row at) (is_hit : IsHit at) where
    abbrev own_place : ℕ
    own_place = position_place starts width row at

    its_place : place_at (own_at starts width row) at ≡ own_place
    its_place = elim (place_is starts width rows row places at laid low is_hit.from_one) [ inl inside ↦ inside.1 | inr outside ↦ absurd (outside.0 is) ]

    in_row : (before : ℕ) (hs : List (ℕ × ℕ)) → Ascend before hs → times own_place (map (place_in row (own_at starts width row)) hs) ≡ one (has_key hs (key at))
    in_row before [] ascend = refl
    in_row before (h ∷ hs) ascend =
        let rest = in_row (key h) hs ascend.2 in
        elim (same_or (key h) (key at)) [
          | inl keys ↦
              let same : h ≡ at = one_key h at ascend.0 is_hit keys in
              let here : place_at (own_at starts width row) h ≡ own_place = ap (place_at (own_at starts width row)) same ∙ its_place in
              let later : has_key hs (key at) ≡ false = none_below (key h) (key at) hs ascend.2 (omega (arith, keys)) in
              let none : one (has_key hs (key at)) ≡ 0 = ap one later in
              let first : one (eqb (place_at (own_at starts width row) h) own_place) ≡ 1 = ap one (eq-eqb _ _ here) in
              let found : one (has_key (h ∷ hs) (key at)) ≡ 1 = ap (λ b. one (b || has_key hs (key at))) (eq-eqb (key h) (key at) keys) in
              omega (arith, rest, none, first, found)
          | inr other ↦
              let apart : place_at (own_at starts width row) h ≡ own_place → ⊥ = λ e. let its = one_place starts width rows places row row at h laid low low ascend.0.from_one is e in other (omega (arith, its.1, its.2)) in
              let first : one (eqb (place_at (own_at starts width row) h) own_place) ≡ 0 = ap one (differ _ _ apart) in
              let found : one (has_key (h ∷ hs) (key at)) ≡ one (has_key hs (key at)) = ap (λ b. one (b || has_key hs (key at))) (differ (key h) (key at) other) in
              omega (arith, rest, first, found)
        ]

    elsewhere : (its before : ℕ) (hs : List (ℕ × ℕ)) → its < rows → (its ≡ row → ⊥) → Ascend before hs → times own_place (map (place_in its (own_at starts width its)) hs) ≡ 0
    elsewhere its before [] its_low other ascend = refl
    elsewhere its before (h ∷ hs) its_low other ascend =
        let apart : place_at (own_at starts width its) h ≡ own_place → ⊥ = λ e. other (one_place starts width rows places row its at h laid low its_low ascend.0.from_one is e).0 in
        let first : one (eqb (place_at (own_at starts width its) h) own_place) ≡ 0 = ap one (differ _ _ apart) in
        omega (arith, first, elsewhere its (key h) hs its_low other ascend.2)

    in_list : (least : ℕ) (es : List Entry) → AreEntries rows least es → times own_place (places_in starts width es) ≡ one (has_key (hits_in row es) (key at))
    in_list least [] are = refl
    in_list least (e ∷ es) are =
        let both = times-append own_place (places_of starts width e) (places_in starts width es) in
        let rest = in_list (e.0 + 1) es are.2 in
        elim (same_or e.0 row) [
          | inl same ↦
              let first : times own_place (places_of starts width e) ≡ one (has_key e.1 (key at)) = subst (λ r. times own_place (map (place_in r (own_at starts width r)) e.1) ≡ one (has_key e.1 (key at))) (sym same) (in_row 0 e.1 are.0.are.ascend) in
              let none : one (has_key (hits_in row es) (key at)) ≡ 0 = ap (λ l. one (has_key l (key at))) (none_before rows (e.0 + 1) row es are.2 (omega (arith, same))) in
              let found : one (has_key (hits_in row (e ∷ es)) (key at)) ≡ one (has_key e.1 (key at)) = ap (λ b. one (has_key (cond b e.1 (hits_in row es)) (key at))) (eq-eqb e.0 row same) in
              omega (arith, both, rest, first, none, found)
          | inr other ↦
              let first : times own_place (places_of starts width e) ≡ 0 = elsewhere e.0 0 e.1 are.1 other are.0.are.ascend in
              let found : one (has_key (hits_in row (e ∷ es)) (key at)) ≡ one (has_key (hits_in row es) (key at)) = ap (λ b. one (has_key (cond b e.1 (hits_in row es)) (key at))) (differ e.0 row other) in
              omega (arith, both, rest, first, found)
        ]

    -- the counter of a position counts the words that have it
    pub in_lists : (lists : List (List Entry)) → AllByRecursion (AreEntries rows 0) lists → times own_place (places_of_lists starts width lists) ≡ owners lists row (key at)
    in_lists [] are = refl
    in_lists (l ∷ ls) are = omega (arith, times-append own_place (places_in starts width l) (places_of_lists starts width ls), in_list 0 l are.0, in_lists ls are.1)

  -- the row's outer counter
  abbrev outer : ℕ
  outer = get_or starts (row * width) 0

  -- where it counts nothing, each hit of the row is at a position
  placed_in_row : (before : ℕ) (hs : List (ℕ × ℕ)) → Ascend before hs → times outer (map (place_in row (own_at starts width row)) hs) ≡ 0 → AllByRecursion (IsPosition starts width row) hs
  placed_in_row before [] ascend e = tt
  placed_in_row before (h ∷ hs) ascend e =
      elim (place_is starts width rows row places h laid low ascend.0.from_one) [
        | inl inside ↦ (inside.0, placed_in_row (key h) hs ascend.2 (omega (arith, e)))
        | inr outside ↦ let first : one (eqb (place_at (own_at starts width row) h) outer) ≡ 1 = ap one (eq-eqb _ _ outside.1) in absurd (omega (arith, e, first))
      ]

  placed_in_list : (least : ℕ) (es : List Entry) → AreEntries rows least es → times outer (places_in starts width es) ≡ 0 → AllByRecursion (IsPosition starts width row) (hits_in row es)
  placed_in_list least [] are e = tt
  placed_in_list least (f ∷ es) are e =
      let both = times-append outer (places_of starts width f) (places_in starts width es) in
      elim (same_or f.0 row) [
        | inl same ↦
            let none : times outer (map (place_in row (own_at starts width row)) f.1) ≡ 0 = subst (λ r. times outer (map (place_in r (own_at starts width r)) f.1) ≡ 0) same (omega (arith, both, e)) in
            subst (λ b. AllByRecursion (IsPosition starts width row) (cond b f.1 (hits_in row es))) (sym (eq-eqb f.0 row same)) (placed_in_row 0 f.1 are.0.are.ascend none)
        | inr other ↦ subst (λ b. AllByRecursion (IsPosition starts width row) (cond b f.1 (hits_in row es))) (sym (differ f.0 row other)) (placed_in_list (f.0 + 1) es are.2 (omega (arith, both, e)))
      ]

  pub placed_in_lists : (lists : List (List Entry)) → AllByRecursion (AreEntries rows 0) lists → times outer (places_of_lists starts width lists) ≡ 0 → AllByRecursion (λ es. AllByRecursion (IsPosition starts width row) (hits_in row es)) lists
  placed_in_lists [] are e = tt
  placed_in_lists (l ∷ ls) are e =
      let both = times-append outer (places_in starts width l) (places_of_lists starts width ls) in
      (placed_in_list 0 l are.0 (omega (arith, both, e)), placed_in_lists ls are.1 (omega (arith, both, e)))
