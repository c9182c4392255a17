-- The ring of the counts of the last offsets, as it is after some hits whose positions ascend.
use Rattle.std.proofs.Common.{◌≡◌, ◌≢◌, ℕ, ◌+◌, ◌-◌, ◌%◌, ◌<◌, ◌≤◌, max, Bool, true, false, cond, inl, inr, ◌==◌, List, [], ◌∷◌, ◌++◌, length, get_or, take, set, refl, sym, ap, ◌∙◌, subst, arith}
use Rattle.std.specs.List.{count_by, All}
use Rattle.std.specs.Ordering.{ord_max, nat_cmp}
use Rattle.std.proofs.lemmas.Bool.{cases_eq, cases_lt, eq-eqb, ne_eqb, and_left, and_right, and_from, eqb-true}
use Rattle.std.proofs.lemmas.Bool.Decides.{nat_tests, same_from_decides, Decides-eqb}
use Rattle.std.proofs.lemmas.List.{length-set, take_more, get_or-set_same, get_or-set_other}
use Rattle.std.proofs.lemmas.List.Elements.{All-filter}
use Rattle.std.proofs.lemmas.List.Sums.{sum_by_push, sum_by-take-le}
use Rattle.doc_types.specs.declared.hits.Hit.{Hit}
use Rattle.rankers.specs.Weight.{in_field, lcs, same_offset}
use Rattle.rankers.specs.steps.FieldValue.{IsWithin, AreWithin}
use Rattle.rankers.specs.steps.Offsets.{count_in}
use Rattle.rankers.proofs.AtOffset.{bounded, met}
use Rattle.rankers.proofs.Counting.{count_by-filter}
use Rattle.rankers.proofs.FewHits.{stands, few_at_offset}

-- the greater of two numbers, as `max` answers it
pub ord_max_is : (a b : ℕ) → ord_max nat_cmp a b ≡ max a b
ord_max_is a b = grind (arith, nat_tests)

-- The ring has the counts of the field's hits at all offsets that a hit from the position on can have; none has come at those that
-- only later positions have; and this is the greatest count of all.
pub record IsRing (field reached : ℕ) (offsets counts : List ℕ) (most : ℕ) (hits : List Hit) : Type 0 where
  pub long_offsets : length offsets ≡ 256
  pub long_counts : length counts ≡ 256
  pub each : (place : ℕ) → reached ≤ place → count_in offsets counts place ≡ count_by (stands field place) hits
  pub none : (place : ℕ) → reached + 255 ≤ place → count_by (stands field place) hits ≡ 0
  pub above : (place : ℕ) → count_by (stands field place) hits ≤ most
  pub met : (place : ℕ) × (most ≡ count_by (stands field place) hits)

either_zero : (b : Bool) (n : ℕ) → n ≡ 0 → cond b n 0 ≡ 0
either_zero true n is = is
either_zero false n is = refl

pub ring_none : (field : ℕ) (offsets counts : List ℕ) → length offsets ≡ 256 → length counts ≡ 256 → All (λ count. count ≡ 0) counts → IsRing field 0 offsets counts 0 []
ring_none field offsets counts long_offsets long_counts zero = record {
  long_offsets = long_offsets;
  long_counts = long_counts;
  each = λ place up. either_zero (get_or offsets (place % 256) 0 == place) (get_or counts (place % 256) 0) (zero (place % 256) 0 (omega (arith, long_counts)));
  none = λ place up. refl;
  above = λ place. omega arith;
  met = (0, refl);
}

count_push : (field place : ℕ) (hits : List Hit) (hit : Hit) → count_by (stands field place) (hits ++ hit ∷ []) ≡ count_by (stands field place) hits + cond (stands field place hit) 1 0
count_push field place hits hit = sum_by_push (λ h. cond (stands field place h) 1 0) hits hit

count_here : (field place : ℕ) (hits : List Hit) (hit : Hit) → hit.field ≡ field → hit.position + 255 ≡ place + hit.query → count_by (stands field place) (hits ++ hit ∷ []) ≡ count_by (stands field place) hits + 1
count_here field place hits hit own here =
    count_push field place hits hit
    ∙ ap (λ b. count_by (stands field place) hits + cond b 1 0) (and_from (hit.field == field) ((hit.position + 255) == (place + hit.query)) (eq-eqb _ _ own) (eq-eqb _ _ here))

count_there : (field place : ℕ) (hits : List Hit) (hit : Hit) → hit.position + 255 ≢ place + hit.query → count_by (stands field place) (hits ++ hit ∷ []) ≡ count_by (stands field place) hits
count_there field place hits hit there =
    let is = count_push field place hits hit in
    let no = ap (λ b. count_by (stands field place) hits + cond b 1 0) (and_right (hit.field == field) ((hit.position + 255) == (place + hit.query)) (ne_eqb _ _ there)) in
    omega arith

count_other : (field place : ℕ) (hits : List Hit) (hit : Hit) → hit.field ≢ field → count_by (stands field place) (hits ++ hit ∷ []) ≡ count_by (stands field place) hits
count_other field place hits hit other =
    let is = count_push field place hits hit in
    let no = ap (λ b. count_by (stands field place) hits + cond b 1 0) (and_left (hit.field == field) ((hit.position + 255) == (place + hit.query)) (ne_eqb _ _ other)) in
    omega arith

-- a hit of another field
pub ring_other : (field reached : ℕ) (offsets counts : List ℕ) (most : ℕ) (hits : List Hit) (hit : Hit) → hit.field ≢ field → IsRing field reached offsets counts most hits → IsRing field reached offsets counts most (hits ++ hit ∷ [])
ring_other field reached offsets counts most hits hit other ring = record {
  long_offsets = ring.long_offsets;
  long_counts = ring.long_counts;
  each = λ place up. ring.each place up ∙ sym (count_other field place hits hit other);
  none = λ place up. count_other field place hits hit other ∙ ring.none place up;
  above = λ place. (let same = count_other field place hits hit other in omega (arith, ring.above place));
  met = (ring.met.0, ring.met.1 ∙ sym (count_other field ring.met.0 hits hit other));
}

module _ (field reached : ℕ) (offsets counts : List ℕ) (most : ℕ) (hits : List Hit) (hit : Hit) (at : ℕ)
    (own : hit.field ≡ field) (from_one : 1 ≤ hit.query) (query : hit.query ≤ 255) (later : reached ≤ hit.position)
    (here : hit.position + 255 ≡ at + hit.query) (ring : IsRing field reached offsets counts most hits) where
  abbrev count : ℕ
  count = count_in offsets counts at

  raised : count_by (stands field at) (hits ++ hit ∷ []) ≡ count + 1
  raised = count_here field at hits hit own here ∙ ap (λ n. n + 1) (sym (ring.each at (omega arith)))

  unchanged : (place : ℕ) → place ≢ at → count_by (stands field place) (hits ++ hit ∷ []) ≡ count_by (stands field place) hits
  unchanged place other = count_there field place hits hit (λ e. other (omega arith))

  -- at its own place
  own_count_in : count_in (set offsets (at % 256) at) (set counts (at % 256) (count + 1)) at ≡ count + 1
  own_count_in =
      ap (λ b. cond b (get_or (set counts (at % 256) (count + 1)) (at % 256) 0) 0)
      (ap (λ n. n == at) (get_or-set_same offsets (at % 256) at 0 (omega (arith, ring.long_offsets))) ∙ eq-eqb at at refl)
      ∙ get_or-set_same counts (at % 256) (count + 1) 0 (omega (arith, ring.long_counts))

  -- at another offset of its place, which no hit has had
  taken_count_in : (place : ℕ) → place ≢ at → place % 256 ≡ at % 256 → count_in (set offsets (at % 256) at) (set counts (at % 256) (count + 1)) place ≡ 0
  taken_count_in place other same =
      ap (λ n. cond (get_or (set offsets (at % 256) at) n 0 == place) (get_or (set counts (at % 256) (count + 1)) n 0) 0) same
      ∙ ap (λ b. cond b (get_or (set counts (at % 256) (count + 1)) (at % 256) 0) 0)
      (ap (λ n. n == place) (get_or-set_same offsets (at % 256) at 0 (omega (arith, ring.long_offsets))) ∙ ne_eqb at place (λ e. other (sym e)))

  -- at any other one
  other_count_in : (place : ℕ) → place % 256 ≢ at % 256 → count_in (set offsets (at % 256) at) (set counts (at % 256) (count + 1)) place ≡ count_in offsets counts place
  other_count_in place apart =
      ap (λ n. cond (n == place) (get_or (set counts (at % 256) (count + 1)) (place % 256) 0) 0) (get_or-set_other offsets (at % 256) (place % 256) at 0 apart)
      ∙ ap (λ n. cond (get_or offsets (place % 256) 0 == place) n 0) (get_or-set_other counts (at % 256) (place % 256) (count + 1) 0 apart)

  each_more : (place : ℕ) → hit.position ≤ place → count_in (set offsets (at % 256) at) (set counts (at % 256) (count + 1)) place ≡ count_by (stands field place) (hits ++ hit ∷ [])
  each_more place up =
      elim (cases_eq place at) [
        | inl same ↦
            subst
            (λ (p : ℕ). count_in (set offsets (at % 256) at) (set counts (at % 256) (count + 1)) p ≡ count_by (stands field p) (hits ++ hit ∷ []))
            (sym same)
            (own_count_in ∙ sym raised)
        | inr other ↦ elim (cases_eq (place % 256) (at % 256)) [
          | inl same ↦ taken_count_in place other same ∙ sym (unchanged place other ∙ ring.none place (omega arith))
          | inr apart ↦ other_count_in place apart ∙ (ring.each place (omega arith) ∙ sym (unchanged place other))
        ]
      ]

  above_more : (place : ℕ) → count_by (stands field place) (hits ++ hit ∷ []) ≤ max most (count + 1)
  above_more place =
      elim (cases_eq place at) [
        | inl same ↦ subst (λ (p : ℕ). count_by (stands field p) (hits ++ hit ∷ []) ≤ max most (count + 1)) (sym same) (let is = raised in omega arith)
        | inr other ↦ (let is = unchanged place other in let bound = ring.above place in omega arith)
      ]

  met_more : (place : ℕ) × (max most (count + 1) ≡ count_by (stands field place) (hits ++ hit ∷ []))
  met_more =
      elim (cases_lt most (count + 1)) [
        | inl less ↦ (at, (let is = raised in omega arith))
        | inr more ↦ (
          ring.met.0,
          (
              let was = ring.met.1 in
              let other : ring.met.0 ≢ at = λ e. (let its = ring.each at (omega arith) in let same = ap (λ (p : ℕ). count_by (stands field p) hits) e in omega arith) in
              let is = unchanged ring.met.0 other in
              omega arith),
        )
      ]

  -- a hit of the field, which counts at its offset
  pub ring_more : IsRing field hit.position (set offsets (at % 256) at) (set counts (at % 256) (count + 1)) (max most (count + 1)) (hits ++ hit ∷ [])
  ring_more = record {
    long_offsets = length-set offsets (at % 256) at ∙ ring.long_offsets;
    long_counts = length-set counts (at % 256) (count + 1) ∙ ring.long_counts;
    each = each_more;
    none = λ place up. unchanged place (λ e. omega arith) ∙ ring.none place (omega arith);
    above = above_more;
    met = met_more;
  }

at_place : ℕ → Hit → Bool
at_place place hit = (hit.position + 255) == (place + hit.query)

alike : (place : ℕ) (hit : Hit) → at_place place hit ≡ true → (other : Hit) → at_place place other ≡ same_offset hit other
unfolding at_place
alike place hit here other =
    let is = eqb-true (hit.position + 255) (place + hit.query) here in
    same_from_decides {P = other.position + 255 ≡ place + other.query} _ _ (Decides-eqb _ _)
    (λ t. (let e = eqb-true (other.position + hit.query) (hit.position + other.query) t in omega arith), λ e. eq-eqb (other.position + hit.query) (hit.position + other.query) (omega arith))

placed : (field : ℕ) (hits : List Hit) → AreWithin hits → All (λ hit. (place : ℕ) × (at_place place hit ≡ true)) (in_field field hits)
unfolding at_place
placed field hits within =
    λ k d h. (let in' = All-filter (λ hit. hit.field == field) IsWithin hits within.each k d h in
    let hit : Hit = get_or (in_field field hits) k d in
    let most : hit.query ≤ 255 = in'.query in
    (hit.position + 255 - hit.query, eq-eqb _ _ (omega arith)))

own_count : (field place : ℕ) (hits : List Hit) → count_by (at_place place) (in_field field hits) ≡ count_by (stands field place) hits
unfolding at_place
own_count field place hits = count_by-filter (at_place place) (λ hit. hit.field == field) hits

-- at the end
pub ring_all : (field reached : ℕ) (offsets counts : List ℕ) (most : ℕ) (hits : List Hit) → AreWithin hits → IsRing field reached offsets counts most hits → most ≡ lcs (in_field field hits)
ring_all field reached offsets counts most hits within ring =
    let own : List Hit = in_field field hits in
    let reaches = met ℕ at_place alike own 0 (placed field hits within) in
    let same = own_count field reaches.0 hits in
    let above = ring.above reaches.0 in
    let is = reaches.1 in
    let most_is = ring.met.1 in
    let most_own = own_count field ring.met.0 hits in
    let below = bounded ℕ at_place alike own ring.met.0 in
    omega arith

-- the hits of a field at one offset are few
pub lcs_few : (field : ℕ) (hits : List Hit) → AreWithin hits → lcs (in_field field hits) ≤ 255
lcs_few field hits within =
    let reached = met ℕ at_place alike (in_field field hits) 0 (placed field hits within) in
    let is = reached.1 in
    let same = own_count field reached.0 hits in
    let few = few_at_offset field reached.0 hits within in
    omega arith

-- the hit at a place of the list
module _ (field reached : ℕ) (offsets counts : List ℕ) (most : ℕ) (hits : List Hit) (i at : ℕ) (d : Hit) (within : AreWithin hits) (inside : i < length hits)
    (own : (get_or hits i d).field ≡ field) (later : reached ≤ (get_or hits i d).position) (here : at ≡ (get_or hits i d).position + 255 - (get_or hits i d).query)
    (ring : IsRing field reached offsets counts most (take i hits)) where
  here_at : (get_or hits i d).position + 255 ≡ at + (get_or hits i d).query
  here_at = let small = (within.each i d inside).query in omega arith

  -- a byte has room for its count
  pub byte_suffices : count_in offsets counts at < 255
  byte_suffices =
      let so_far = sum_by-take-le (λ hit. cond (stands field at hit) 1 0) hits (i + 1) in
      let few = few_at_offset field at hits within in
      let split = ap (count_by (stands field at)) (take_more hits i d inside) in
      let raises = raised field reached offsets counts most (take i hits) (get_or hits i d) at own (within.each i d inside).from_one (within.each i d inside).query later here_at ring in
      omega arith

  pub ring_next : IsRing field (get_or hits i d).position (set offsets (at % 256) at) (set counts (at % 256) (count_in offsets counts at + 1)) (max most (count_in offsets counts at + 1)) (take (i + 1) hits)
  ring_next =
      subst
      (IsRing field (get_or hits i d).position (set offsets (at % 256) at) (set counts (at % 256) (count_in offsets counts at + 1)) (max most (count_in offsets counts at + 1)))
      (sym (take_more hits i d inside))
      (ring_more field reached offsets counts most (take i hits) (get_or hits i d) at own (within.each i d inside).from_one (within.each i d inside).query later here_at ring)

pub ring_same : (field reached reached' : ℕ) (offsets offsets' counts counts' : List ℕ) (most most' : ℕ) (hits : List Hit) → reached' ≡ reached → offsets' ≡ offsets → counts' ≡ counts → most' ≡ most → IsRing field reached offsets counts most hits → IsRing field reached' offsets' counts' most' hits
ring_same field reached reached' offsets offsets' counts counts' most most' hits r o c m ring =
    subst (λ (n : ℕ). IsRing field n offsets' counts' most' hits) (sym r)
    (subst (λ (n : ℕ). IsRing field reached offsets' counts' n hits) (sym m)
    (subst (λ (cs : List ℕ). IsRing field reached offsets' cs most hits) (sym c)
    (subst (λ (os : List ℕ). IsRing field reached os counts most hits) (sym o) ring)))
