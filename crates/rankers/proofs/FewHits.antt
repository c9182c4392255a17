-- Hits that differ by a number below a limit are at most as many.
use Rattle.std.proofs.Common.{◌≡◌, ◌≢◌, ℕ, ◌+◌, ◌-◌, ◌*◌, ◌<◌, ◌≤◌, Bool, true, eqb, ◌==◌, ◌&&◌, List, [], ◌∷◌, map, length, get_or, sym, ◌∙◌, arith}
use Rattle.std.specs.List.{filter, count_by, list_any, All, AllPairs, IsDistinct}
use Rattle.std.proofs.lemmas.Bool.{and_parts, eqb-true, ne_eqb}
use Rattle.std.proofs.lemmas.List.{length-map, get_or-map}
use Rattle.std.proofs.lemmas.List.Elements.{All-map, All-filter, All-get_or, filter_passes}
use Rattle.std.proofs.lemmas.List.Folds.{Any-from_list_any}
use Rattle.std.proofs.lemmas.List.Kept.{AllPairs-filter}
use Rattle.std.proofs.lemmas.List.Sums.{length-filter}
use Rattle.std.proofs.lemmas.Map.Keys.{IsDistinct-from_apart}
use Rattle.std.proofs.lemmas.Map.Steps.{length-le_from_distinct_below}
use Rattle.doc_types.specs.declared.hits.Hit.{Hit}
use Rattle.rankers.specs.Weight.{Differ, in_field}
use Rattle.rankers.specs.steps.FieldValue.{IsWithin, AreWithin}

listed_below : (n : ℕ) (keys : List ℕ) → All (λ key. key < n) keys → (q : ℕ) → list_any (eqb q) keys ≡ true → q < n
listed_below n keys all q listed =
    let found = Any-from_list_any (eqb q) keys listed in
    let below = all found.0 found.1 found.2 in
    let same = eqb-true q found.1 found.4 in
    let at = found.3 in
    omega arith

-- hits with Q differ by their keys
module _ (Q : Hit → Type 0) (key : Hit → ℕ) (apart : (a b : Hit) → Q a → Q b → Differ a b → key a ≢ key b) where
  pub distinct_keys : (d : Hit) (hits : List Hit) → All Q hits → AllPairs Differ hits → IsDistinct eqb (map key hits)
  distinct_keys d hits all pairs =
      IsDistinct-from_apart eqb (map key hits) (λ i j e before within.
      let last : j < length hits = omega (arith, length-map hits key) in
      let first : i < length hits = omega arith in
      let differ = apart (get_or hits i d) (get_or hits j d) (All-get_or Q hits i d first all) (All-get_or Q hits j d last all) (pairs i j d before last) in
      ne_eqb _ _ (λ same. differ (sym (get_or-map key hits i d e first) ∙ (same ∙ get_or-map key hits j d e last))))

  pub few : (n : ℕ) → ((hit : Hit) → Q hit → key hit < n) → (hits : List Hit) → All Q hits → AllPairs Differ hits → length hits ≤ n
  few n below [] all pairs = omega arith
  few n below (x ∷ xs) all pairs =
      let hits : List Hit = x ∷ xs in
      let keys : All (λ k. k < n) (map key hits) = All-map (λ k. k < n) key hits (λ k d within. below _ (all k d within)) in
      let few_keys = length-le_from_distinct_below (map key hits) n (distinct_keys x hits all pairs) (listed_below n (map key hits) keys) in
      omega (arith, length-map hits key)

-- the hit stands in the field at the offset that has this place in a table
abbrev pub stands : ℕ → ℕ → Hit → Bool
stands field place hit = (hit.field == field) && ((hit.position + 255) == (place + hit.query))

stands_at : (field place : ℕ) (hit : Hit) → stands field place hit ≡ true → (hit.field ≡ field) × (hit.position + 255 ≡ place + hit.query)
stands_at field place hit t =
    let parts = and_parts (hit.field == field) ((hit.position + 255) == (place + hit.query)) t in
    (eqb-true _ _ parts.0, eqb-true _ _ parts.1)

-- of one field, at one offset
pub few_at_offset : (field place : ℕ) (hits : List Hit) → AreWithin hits → count_by (stands field place) hits ≤ 255
few_at_offset field place hits within =
    let test = stands field place in
    let here = few
    (λ hit. IsWithin hit × (test hit ≡ true))
    (λ hit. hit.query - 1)
    (λ a b at_a at_b differ same.
    let in_a = stands_at field place a at_a.1 in
    let in_b = stands_at field place b at_b.1 in
    let one = at_a.0.from_one in
    let other = at_b.0.from_one in
    differ (omega arith) (omega arith) (omega arith))
    255
    (λ hit at. let one = at.0.from_one in let most = at.0.query in omega arith)
    (filter test hits)
    (λ k d h. (All-filter test IsWithin hits within.each k d h, filter_passes test hits k d h))
    (AllPairs-filter Differ test hits within.apart) in
    omega (arith, length-filter test hits)

-- of one field
pub few_in_field : (field : ℕ) (hits : List Hit) → AreWithin hits → length (in_field field hits) ≤ 16777216
few_in_field field hits within =
    let test : Hit → Bool = λ hit. hit.field == field in
    few
    (λ hit. IsWithin hit × (test hit ≡ true))
    (λ hit. hit.position * 256 + hit.query)
    (λ a b at_a at_b differ same.
    let in_a = eqb-true _ _ at_a.1 in
    let in_b = eqb-true _ _ at_b.1 in
    let most_a = at_a.0.query in
    let most_b = at_b.0.query in
    differ (omega arith) (omega arith) (omega arith))
    16777216
    (λ hit at. let far = at.0.position in let most = at.0.query in omega arith)
    (filter test hits)
    (λ k d h. (All-filter test IsWithin hits within.each k d h, filter_passes test hits k d h))
    (AllPairs-filter Differ test hits within.apart)
