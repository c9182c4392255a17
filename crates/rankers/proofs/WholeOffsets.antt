-- Offsets as whole numbers, and the query positions that have a hit at one.
use Rattle.std.proofs.Common.{◌≡◌, ℕ, ℤ, pos, ◌+ℤ◌, ◌-ℤ◌, ◌+◌, ◌≤◌, Bool, true, nat_eq, ◌==◌, List, map, length, get_or, ap, subst, ◌∙◌, arith}
use Rattle.std.specs.List.{filter, count_by, All, AllPairs, IsDistinct}
use Rattle.std.specs.Set.{is_member}
use Rattle.std.specs.Cmp.{nat_eq_equiv}
use Rattle.std.proofs.lemmas.Bool.{eqb-true, eq-eqb}
use Rattle.std.proofs.lemmas.Bool.Decides.{same_from_decides, Decides-int_eq}
use Rattle.std.proofs.lemmas.Int.{ints}
use Rattle.std.proofs.lemmas.List.{length-map}
use Rattle.std.proofs.lemmas.List.Elements.{All-filter, All-map, filter_passes}
use Rattle.std.proofs.lemmas.List.Folds.{Any-from_list_any}
use Rattle.std.proofs.lemmas.List.Kept.{AllPairs-filter}
use Rattle.std.proofs.lemmas.List.Sums.{length-filter}
use Rattle.std.proofs.lemmas.Map.Made.{distinct_count-le, distinct_count-from_IsDistinct, length-le_from_is_member}
use Rattle.doc_types.specs.declared.hits.Hit.{Hit}
use Rattle.rankers.specs.Limits.{AreOfPositions}
use Rattle.rankers.specs.Weight.{Differ, in_field, same_offset, lcs, stands_at, query_positions_at}
use Rattle.rankers.proofs.AtOffset.{bounded, met}
use Rattle.rankers.proofs.FewHits.{distinct_keys}

alike : (offset : ℤ) (hit : Hit) → stands_at offset hit ≡ true → (other : Hit) → stands_at offset other ≡ same_offset hit other
alike offset hit here other =
    let at : pos hit.position ≡ pos hit.query +ℤ offset = (Decides-int_eq _ _).0 here in
    same_from_decides {P = pos other.position ≡ pos other.query +ℤ offset} _ _ (Decides-int_eq _ _) (
      λ t. (let e = eqb-true (other.position + hit.query) (hit.position + other.query) t in omega (arith, ints)),
      λ e. eq-eqb (other.position + hit.query) (hit.position + other.query) (omega (arith, ints)),
    )

placed : (hits : List Hit) → All (λ hit. (offset : ℤ) × (stands_at offset hit ≡ true)) hits
placed hits = λ k d h.
    let hit : Hit = get_or hits k d in
    let offset : ℤ = pos hit.position -ℤ pos hit.query in
    let is : pos hit.position ≡ pos hit.query +ℤ offset = omega (arith, ints) in
    (offset, (Decides-int_eq _ _).1 is)

hits_at : (offset : ℤ) (hits : List Hit) → length (map (λ (hit : Hit). hit.query) (filter (stands_at offset) hits)) ≡ count_by (stands_at offset) hits
hits_at offset hits = length-map (filter (stands_at offset) hits) (λ (hit : Hit). hit.query) ∙ length-filter (stands_at offset) hits

pub bound : (hits : List Hit) (offset : ℤ) → query_positions_at offset hits ≤ lcs hits
bound hits offset =
    omega (arith, distinct_count-le nat_eq (map (λ (hit : Hit). hit.query) (filter (stands_at offset) hits)), hits_at offset hits, bounded ℤ stands_at alike hits offset)

-- hits of one field at one offset are of distinct query positions
distinct_at : (field : ℕ) (hits : List Hit) → AllPairs Differ hits → (offset : ℤ) → IsDistinct nat_eq (map (λ (hit : Hit). hit.query) (filter (stands_at offset) (in_field field hits)))
distinct_at field hits apart offset =
    let test : Hit → Bool = λ hit. hit.field == field in
    let own : List Hit = in_field field hits in
    distinct_keys
    (λ hit. (test hit ≡ true) × (stands_at offset hit ≡ true))
    (λ hit. hit.query)
    (λ a b at_a at_b differ same.
    let in_a = eqb-true a.field field at_a.0 in
    let in_b = eqb-true b.field field at_b.0 in
    let place_a : pos a.position ≡ pos a.query +ℤ offset = (Decides-int_eq _ _).0 at_a.1 in
    let place_b : pos b.position ≡ pos b.query +ℤ offset = (Decides-int_eq _ _).0 at_b.1 in
    differ (omega arith) (omega (arith, ints)) same)
    (record { query = 0; word = 0; field = 0; position = 0 })
    (filter (stands_at offset) own)
    (λ k d h. (All-filter (stands_at offset) (λ hit. test hit ≡ true) own (filter_passes test hits) k d h, filter_passes (stands_at offset) own k d h))
    (AllPairs-filter Differ (stands_at offset) own (AllPairs-filter Differ test hits apart))

same_count : (field : ℕ) (hits : List Hit) → AllPairs Differ hits → (offset : ℤ) → query_positions_at offset (in_field field hits) ≡ count_by (stands_at offset) (in_field field hits)
same_count field hits apart offset =
    distinct_count-from_IsDistinct nat_eq_equiv (map (λ (hit : Hit). hit.query) (filter (stands_at offset) (in_field field hits))) (distinct_at field hits apart offset)
    ∙ hits_at offset (in_field field hits)

pub met_by_positions : (field : ℕ) (hits : List Hit) → AllPairs Differ hits → (offset : ℤ) × (query_positions_at offset (in_field field hits) ≡ lcs (in_field field hits))
met_by_positions field hits apart =
    let reached = met ℤ stands_at alike (in_field field hits) (pos 0) (placed (in_field field hits)) in
    (reached.0, same_count field hits apart reached.0 ∙ reached.1)

-- no more query positions stand together in a field than there are
pub few_together : (field : ℕ) (hits : List Hit) → AllPairs Differ hits → (positions : List ℕ) → AreOfPositions positions hits → lcs (in_field field hits) ≤ length positions
few_together field hits apart positions of =
    let own : List Hit = in_field field hits in
    let reached = met ℤ stands_at alike own (pos 0) (placed own) in
    let here : List Hit = filter (stands_at reached.0) own in
    let queries : List ℕ = map (λ (hit : Hit). hit.query) here in
    let each : All (λ hit. is_member nat_eq positions hit.query ≡ true) here =
    All-filter (stands_at reached.0) (λ (hit : Hit). is_member nat_eq positions hit.query ≡ true) own (All-filter (λ (hit : Hit). hit.field == field) (λ (hit : Hit). is_member nat_eq positions hit.query ≡ true) hits of) in
    let all : All (λ query. is_member nat_eq positions query ≡ true) queries = All-map (λ query. is_member nat_eq positions query ≡ true) (λ (hit : Hit). hit.query) here each in
    let few = length-le_from_is_member nat_eq_equiv queries positions (distinct_at field hits apart reached.0)
    (λ q listed.
    let found = Any-from_list_any (nat_eq q) queries listed in
    ap (is_member nat_eq positions) (eqb-true q found.1 found.4) ∙ subst (λ (n : ℕ). is_member nat_eq positions n ≡ true) found.3 (all found.0 found.1 found.2)) in
    omega (arith, few, hits_at reached.0 own, reached.1)
