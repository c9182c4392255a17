-- Hits of one keyword: a field that has some gives what it would by one of them alone.
use Rattle.std.proofs.Common.{◌≡◌, ◌≢◌, ℕ, ◌+◌, ◌-◌, ◌*◌, ◌<◌, ◌≤◌, true, false, ◌||◌, cond, ◌==◌, nat_eq, List, [], ◌∷◌, map, length, inl, inr, refl, sym, ap, ◌∙◌, arith}
use Rattle.std.specs.List.{filter, count_by, list_any, enumerate_from, sum_by, All, AllPairs}
use Rattle.std.specs.Set.{unique_keys, is_member, distinct_count}
use mathlib.Core.Bool.{true≢false}
use Rattle.std.proofs.lemmas.Bool.{cases_Bool, eq-eqb, eqb-true, or_left}
use Rattle.std.proofs.lemmas.List.{length-map}
use Rattle.std.proofs.lemmas.List.Elements.{All-map, All-filter, All-head, All-tail, filter_passes}
use Rattle.std.proofs.lemmas.List.Kept.{AllPairs-filter}
use Rattle.std.proofs.lemmas.List.Sums.{length-filter, sum_by-le-sum_by}
use Rattle.doc_types.specs.declared.hits.Hit.{Hit}
use Rattle.doc_types.specs.declared.hits.Hits.{Hits}
use Rattle.rankers.specs.declared.ranker.Ranker.{Ranker}
use Rattle.rankers.specs.declared.ranker.Ranker.TheVariants as rankers
use Rattle.rankers.specs.Fields.{has_bit, AreFieldsOf, AreInFields, AreOfOne}
use Rattle.rankers.specs.Weight.{AreRanked, Differ, in_field, same_offset, lcs, word_count, max_lcs, weight}
use Rattle.rankers.specs.steps.FieldValue.{own_value, field_value, fields_value, lone_value, value_by_bit, values_by_bits}
use Rattle.rankers.proofs.FewHits.{few}
use Rattle.rankers.proofs.FieldValues.{some_kept, lcs_from_one, weight_is}
use Rattle.rankers.proofs.Greatest.{greatest_met}
use Rattle.rankers.proofs.WordTable.{longer}

-- a word that is listed again and again is one word
one_word : (word : ℕ) (words : List ℕ) → All (λ w. w ≡ word) words → 0 < length words → distinct_count nat_eq words ≡ 1
one_word word [] all some = absurd (omega arith)
one_word word (w ∷ []) all some = refl
one_word word (w ∷ v ∷ vs) all some =
    let rest = All-tail (λ w. w ≡ word) w (v ∷ vs) all in
    let same = eq-eqb w v (All-head (λ w. w ≡ word) w (v ∷ vs) all ∙ sym (All-head (λ w. w ≡ word) v vs rest)) in
    longer (is_member nat_eq (v ∷ vs) w) w (unique_keys nat_eq (v ∷ vs))
    ∙ (ap (λ b. cond b 0 1 + distinct_count nat_eq (v ∷ vs)) (or_left (nat_eq w v) (is_member nat_eq vs w) same)
    ∙ (let is = one_word word (v ∷ vs) rest (omega arith) in omega arith))

-- a hit of the field and of the keyword
abbrev IsOwn : ℕ → ℕ → ℕ → Hit → Type 0
IsOwn field query word hit = (hit.field ≡ field) × (hit.query ≡ query) × (hit.word ≡ word)

module _ (field query word : ℕ) (hits : List Hit) (apart : AllPairs Differ hits) (one : AreOfOne query word hits) where
  are_own : All (IsOwn field query word) (in_field field hits)
  are_own k d h =
      let of = All-filter (λ hit. hit.field == field) (λ hit. (hit.query ≡ query) × (hit.word ≡ word)) hits one k d h in
      (eqb-true _ _ (filter_passes (λ hit. hit.field == field) hits k d h), of.0, of.1)

  one_at_offset : (hit : Hit) → IsOwn field query word hit → count_by (same_offset hit) (in_field field hits) ≤ 1
  one_at_offset hit own =
      let test = same_offset hit in
      let here = few
      (λ other. IsOwn field query word other × (test other ≡ true))
      (λ other. 0)
      (λ a b at_a at_b differ same.
      let place_a = eqb-true (a.position + hit.query) (hit.position + a.query) at_a.1 in
      let place_b = eqb-true (b.position + hit.query) (hit.position + b.query) at_b.1 in
      let of_a = at_a.0.1 in
      let of_b = at_b.0.1 in
      let own_a = at_a.0.0 in
      let own_b = at_b.0.0 in
      differ (omega arith) (omega arith) (omega arith))
      1
      (λ other at. omega arith)
      (filter test (in_field field hits))
      (λ k d h. (All-filter test (IsOwn field query word) (in_field field hits) are_own k d h, filter_passes test (in_field field hits) k d h))
      (AllPairs-filter Differ test (in_field field hits) (AllPairs-filter Differ (λ hit. hit.field == field) hits apart)) in
      omega (arith, length-filter test (in_field field hits))

  pub one_together : 0 < length (in_field field hits) → lcs (in_field field hits) ≡ 1
  one_together some =
      let least = lcs_from_one (in_field field hits) some in
      elim (greatest_met (IsOwn field query word) (λ hit. count_by (same_offset hit) (in_field field hits)) (in_field field hits) are_own) [
        | inl none ↦ absurd (omega arith)
        | inr met ↦ (let most = one_at_offset met.0 met.1 in let is = met.2 in omega arith)
      ]

  one_distinct : 0 < length (in_field field hits) → word_count (in_field field hits) ≡ 1
  one_distinct some =
      one_word word (map (λ (hit : Hit). hit.word) (in_field field hits))
      (All-map (λ w. w ≡ word) (λ (hit : Hit). hit.word) (in_field field hits) (λ k d h. (are_own k d h).2))
      (omega (arith, length-map (in_field field hits) (λ (hit : Hit). hit.word)))

  own_is : (ranker : Ranker) (most number weight : ℕ) → ranker ≢ rankers.WordCount → 0 < length (in_field field hits) → lone_value ranker number weight ≡ own_value ranker most number weight (in_field field hits)
  own_is rankers.None most number weight not some = refl
  own_is rankers.WordCount most number weight not some = absurd (not refl)
  own_is rankers.Proximity most number weight not some = sym (ap (λ n. n * weight) (one_together some) ∙ omega arith)
  own_is rankers.MatchAny most number weight not some =
      sym (ap (λ n. (n + (lcs (in_field field hits) - 1) * most) * weight) (one_distinct some) ∙ (ap (λ n. (1 + (n - 1) * most) * weight) (one_together some) ∙ omega arith))
  own_is rankers.FieldMask most number weight not some = refl

  value_is : (ranker : Ranker) (most fields weight : ℕ) → ranker ≢ rankers.WordCount → has_bit fields field ≡ list_any (λ hit. hit.field == field) hits
      → value_by_bit ranker fields field weight ≡ field_value ranker most field weight hits
  value_is ranker most fields weight not bit =
      ap (λ b. cond b (lone_value ranker field weight) 0) bit
      ∙ elim (cases_Bool (list_any (λ hit. hit.field == field) hits)) [
        | inl some ↦
            ap (λ b. cond b (lone_value ranker field weight) 0) some
            ∙ (own_is ranker most field weight not (some_kept (λ hit. hit.field == field) hits some)
            ∙ ap (λ b. cond b (own_value ranker most field weight (in_field field hits)) 0) (sym some))
        | inr none ↦
            ap (λ b. cond b (lone_value ranker field weight) 0) none ∙ ap (λ b. cond b (own_value ranker most field weight (in_field field hits)) 0) (sym none)
      ]

-- what all fields give
pub values_are : (ranker : Ranker) (most fields query word : ℕ) (weights : List ℕ) (hits : List Hit) → ranker ≢ rankers.WordCount → AllPairs Differ hits → AreOfOne query word hits → AreFieldsOf fields hits
    → values_by_bits ranker fields weights ≡ fields_value ranker most weights hits
values_are ranker most fields query word weights hits not apart one bits =
    ap (λ (gives : ℕ × ℕ → ℕ). sum_by gives (enumerate_from 0 weights)) (λ i e. value_is e.0 query word hits apart one ranker most fields e.1 not (bits e.0) i)

-- the weight
pub weight_by_bits : (ranker : Ranker) (fields query word total : ℕ) (list weights : List ℕ) (hits : Hits) → ranker ≢ rankers.None → ranker ≢ rankers.WordCount → list ≡ weights → total ≡ values_by_bits ranker fields list
    → hits.keywords ≢ 0 → AreRanked hits weights → AreOfOne query word hits.list → AreFieldsOf fields hits.list → total ≡ weight ranker hits weights
weight_by_bits ranker fields query word total list weights hits asks not same is some ranked one bits =
    weight_is ranker hits list weights total some asks same
    (is ∙ values_are ranker (max_lcs hits.keywords list) fields query word list hits.list not ranked.apart one bits)

-- ---- where hits lie in some fields alone, no other field gives anything

pub bit_there : (fields field : ℕ) (hits : List Hit) → AreInFields fields hits → list_any (λ hit. hit.field == field) hits ≡ true → has_bit fields field ≡ true
bit_there fields field [] all some = absurd (true≢false (sym some))
bit_there fields field (hit ∷ hits) all some =
    elim (cases_Bool (hit.field == field)) [
      | inl here ↦ ap (has_bit fields) (sym (eqb-true hit.field field here)) ∙ All-head (λ (its : Hit). has_bit fields its.field ≡ true) hit hits all
      | inr not ↦ bit_there fields field hits (All-tail (λ (its : Hit). has_bit fields its.field ≡ true) hit hits all) (ap (λ b. b || list_any (λ its. its.field == field) hits) (sym not) ∙ some)
    ]

up_to_bit : (field query word : ℕ) (hits : List Hit) → AllPairs Differ hits → AreOfOne query word hits → (ranker : Ranker) (most fields weight : ℕ) → ranker ≢ rankers.WordCount → AreInFields fields hits
    → field_value ranker most field weight hits ≤ value_by_bit ranker fields field weight
up_to_bit field query word hits apart one ranker most fields weight not inside =
    elim (cases_Bool (list_any (λ hit. hit.field == field) hits)) [
      | inl some ↦ (let same = value_is field query word hits apart one ranker most fields weight not (bit_there fields field hits inside some ∙ sym some) in omega arith)
      | inr none ↦ (let nothing : field_value ranker most field weight hits ≡ 0 = ap (λ b. cond b (own_value ranker most field weight (in_field field hits)) 0) none in omega arith)
    ]

-- so the weight is no more than that of hits in all of these fields
pub weight_up_to_bits : (ranker : Ranker) (fields query word total : ℕ) (list weights : List ℕ) (hits : Hits) → ranker ≢ rankers.None → ranker ≢ rankers.WordCount → list ≡ weights → total ≡ values_by_bits ranker fields list
    → hits.keywords ≢ 0 → AreRanked hits weights → AreOfOne query word hits.list → AreInFields fields hits.list → weight ranker hits weights ≤ total
weight_up_to_bits ranker fields query word total list weights hits asks not same is some ranked one inside =
    let most = max_lcs hits.keywords list in
    let each = sum_by-le-sum_by (λ (e : ℕ × ℕ). field_value ranker most e.0 e.1 hits.list) (λ (e : ℕ × ℕ). value_by_bit ranker fields e.0 e.1) (enumerate_from 0 list)
    (λ e. up_to_bit e.0 query word hits.list ranked.apart one ranker most fields e.1 not inside) in
    let whole : fields_value ranker most list hits.list ≡ weight ranker hits weights = weight_is ranker hits list weights (fields_value ranker most list hits.list) some asks same refl in
    omega arith

-- by the ranker that looks at no hits it is 1
pub weighs_one : (hits : Hits) (weights : List ℕ) → weight rankers.None hits weights ≤ 1
weighs_one hits weights = elim (hits.keywords == 0) as (λ b. cond b 1 1 ≤ 1) [ true ↦ omega arith | false ↦ omega arith ]
