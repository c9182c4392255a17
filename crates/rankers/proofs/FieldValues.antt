-- What a field gives, and that it is small.
use Rattle.std.proofs.Common.{◌≡◌, ℕ, ◌+◌, ◌-◌, ◌*◌, ◌^◌, ◌<◌, ◌≤◌, Bool, true, false, cond, ◌||◌, ◌==◌, nat_eq, List, [], ◌∷◌, map, length, get_or, take, sum, ◌≢◌, inl, inr, refl, sym, ap, ◌∙◌, arith}
use Rattle.std.specs.List.{filter, count_by, list_any, enumerate_from, sum_by, All}
use Rattle.std.proofs.lemmas.Bool.{cases_Bool, eq-eqb, ne_eqb, false≢true}
use Rattle.std.proofs.lemmas.List.{length-map, take_all}
use Rattle.std.proofs.lemmas.List.FromFn.{length-enumerate_from, get_or-enumerate_from}
use Rattle.std.proofs.lemmas.List.Sums.{length-filter, sum_by-cons, sum_by_more, sum_by-le}
use Rattle.std.proofs.lemmas.Map.Made.{distinct_count-le}
use Rattle.std.proofs.lemmas.Nat.{mul-le}
use Rattle.doc_types.specs.declared.hits.Hit.{Hit}
use Rattle.doc_types.specs.declared.hits.Hits.{Hits}
use Rattle.rankers.specs.declared.ranker.Ranker.{Ranker}
use Rattle.rankers.specs.declared.ranker.TheConstants.{MAX_FIELD_WEIGHT}
use Rattle.rankers.specs.declared.ranker.Ranker.TheVariants as rankers
use Rattle.rankers.specs.Weight.{in_field, same_offset, lcs, word_count, max_lcs, ranked, weight}
use Rattle.rankers.specs.steps.FieldValue.{AreWithin, own_value, field_value, fields_value}
use Rattle.rankers.proofs.Counting.{count_by_none}
use Rattle.rankers.proofs.Greatest.{le_greatest}
use Rattle.rankers.proofs.FewHits.{few_in_field}

none_kept : (p : Hit → Bool) (hits : List Hit) → list_any p hits ≡ false → length (filter p hits) ≡ 0
none_kept p hits none = length-filter p hits ∙ count_by_none p hits none

first_kept : (b rest : Bool) (hit : Hit) (kept : List Hit) → (rest ≡ true → 0 < length kept) → (b || rest) ≡ true → 0 < length (cond b (hit ∷ kept) kept)
first_kept true rest hit kept later some = omega arith
first_kept false rest hit kept later some = later some

pub some_kept : (p : Hit → Bool) (hits : List Hit) → list_any p hits ≡ true → 0 < length (filter p hits)
some_kept p [] some = absurd (false≢true some)
some_kept p (hit ∷ hits) some = first_kept (p hit) (list_any p hits) hit (filter p hits) (some_kept p hits) some

pub value_without : (ranker : Ranker) (most number weight : ℕ) (hits : List Hit) → length (in_field number hits) ≡ 0 → 0 ≡ field_value ranker most number weight hits
value_without ranker most number weight hits none =
    elim (cases_Bool (list_any (λ hit. hit.field == number) hits)) [
      | inl some ↦ absurd (let kept = some_kept (λ hit. hit.field == number) hits some in omega arith)
      | inr none' ↦ ap (λ b. cond b (own_value ranker most number weight (in_field number hits)) 0) (sym none')
    ]

pub value_with : (ranker is : Ranker) (most number weight value : ℕ) (hits : List Hit) → ranker ≡ is → 0 < length (in_field number hits)
    → value ≡ own_value is most number weight (in_field number hits) → value ≡ field_value ranker most number weight hits
value_with ranker is most number weight value hits e some own =
    elim (cases_Bool (list_any (λ hit. hit.field == number) hits)) [
      | inl listed ↦
          own ∙ (ap (λ r. own_value r most number weight (in_field number hits)) (sym e) ∙ ap (λ b. cond b (own_value ranker most number weight (in_field number hits)) 0) (sym listed))
      | inr none ↦ absurd (let kept = none_kept (λ hit. hit.field == number) hits none in omega arith)
    ]

pub lcs_from_one : (own : List Hit) → 0 < length own → 1 ≤ lcs own
lcs_from_one [] some = absurd (omega arith)
lcs_from_one (hit ∷ hits) some =
    let most = le_greatest (λ h. count_by (same_offset h) (hit ∷ hits)) (hit ∷ hits) 0 hit (omega arith) in
    let counts = sum_by-cons (λ other. cond (same_offset hit other) 1 0) hit hits in
    let itself = ap (λ b. cond b 1 0 + count_by (same_offset hit) hits) (eq-eqb (hit.position + hit.query) (hit.position + hit.query) refl) in
    omega arith

pub words_few : (field : ℕ) (hits : List Hit) → AreWithin hits → word_count (in_field field hits) ≤ 16777216
words_few field hits within =
    let own : List Hit = in_field field hits in
    let words : List ℕ = map (λ (hit : Hit). hit.word) own in
    omega (arith, distinct_count-le nat_eq words, length-map own (λ (hit : Hit). hit.word), few_in_field field hits within)

-- the numbers of `matchany`
module _ (words together most weight : ℕ) (few : words ≤ 16777216) (short : together ≤ 255) (bound : most < 2 ^ 30) (light : weight ≤ MAX_FIELD_WEIGHT) where
  pub apart_small : (together - 1) * most ≤ 272730423042
  apart_small = mul-le (together - 1) most 254 1073741823 (omega arith) (omega arith)

  pub any_small : (words + (together - 1) * most) * weight ≤ 2 ^ 54
  any_small =
      let apart = apart_small in
      let whole = mul-le (words + (together - 1) * most) weight 272747200258 MAX_FIELD_WEIGHT (omega arith) light in
      omega arith

-- the sum of what so many fields give, by their numbers and weights
pub record IsSummed (gives : ℕ → ℕ → ℕ) (weights : List ℕ) (count total : ℕ) : Type 0 where
  pub value : total ≡ sum_by (λ e. gives e.0 e.1) (take count (enumerate_from 0 weights))
  pub bound : total ≤ count * 2 ^ 54

module _ (gives : ℕ → ℕ → ℕ) (weights : List ℕ) (count total : ℕ) (summed : IsSummed gives weights count total) where
  -- one field more
  pub summed_more : (more : ℕ) → count < length weights → more ≡ gives count (get_or weights count 0) → more ≤ 2 ^ 54 → IsSummed gives weights (count + 1) (total + more)
  summed_more more inside is small =
      let of : ℕ × ℕ → ℕ = λ e. gives e.0 e.1 in
      let same : 0 + count ≡ count = omega arith in
      let step = sum_by_more of (enumerate_from 0 weights) count (0, 0) (omega (arith, length-enumerate_from 0 weights)) in
      let next = ap of (get_or-enumerate_from 0 weights count (0, 0) inside) ∙ ap (λ n. gives n (get_or weights count 0)) same in
      let so_far = summed.value in
      let bound = summed.bound in
      record { value = omega arith; bound = omega arith }

  -- all fields
  pub summed_all : length weights ≤ count → total ≡ sum_by (λ e. gives e.0 e.1) (enumerate_from 0 weights)
  summed_all all =
      summed.value ∙ ap (sum_by (λ e. gives e.0 e.1)) (take_all count (enumerate_from 0 weights) (omega (arith, length-enumerate_from 0 weights)))

-- what a ranker that looks at hits gives
pub ranked_is : (ranker : Ranker) (keywords : ℕ) (weights : List ℕ) (hits : List Hit) → ranker ≢ rankers.None
    → fields_value ranker (max_lcs keywords weights) weights hits ≡ ranked ranker keywords weights hits
ranked_is rankers.None keywords weights hits not = absurd (not refl)
ranked_is rankers.WordCount keywords weights hits not = refl
ranked_is rankers.Proximity keywords weights hits not = refl
ranked_is rankers.MatchAny keywords weights hits not = refl
ranked_is rankers.FieldMask keywords weights hits not = refl

-- a query with keywords
pub weight_is : (ranker : Ranker) (hits : Hits) (list weights : List ℕ) (total : ℕ) → hits.keywords ≢ 0 → ranker ≢ rankers.None → list ≡ weights
    → total ≡ fields_value ranker (max_lcs hits.keywords list) list hits.list → total ≡ weight ranker hits weights
weight_is ranker hits list weights total some not same is =
    is
    ∙ (ap (λ ws. fields_value ranker (max_lcs hits.keywords ws) ws hits.list) same
    ∙ (ranked_is ranker hits.keywords weights hits.list not
    ∙ sym (ap (λ b. cond b 1 (ranked ranker hits.keywords weights hits.list)) (ne_eqb hits.keywords 0 some))))

-- the number of keywords times the sum of all weights
pub max_lcs_small : (keywords : ℕ) (weights : List ℕ) → keywords ≤ 255 → length weights ≤ 32 → All (λ weight. (1 ≤ weight) × (weight ≤ MAX_FIELD_WEIGHT)) weights → max_lcs keywords weights < 2 ^ 30
max_lcs_small keywords weights few short each =
    let each_small : All (λ weight. weight ≤ MAX_FIELD_WEIGHT) weights = λ k d h. (each k d h).1 in
    let whole = sum_by-le (λ weight. weight) MAX_FIELD_WEIGHT weights each_small in
    let product = mul-le keywords (sum weights) 255 2097120 few (omega arith) in
    omega arith

-- a document without a hit
pub weight_none : (ranker : Ranker) (hits : Hits) (weights : List ℕ) → hits.list ≡ [] → hits.keywords ≢ 0 → ranker ≢ rankers.None → weight ranker hits weights ≡ 0
weight_none ranker hits weights none some not =
    let zeros = sum_by-le (λ (e : ℕ × ℕ). 0) 0 (enumerate_from 0 weights) (λ k d h. omega arith) in
    let nothing : fields_value ranker (max_lcs hits.keywords weights) weights [] ≡ 0 = omega arith in
    sym (weight_is ranker hits weights weights 0 some not refl (sym (ap (fields_value ranker (max_lcs hits.keywords weights) weights) none ∙ nothing)))
