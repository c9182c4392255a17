-- The most that hits of so many keywords weigh that lie in some fields: a field of these gives no more than so many times what it gives
-- by one hit alone, and no other field gives anything.
use Rattle.std.proofs.Common.{◌≡◌, ◌≢◌, ℕ, ◌+◌, ◌*◌, ◌≤◌, Bool, true, false, cond, List, [], ◌∷◌, length, inl, inr, refl, ap, ◌∙◌, arith}
use Rattle.std.specs.Prelude.{◌==◌}
use Rattle.std.specs.List.{All, list_any, enumerate_from, sum_by}
use Rattle.std.proofs.lemmas.Bool.{cases_Bool}
use Rattle.std.proofs.lemmas.List.Sums.{sum_by-cons}
use Rattle.std.proofs.lemmas.Nat.{mul-le}
use Rattle.doc_types.specs.declared.hits.Hit.{Hit}
use Rattle.doc_types.specs.declared.hits.Hits.{Hits}
use Rattle.rankers.specs.declared.ranker.Ranker.{Ranker}
use Rattle.rankers.specs.declared.ranker.TheConstants.{MAX_FIELD_WEIGHT}
use Rattle.rankers.specs.declared.ranker.Ranker.TheVariants as rankers
use Rattle.rankers.specs.Fields.{has_bit, AreInFields}
use Rattle.rankers.specs.Limits.{AreOfPositions}
use Rattle.rankers.specs.Weight.{AreRanked, in_field, lcs, max_lcs, weight}
use Rattle.rankers.specs.steps.FieldValue.{own_value, field_value, fields_value, lone_value, value_by_bit, values_by_bits}
use Rattle.rankers.proofs.FieldValues.{weight_is}
use Rattle.rankers.proofs.LoneValues.{bit_there}
use Rattle.rankers.proofs.MostWeights.{times, by_proximity, by_mask, sum_small}
use Rattle.rankers.proofs.WholeOffsets.{few_together}

-- a sum of what is at most so many times something else
times_each : (n : ℕ) (gives limits : ℕ → ℕ → ℕ) → ((field w : ℕ) → gives field w ≤ n * limits field w) → (first : ℕ) (weights : List ℕ)
    → sum_by (λ e. gives e.0 e.1) (enumerate_from first weights) ≤ n * sum_by (λ e. limits e.0 e.1) (enumerate_from first weights)
times_each n gives limits each first [] = omega arith
times_each n gives limits each first (w ∷ ws) =
    let here = each first w in
    let rest = times_each n gives limits each (first + 1) ws in
    let whole = sum_by-cons (λ (e : ℕ × ℕ). gives e.0 e.1) (first, w) (enumerate_from (first + 1) ws) in
    let later : ℕ = sum_by (λ e. limits e.0 e.1) (enumerate_from (first + 1) ws) in
    let total : n * sum_by (λ e. limits e.0 e.1) (enumerate_from first (w ∷ ws)) ≡ n * limits first w + n * later =
    ap (λ all. n * all) (sum_by-cons (λ (e : ℕ × ℕ). limits e.0 e.1) (first, w) (enumerate_from (first + 1) ws)) ∙ grind arith in
    omega arith

-- a field gives no more than so many times what it gives by its bit
up_to_bits : (ranker : Ranker) (n most fields field w : ℕ) (hits : List Hit) → own_value ranker most field w (in_field field hits) ≤ n * lone_value ranker field w → AreInFields fields hits
    → field_value ranker most field w hits ≤ n * value_by_bit ranker fields field w
up_to_bits ranker n most fields field w hits own inside =
    elim (cases_Bool (list_any (λ hit. hit.field == field) hits)) [
      | inl some ↦
          (let given : field_value ranker most field w hits ≡ own_value ranker most field w (in_field field hits) = ap (λ b. cond b (own_value ranker most field w (in_field field hits)) 0) some in
          let limit : n * value_by_bit ranker fields field w ≡ n * lone_value ranker field w = ap (λ b. n * cond b (lone_value ranker field w) 0) (bit_there fields field hits inside some) in
          omega arith)
      | inr none ↦ (let nothing : field_value ranker most field w hits ≡ 0 = ap (λ b. cond b (own_value ranker most field w (in_field field hits)) 0) none in omega arith)
    ]

-- and so do all of them
weighs_up_to : (ranker : Ranker) (n fields : ℕ) (weights : List ℕ) (hits : Hits) → ranker ≢ rankers.None → hits.keywords ≢ 0 → AreInFields fields hits.list
    → ((field w : ℕ) → own_value ranker (max_lcs hits.keywords weights) field w (in_field field hits.list) ≤ n * lone_value ranker field w) → weight ranker hits weights ≤ n * values_by_bits ranker fields weights
weighs_up_to ranker n fields weights hits asks some inside each =
    let most = max_lcs hits.keywords weights in
    let all = times_each n (λ field w. field_value ranker most field w hits.list) (value_by_bit ranker fields) (λ field w. up_to_bits ranker n most fields field w hits.list (each field w) inside) 0 weights in
    let same : fields_value ranker most weights hits.list ≡ weight ranker hits weights = weight_is ranker hits weights weights (fields_value ranker most weights hits.list) some asks refl refl in
    omega arith

-- by `proximity`
pub weighs_within : (keywords fields most : ℕ) (weights positions : List ℕ) (hits : Hits) → most ≡ keywords * values_by_bits rankers.Proximity fields weights → hits.keywords ≢ 0 → AreRanked hits weights
    → length positions ≤ keywords → AreOfPositions positions hits.list → AreInFields fields hits.list → weight rankers.Proximity hits weights ≤ most
weighs_within keywords fields most weights positions hits value some ranked few of inside =
    let each : (field w : ℕ) → lcs (in_field field hits.list) * w ≤ keywords * w =
    λ field w. mul-le (lcs (in_field field hits.list)) w keywords w (let together = few_together field hits.list ranked.apart positions of in omega arith) (omega arith) in
    let all = weighs_up_to rankers.Proximity keywords fields weights hits by_proximity some inside each in
    omega arith

-- by `fieldmask`
pub masks_within : (fields most : ℕ) (weights : List ℕ) (hits : Hits) → most ≡ values_by_bits rankers.FieldMask fields weights → hits.keywords ≢ 0 → AreInFields fields hits.list
    → weight rankers.FieldMask hits weights ≤ most
masks_within fields most weights hits value some inside =
    let all = weighs_up_to rankers.FieldMask 1 fields weights hits by_mask some inside (λ field w. omega arith) in
    omega arith

by_bit : (b : Bool) (w : ℕ) → cond b w 0 ≤ 1 * w
by_bit true w = omega arith
by_bit false w = omega arith

-- what some fields give by `proximity` is small
pub bits_small : (fields : ℕ) (weights : List ℕ) → length weights ≤ 32 → All (λ weight. weight ≤ MAX_FIELD_WEIGHT) weights → values_by_bits rankers.Proximity fields weights ≤ 2097120
bits_small fields weights few each =
    let whole = times 1 (value_by_bit rankers.Proximity fields) (λ field w. by_bit (has_bit fields field) w) 0 weights in
    let small = sum_small weights few each in
    omega arith
