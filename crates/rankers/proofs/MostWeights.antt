-- The most that hits of so many keywords weigh: in each field no more of them stand together than there are.
use Rattle.std.proofs.Common.{◌≡◌, ◌≢◌, ℕ, ◌+◌, ◌*◌, ◌≤◌, Bool, true, false, cond, List, [], ◌∷◌, length, sum, refl, ap, subst, ◌∙◌, arith}
use Rattle.std.specs.Prelude.{◌==◌}
use Rattle.std.specs.List.{All, list_any, enumerate_from, sum_by}
use Rattle.std.proofs.lemmas.List.Sums.{sum_by-cons, sum_by-le}
use Rattle.std.proofs.lemmas.Nat.{mul-le}
use Rattle.doc_types.specs.declared.hits.Hits.{Hits}
use Rattle.rankers.specs.declared.ranker.Ranker.{Ranker}
use Rattle.rankers.specs.declared.ranker.TheConstants.{MAX_FIELD_WEIGHT}
use Rattle.rankers.specs.declared.ranker.Ranker.TheVariants as rankers
use Rattle.rankers.specs.Limits.{AreOfPositions}
use Rattle.rankers.specs.Weight.{AreRanked, in_field, lcs, max_lcs, weight}
use Rattle.rankers.specs.steps.FieldValue.{field_value, fields_value}
use Rattle.rankers.proofs.FieldValues.{weight_is}
use Rattle.rankers.proofs.WholeOffsets.{few_together}

-- a sum of what is at most so many times each weight
pub times : (n : ℕ) (gives : ℕ → ℕ → ℕ) → ((field w : ℕ) → gives field w ≤ n * w) → (first : ℕ) (weights : List ℕ) → sum_by (λ e. gives e.0 e.1) (enumerate_from first weights) ≤ n * sum weights
times n gives each first [] = omega arith
times n gives each first (w ∷ ws) =
    let here = each first w in
    let rest = times n gives each (first + 1) ws in
    let whole = sum_by-cons (λ (e : ℕ × ℕ). gives e.0 e.1) (first, w) (enumerate_from (first + 1) ws) in
    let total : n * sum (w ∷ ws) ≡ n * w + n * sum ws = ap (λ all. n * all) (sum_by-cons (λ (x : ℕ). x) w ws) ∙ grind arith in
    omega arith

at_most : (b : Bool) (value limit : ℕ) → value ≤ limit → cond b value 0 ≤ limit
at_most true value limit few = few
at_most false value limit few = omega arith

LooksAtHits : Ranker → Type 0
LooksAtHits rankers.None = ⊥
LooksAtHits _ = Unit {0}

pub by_proximity : rankers.Proximity ≢ rankers.None
unfolding LooksAtHits
by_proximity is = subst LooksAtHits is tt

pub by_mask : rankers.FieldMask ≢ rankers.None
unfolding LooksAtHits
by_mask is = subst LooksAtHits is tt

pub weighs_at_most : (ranker : Ranker) (hits : Hits) (weights positions : List ℕ) (keywords most : ℕ) → ranker ≡ rankers.Proximity → most ≡ keywords * sum weights
    → hits.keywords ≢ 0 → AreRanked hits weights → length positions ≤ keywords → AreOfPositions positions hits.list → weight ranker hits weights ≤ most
weighs_at_most ranker hits weights positions keywords most is value some ranked few of =
    let limit = max_lcs hits.keywords weights in
    let each : (field w : ℕ) → field_value rankers.Proximity limit field w hits.list ≤ keywords * w =
    λ field w. at_most (list_any (λ hit. hit.field == field) hits.list) (lcs (in_field field hits.list) * w) (keywords * w)
    (mul-le (lcs (in_field field hits.list)) w keywords w (let together = few_together field hits.list ranked.apart positions of in omega arith) (omega arith)) in
    let all = times keywords (λ field w. field_value rankers.Proximity limit field w hits.list) each 0 weights in
    let same : fields_value rankers.Proximity limit weights hits.list ≡ weight rankers.Proximity hits weights =
    weight_is rankers.Proximity hits weights weights (fields_value rankers.Proximity limit weights hits.list) some by_proximity refl refl in
    let here : weight ranker hits weights ≡ weight rankers.Proximity hits weights = ap (λ (its : Ranker). weight its hits weights) is in
    omega arith

-- the sum of all weights is small
pub sum_small : (weights : List ℕ) → length weights ≤ 32 → All (λ weight. weight ≤ MAX_FIELD_WEIGHT) weights → sum weights ≤ 2097120
sum_small weights few each = let whole = sum_by-le (λ weight. weight) MAX_FIELD_WEIGHT weights each in omega arith
