-- The weight of a document by its hits (the manual of Sphinx, "Search results ranking").
use Rattle.std.specs.Prelude.{◌≡◌, ◌≢◌, ℕ, ◌+◌, ◌-◌, ◌*◌, ◌^◌, ◌≤◌, ◌<◌, List, [], ◌∷◌, map, length, max, Bool, ◌==◌, nat_eq, All, AllPairs, if◌then◌else◌, sum, sum_by, ℤ, pos, ◌+ℤ◌}
use Rattle.std.specs.List.{filter, list_any, count_by, enumerate_from}
use Rattle.std.specs.Ordering.{int_eq}
use Rattle.std.specs.Set.{distinct_count}
use Rattle.doc_types.specs.declared.hits.Hit.{Hit}
use Rattle.doc_types.specs.declared.hits.Hits.{Hits}
use Rattle.doc_types.specs.declared.tokens.TheConstants.{MAX_POSITION}
use Rattle.rankers.specs.declared.ranker.Ranker.{Ranker}
use Rattle.rankers.specs.declared.ranker.TheConstants.{MAX_FIELD_WEIGHT}
use Rattle.rankers.specs.declared.ranker.Ranker.TheVariants as rankers

-- the hits in a field
abbrev pub in_field : ℕ → List Hit → List Hit
in_field field hits = filter (λ hit. hit.field == field) hits

-- how many hits there are
abbrev pub hit_count : List Hit → ℕ
hit_count hits = length hits

-- how many distinct words have a hit
abbrev pub word_count : List Hit → ℕ
word_count hits = distinct_count nat_eq (map (λ hit. hit.word) hits)

-- The other hit stands at the offset of the first, which is its position less its query position. Each of the two differences is
-- moved to the other side, since one may be below 0.
abbrev pub same_offset : Hit → Hit → Bool
same_offset hit other = (other.position + hit.query) == (hit.position + other.query)

-- the greatest of some numbers, 0 where there is none
abbrev pub greatest : List ℕ → ℕ
greatest [] = 0
greatest (number ∷ numbers) = max number (greatest numbers)

-- The most hits of a field that stand at one offset, whichever that is: the greatest of what the hits' own offsets have. By a law it
-- is the greatest number of query positions that have a hit at one offset, over all whole numbers.
abbrev pub lcs : List Hit → ℕ
lcs hits = greatest (map (λ hit. count_by (same_offset hit) hits) hits)

-- the hit stands at this offset, which may be below 0
abbrev pub stands_at : ℤ → Hit → Bool
stands_at offset hit = int_eq (pos hit.position) (pos hit.query +ℤ offset)

-- how many query positions have a hit at this offset
abbrev pub query_positions_at : ℤ → List Hit → ℕ
query_positions_at offset hits = distinct_count nat_eq (map (λ hit. hit.query) (filter (stands_at offset) hits))

-- the number of keywords of the query times the sum of all weights, also of fields without a hit
abbrev pub max_lcs : ℕ → List ℕ → ℕ
max_lcs keywords weights = keywords * sum weights

-- the sum, over the fields that have a hit, of what a field's number, its weight and its hits give
abbrev pub over_matched : (ℕ → ℕ → List Hit → ℕ) → List ℕ → List Hit → ℕ
over_matched value weights hits =
    sum_by (λ e. if list_any (λ hit. hit.field == e.0) hits then value e.0 e.1 (in_field e.0 hits) else 0) (enumerate_from 0 weights)

-- what a ranker gives a query with so many keywords
abbrev pub ranked : Ranker → ℕ → List ℕ → List Hit → ℕ
ranked rankers.None keywords weights hits = 1
ranked rankers.WordCount keywords weights hits = over_matched (λ number weight own. hit_count own * weight) weights hits
ranked rankers.Proximity keywords weights hits = over_matched (λ number weight own. lcs own * weight) weights hits
ranked rankers.MatchAny keywords weights hits =
    over_matched (λ number weight own. (word_count own + (lcs own - 1) * max_lcs keywords weights) * weight) weights hits
ranked rankers.FieldMask keywords weights hits = over_matched (λ number weight own. 2 ^ number) weights hits

-- The weight: 1 for a query without a keyword.
abbrev pub weight : Ranker → Hits → List ℕ → ℕ
weight ranker hits weights = if hits.keywords == 0 then 1 else ranked ranker hits.keywords weights hits.list

-- a hit of a query with so many keywords, in one of so many fields
pub record IsRanked (keywords fields : ℕ) (hit : Hit) : Type 0 where
  pub from_one : 1 ≤ hit.query
  pub query : hit.query ≤ keywords
  pub field : hit.field < fields
  pub position : hit.position ≤ MAX_POSITION

-- not of one query position at one place
abbrev pub Differ : Hit → Hit → Type 0
Differ hit other = hit.field ≡ other.field → hit.position ≡ other.position → hit.query ≢ other.query

-- hits that can be ranked by these weights: within the limits, in any order, no two of one query position at one place
pub record AreRanked (hits : Hits) (weights : List ℕ) : Type 0 where
  pub keywords : hits.keywords ≤ 255
  pub fields : length weights ≤ 32
  pub each_weight : All (λ weight. (1 ≤ weight) × (weight ≤ MAX_FIELD_WEIGHT)) weights
  pub each_hit : All (IsRanked hits.keywords (length weights)) hits.list
  pub apart : AllPairs Differ hits.list
