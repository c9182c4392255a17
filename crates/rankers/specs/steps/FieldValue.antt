-- What a field gives, and what is asked of hits for it.
use Rattle.std.specs.Prelude.{ℕ, ◌+◌, ◌-◌, ◌*◌, ◌^◌, ◌≤◌, List, Option, All, AllPairs, if◌then◌else◌, ◌==◌, sum_by}
use Rattle.std.specs.List.{list_any, enumerate_from}
use Rattle.doc_types.specs.declared.hits.Hit.{Hit}
use Rattle.doc_types.specs.declared.tokens.TheConstants.{MAX_POSITION}
use Rattle.rankers.specs.declared.ranker.Ranker.{Ranker}
use Rattle.rankers.specs.declared.ranker.Ranker.TheVariants as rankers
use Rattle.rankers.specs.Factors.{earlier}
use Rattle.rankers.specs.Fields.{has_bit}
use Rattle.rankers.specs.Weight.{Differ, in_field, hit_count, word_count, lcs}

-- a hit whose numbers are within the limits, whatever the query and the fields
pub record IsWithin (hit : Hit) : Type 0 where
  pub from_one : 1 ≤ hit.query
  pub query : hit.query ≤ 255
  pub position : hit.position ≤ MAX_POSITION

-- hits within the limits, of which no two are of one query position at one place
pub record AreWithin (hits : List Hit) : Type 0 where
  pub each : All IsWithin hits
  pub apart : AllPairs Differ hits

-- what a field with hits gives: its number, its weight and its hits, `most` being the number of keywords times the sum of all weights
abbrev pub own_value : Ranker → ℕ → ℕ → ℕ → List Hit → ℕ
own_value rankers.None most number weight own = 0
own_value rankers.WordCount most number weight own = hit_count own * weight
own_value rankers.Proximity most number weight own = lcs own * weight
own_value rankers.MatchAny most number weight own = (word_count own + (lcs own - 1) * most) * weight
own_value rankers.FieldMask most number weight own = 2 ^ number

-- what a field gives, with hits or without
abbrev pub field_value : Ranker → ℕ → ℕ → ℕ → List Hit → ℕ
field_value ranker most number weight hits =
    if list_any (λ hit. hit.field == number) hits then own_value ranker most number weight (in_field number hits) else 0

-- what all fields give
abbrev pub fields_value : Ranker → ℕ → List ℕ → List Hit → ℕ
fields_value ranker most weights hits = sum_by (λ e. field_value ranker most e.0 e.1 hits) (enumerate_from 0 weights)

-- what a field gives that has hits of one keyword alone, where the number of its hits isn't asked for
abbrev pub lone_value : Ranker → ℕ → ℕ → ℕ
lone_value rankers.None number weight = 0
lone_value rankers.WordCount number weight = 0
lone_value rankers.Proximity number weight = weight
lone_value rankers.MatchAny number weight = weight
lone_value rankers.FieldMask number weight = 2 ^ number

-- what a field gives, with its bit or without
abbrev pub value_by_bit : Ranker → ℕ → ℕ → ℕ → ℕ
value_by_bit ranker fields number weight = if has_bit fields number then lone_value ranker number weight else 0

-- what all fields give whose bits are set
abbrev pub values_by_bits : Ranker → ℕ → List ℕ → ℕ
values_by_bits ranker fields weights = sum_by (λ e. value_by_bit ranker fields e.0 e.1) (enumerate_from 0 weights)

-- the least position so far, with one hit more, which may be of another field
abbrev pub with_hit : ℕ → Option ℕ → Hit → Option ℕ
with_hit field least hit = if hit.field == field then earlier least hit.position else least
