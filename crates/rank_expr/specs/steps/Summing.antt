-- What is kept of the fields that were looked at, whether a value is 0, and that a field has a hit.
use Rattle.std.specs.Prelude.{◌≡◌, ℕ, Bool, true, List, Option, Some, None, slice_get, ℤ, pos}
use Rattle.std.specs.Ordering.{int_eq}
use Rattle.doc_types.specs.declared.hits.Hits.{Hits}
use Rattle.rankers.specs.declared.ranker.Factors.{Factors}
use Rattle.rankers.specs.Factors.{factors_of}
use Rattle.rankers.specs.Weight.{in_field}
use Rattle.rank_expr.specs.ExpressionWeight.{is_matched}

-- what is kept of a field is what it gives
pub record IsMemo (hits : Hits) (memo : List (Option Factors)) : Type 0 where
  pub right : (field : ℕ) (factors : Factors) → slice_get memo field ≡ Some (Some factors) → factors ≡ factors_of (in_field field hits.list)

-- whether a value is 0, where there is one
abbrev pub zero_of : Option ℤ → Option Bool
zero_of None = None
zero_of (Some x) = Some (int_eq x (pos 0))

-- the field over which a `sum` goes has a hit
abbrev pub IsAtMatched : Hits → Option ℕ → Type 0
IsAtMatched hits None = Unit {0}
IsAtMatched hits (Some field) = is_matched hits field ≡ true
