-- Takings: what a token took of an index's lines of calls.
use Rattle.std.specs.Prelude.{ℕ, List}
use mathlib.Core.List.{IsPrefix}
use Rattle.step_tokens.specs.Tokens.{TokenValue}

-- What the token took of both lines begins them.
pub record HasTaken (faults stops : List ℕ) (token : TokenValue) : Type 0 where
  pub faults_begin : IsPrefix token.faults faults
  pub stops_begin : IsPrefix token.stops stops
