-- Counts: what a call adds to the shares that its token has of the index's lines of faults and of stops.
use Rattle.std.specs.Prelude.{◌≡◌, ℕ, ◌+◌}
use Rattle.step_tokens.specs.Tokens.{TokenValue, faults_of, stops_of}
use Rattle.store_keep.specs.declared.charge.Charge.{Charge}
use Rattle.store_keep.specs.declared.charge.Charge.TheVariants as charges

-- how many faults, and how many stops, an answer of this kind adds
abbrev pub faults_in : Charge → ℕ
faults_in charges.Free = 0
faults_in charges.Fault = 1
faults_in charges.Stop = 0

abbrev pub stops_in : Charge → ℕ
stops_in charges.Free = 0
stops_in charges.Fault = 0
stops_in charges.Stop = 1

-- The token counts what an answer of this kind adds. A share to which that adds nothing is as it was.
pub record Shares (charge : Charge) (old new : TokenValue) : Type 0 where
  pub faults : faults_of new ≡ faults_of old + faults_in charge
  pub stops : stops_of new ≡ stops_of old + stops_in charge
  pub faults_stay : faults_in charge ≡ 0 → new.faults ≡ old.faults
  pub stops_stay : stops_in charge ≡ 0 → new.stops ≡ old.stops
