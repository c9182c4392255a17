-- Tokens: what a token remembers.
use Rattle.std.specs.Prelude.{◌≡◌, ◌⊎◌, ◌<◌, ℕ, Bool, false, List, length, Option, None, Some, MatchBool}
use mathlib.Core.List.{IsPrefix}
use Rattle.step_book.specs.Fronts.{FrontValue}
use Rattle.step_book.specs.Shares.{calls_by}
use Rattle.step_history.specs.History.{Step}

-- Of which index it is, whose it is, the longest history that it saw or learnt, how many commits were made with it, the beginnings
-- that it took of the index's lines of faults and of stops, and the steps with the last one that it left in doubt, if it did so.
pub record TokenValue : Type 0 where
  pub index : ℕ
  pub worker : ℕ
  pub seen : List Step
  pub made : ℕ
  pub faults : List ℕ
  pub stops : List ℕ
  pub entered : Option (List Step)

-- the steps of a front, where there is one
abbrev pub steps_in : Option FrontValue → Option (List Step)
steps_in None = None
steps_in (Some front) = Some front.steps

-- a front, where there is one, is of an index
abbrev pub IsOf : ℕ → Option FrontValue → Type 0
IsOf index None = Unit {0}
IsOf index (Some front) = front.index ≡ index

-- of two beginnings of one history one begins the other
abbrev pub AreOnOneLine : List Step → List Step → Type 0
AreOnOneLine one other = IsPrefix one other ⊎ IsPrefix other one

-- what was left in doubt, if anything was, is of one line with these steps
abbrev pub Agrees : Option (List Step) → List Step → Type 0
Agrees None steps = Unit {0}
Agrees (Some left) steps = AreOnOneLine left steps

-- The token keeps these steps, the last of which it left in doubt. What it had left so before is of one line with them.
pub record LeavesInDoubt (old new : TokenValue) (steps : List Step) : Type 0 where
  pub entered : new.entered ≡ Some steps
  pub before : Agrees old.entered steps

-- what was left in doubt begins what was seen; or it goes beyond that, which it begins with
abbrev pub HasCome : Option (List Step) → List Step → Bool → Type 0
HasCome None seen come = come ≡ false
HasCome (Some steps) seen come = MatchBool come (IsPrefix steps seen) (IsPrefix seen steps × (length seen < length steps))

-- how many faults, and how many stops, are its worker's
abbrev pub faults_of : TokenValue → ℕ
faults_of token = calls_by token.worker token.faults

abbrev pub stops_of : TokenValue → ℕ
stops_of token = calls_by token.worker token.stops

-- All but what it has seen is as before.
pub record IsSameBut (old new : TokenValue) : Type 0 where
  pub index : new.index ≡ old.index
  pub worker : new.worker ≡ old.worker
  pub made : new.made ≡ old.made
  pub faults : new.faults ≡ old.faults
  pub stops : new.stops ≡ old.stops
  pub entered : new.entered ≡ old.entered
