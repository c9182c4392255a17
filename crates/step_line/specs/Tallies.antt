-- Tallies: what is kept of an index's calls that a disk's fault, or a contradiction, ended.
use Rattle.std.specs.Prelude.{ℕ, List, [], Bool, false}

-- Of which index it is, how many workers there are, whose calls were ended so, in their order, and whether one more can be entered.
pub record TallyValue : Type 0 where
  pub index : ℕ
  pub workers : ℕ
  pub calls : List ℕ
  pub ready : Bool

-- no call was
abbrev pub new_tally : ℕ → ℕ → TallyValue
new_tally index workers = record { index = index; workers = workers; calls = []; ready = false }
