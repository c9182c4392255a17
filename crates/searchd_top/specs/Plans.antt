-- Plans: how a run serves.
use Rattle.std.specs.Prelude.{ℕ, List, Option, Some, None}

-- Where its doors are: over the listener at an address, or over the standard streams. How many there are, one for each worker, and how
-- many lines each may give.
pub record Plan : Type 0 where
  pub listen : Option (List ℕ)
  pub workers : ℕ
  pub sessions : ℕ

-- a session: one line over the standard streams
abbrev pub one_line : Plan
one_line = record { listen = None; workers = 1; sessions = 1 }

-- so many workers, each with so many lines over a listener
abbrev pub listening : List ℕ → ℕ → ℕ → Plan
listening address workers sessions = record { listen = Some address; workers = workers; sessions = sessions }
