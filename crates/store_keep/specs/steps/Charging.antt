-- Charging: what is to be known before a call is charged.
use Rattle.std.specs.Prelude.{◌≡◌, ◌≢◌, ◌⊎◌, ℕ, ◌+◌, ◌≤◌, List, Bool, true, Option, None, length}
use Rattle.commit_outcomes.specs.declared.strayed.Strayed.{Strayed}
use Rattle.step_book.specs.Shares.{calls_by}
use Rattle.step_book.specs.Tellings.{AtOpening}
use Rattle.step_history.specs.History.{Step}
use Rattle.step_line.specs.Tallies.{TallyValue}
use Rattle.store_steps.specs.declared.files.Files.{Files}
use Rattle.store_keep.specs.Charges.{HasEnded, HaveRisen, IsAtEnd}
use Rattle.store_keep.specs.declared.charge.Charge.{Charge}
use Rattle.store_keep.specs.declared.charge.Charge.TheVariants as charges
use Rattle.store_keep.specs.declared.keeper.Keeper.{Keeper}

-- One call more may be entered, and so many of those that were are the worker's.
pub record IsReadyFor (worker count : ℕ) (tally : TallyValue) : Type 0 where
  pub ready : tally.ready ≡ true
  pub counted : calls_by worker tally.calls ≡ count

-- the keeper where its lines of calls are ready, or aren't
abbrev pub with_turns : {D J : Type 0} → Keeper D J → Bool → Bool → Keeper D J
with_turns keeper faults stops = record keeper { faults = record keeper.faults { ready = faults }; stops = record keeper.stops { ready = stops } }

-- the keeper with these lines of calls
abbrev pub with_calls : {D J : Type 0} → Keeper D J → TallyValue → TallyValue → Keeper D J
with_calls keeper faults stops = record keeper { faults = faults; stops = stops }

-- a call may be charged so: as a fault where the disk's count has room for it, as a stop where there is a cause for one
abbrev pub MayCharge : Charge → AtOpening → List Step → ℕ → Option Strayed → List ℕ → Type 0
MayCharge charges.Free opened history now held calls = Unit {0}
MayCharge charges.Fault opened history now held calls = (opened.faults + (length calls + 1) ≤ now) ⊎ IsAtEnd now
MayCharge charges.Stop opened history now held calls = (held ≢ None) ⊎ HasEnded opened history now

-- However the numbers of files and roots stood at opening: no more were taken than jobs ended since, or were ended by a fault, where this
-- was so before a call.
pub record TakesFew (steps : List Step) (before : ℕ) (files : Files) (next : List Step) (now : ℕ) (kept : Files) : Type 0 where
  pub few : (opened : AtOpening) → HaveRisen opened steps before files → HaveRisen opened next now kept
