-- Faults: how many faults and stops the lines of all workers were answered on an index, by what its disk counts.
use Rattle.std.specs.Prelude.{◌≡◌, ◌⊎◌, ◌+◌, ◌≤◌, ℕ, List}
use Rattle.ql_session.specs.Events.{Event}
use Rattle.step_book.specs.Tellings.{AtOpening}
use Rattle.step_history.specs.History.{Step}
use Rattle.store_keep.specs.Charges.{HasEnded, IsAtEnd}
use Rattle.line_workers.specs.Attempts.{count_all, faults, stops}

-- The faults on the index are together no more than its disk's count rose by since opening; or that stands at its end.
abbrev pub FaultsFit : {F : Type 0} → AtOpening → ℕ → List (List (Event F)) → ℕ → Type 0
FaultsFit opened index events now = (opened.faults + count_all faults index events ≤ now) ⊎ IsAtEnd now

-- There are no stops on the index, but where numbers of its files or of its roots may have ended with this history.
abbrev pub StopsFit : {F : Type 0} → AtOpening → ℕ → List Step → List (List (Event F)) → ℕ → Type 0
StopsFit opened index history events now = (count_all stops index events ≡ 0) ⊎ HasEnded opened history now
