-- Charges: how an answer is charged to its token, and what backs such charges. A fault of the disk raised its count; a stop has a
-- contradiction or numbers that have ended.
use Rattle.std.specs.Prelude.{◌≡◌, ◌≢◌, ◌⊎◌, ℕ, ◌+◌, ◌-◌, ◌*◌, ◌≤◌, List, [], Bool, true, false, Option, None, Result, Ok, Err, length}
use Rattle.std.specs.List.{filter}
use Rattle.srch_base.specs.Counts.{last_count}
use Rattle.commit_outcomes.specs.declared.outcome.Doubt.TheVariants as doubts
use Rattle.commit_outcomes.specs.declared.outcome.FullKind.{FullKind}
use Rattle.commit_outcomes.specs.declared.outcome.FullKind.TheVariants as limits
use Rattle.commit_outcomes.specs.declared.strayed.Strayed.{Strayed}
use Rattle.step_book.specs.Fronts.{FrontValue}
use Rattle.step_book.specs.Tellings.{AtOpening}
use Rattle.step_history.specs.History.{Step, Commit, Reshape}
use Rattle.step_tokens.specs.Tokens.{TokenValue, faults_of, stops_of}
use Rattle.store_steps.specs.declared.files.Files.{Files}
use Rattle.store_keep.specs.declared.charge.Charge.{Charge}
use Rattle.store_keep.specs.declared.charge.Charge.TheVariants as charges
use Rattle.store_keep.specs.declared.fault.CommitFault.{CommitFault}
use Rattle.store_keep.specs.declared.fault.CommitFault.TheVariants as faults
use Rattle.store_keep.specs.declared.fault.Committed.{Committed}
use Rattle.store_keep.specs.declared.install_fault.InstallFault.{InstallFault}
use Rattle.store_keep.specs.declared.install_fault.InstallFault.TheVariants as endings
use Rattle.store_keep.specs.declared.job_ends.TheConstants.{LAST_FILE, LAST_ROOT}

-- the end of numbers of files or roots stops a call, which no other limit does
abbrev pub charge_of_limit : FullKind → Charge
charge_of_limit limits.Root = charges.Stop
charge_of_limit limits.Log = charges.Free
charge_of_limit limits.Documents = charges.Free
charge_of_limit limits.Numbers = charges.Free
charge_of_limit limits.Chunks = charges.Free
charge_of_limit limits.Images = charges.Free

-- how the answer of a commit is charged
abbrev pub charge_of : {J : Type 0} → Result (Committed J) (CommitFault J) → Charge
charge_of (Ok made) = charges.Free
charge_of (Err faults.NoMemory) = charges.Free
charge_of (Err (faults.Strayed strayed note)) = charges.Stop
charge_of (Err (faults.Duplicate id note)) = charges.Free
charge_of (Err (faults.Full full note)) = charge_of_limit full.what
charge_of (Err faults.Refused) = charges.Fault
charge_of (Err (faults.InDoubt doubts.Disk)) = charges.Fault
charge_of (Err (faults.InDoubt doubts.Memory)) = charges.Free

-- and that of a job
abbrev pub charge_of_job : {J : Type 0} → Result FrontValue (InstallFault J) → Charge
charge_of_job (Ok note) = charges.Free
charge_of_job (Err endings.NoMemory) = charges.Free
charge_of_job (Err (endings.Strayed strayed note)) = charges.Stop
charge_of_job (Err (endings.Overtaken shape note)) = charges.Free
charge_of_job (Err (endings.Full full)) = charge_of_limit full.what
charge_of_job (Err endings.DiskFault) = charges.Fault
charge_of_job (Err endings.InDoubt) = charges.Free

-- one call more of its worker stands in the line that the token took, or nothing changed
abbrev pub Charges : Charge → TokenValue → TokenValue → Type 0
Charges charges.Free mid after = after ≡ mid
Charges charges.Fault mid after = (after ≡ record mid { faults = after.faults }) × (faults_of after ≡ faults_of mid + 1)
Charges charges.Stop mid after = (after ≡ record mid { stops = after.stops }) × (stops_of after ≡ stops_of mid + 1)

-- the count of faults stands at its end
abbrev pub IsAtEnd : ℕ → Type 0
IsAtEnd now = last_count ≤ now

-- calls that were charged as faults are no more than the disk's count rose by since opening
abbrev pub IsBacked : AtOpening → ℕ → List ℕ → Type 0
IsBacked opened now calls = (opened.faults + length calls ≤ now) ⊎ IsAtEnd now

-- the step is the end of a job
abbrev pub is_reshape : Step → Bool
is_reshape (Commit entry snapshot) = false
is_reshape (Reshape job through snapshot) = true

-- how many jobs ended by these steps
abbrev pub jobs_in : List Step → ℕ
jobs_in steps = length (filter is_reshape steps)

-- these, and those that a fault of the disk ended at most, since the count stood so at opening
abbrev pub jobs_at_most : AtOpening → List Step → ℕ → ℕ
jobs_at_most opened steps now = jobs_in steps + (now - opened.faults)

-- No more numbers were taken since opening than these jobs take: two of files, and one of roots.
pub record AreFew (opened : AtOpening) (steps : List Step) (now : ℕ) (files : Files) : Type 0 where
  pub later : opened.faults ≤ now
  pub file : files.next_file ≤ opened.file + 2 * jobs_at_most opened steps now
  pub root : files.root.number ≤ opened.root + jobs_at_most opened steps now

abbrev pub HaveRisen : AtOpening → List Step → ℕ → Files → Type 0
HaveRisen opened steps now files = AreFew opened steps now files ⊎ IsAtEnd now

-- the numbers of files or of roots may have ended: a number from opening reaches the last one by the jobs that there were, and two more
abbrev pub HasEnded : AtOpening → List Step → ℕ → Type 0
HasEnded opened history now =
    (LAST_FILE ≤ opened.file + 2 * (2 + jobs_at_most opened history now)) ⊎ ((LAST_ROOT ≤ opened.root + 2 * (2 + jobs_at_most opened history now)) ⊎ IsAtEnd now)

-- no call was charged as a stop; or a contradiction is held, or numbers may have ended
abbrev pub MayHaveStopped : AtOpening → List Step → ℕ → Option Strayed → List ℕ → Type 0
MayHaveStopped opened history now held calls = (calls ≡ []) ⊎ ((held ≢ None) ⊎ HasEnded opened history now)
