-- What a status shows: the program's exit status, and a line.
use Rattle.std.specs.Prelude.{⊤, ℕ, ◌≤◌, List, [], ◌∷◌, ◌++◌, codes, decimal, length}
use Rattle.conf_text.specs.FaultTexts.{kind_text}
use Rattle.doc_types.specs.declared.schema.TheConstants.{MAX_NAME_BYTES}
use Rattle.srch_base.specs.declared.faults.OpenFault.{OpenFault}
use Rattle.srch_base.specs.declared.faults.OpenFault.TheVariants as opening
use Rattle.store_steps.specs.DamageTexts.{damage_text}
use Rattle.program_host.specs.declared.status.Status.{Status}
use Rattle.program_host.specs.declared.status.Status.TheVariants.{Done, Usage, Config, HostFault, Damaged, NoMemory, Strayed, JobFailed}

-- a line of text, with the LF at its end
abbrev pub line : List ℕ → List ℕ
line text = text ++ 10 ∷ []

-- what a status shows
pub record Shown : Type 0 where
  -- the exit status
  pub code : ℕ
  -- what is printed to the errors
  pub printed : List ℕ

-- the line of an index whose history strayed
abbrev pub strayed_line : List ℕ → List ℕ
strayed_line index = line (codes "searchd: index " ++ index ++ codes ": history strayed")

-- the table of statuses
abbrev pub shown : Status → Shown
shown Done = record { code = 0; printed = [] }
shown Usage = record { code = 2; printed = line (codes "searchd: bad arguments") }
shown (Config number kind) = record { code = 3; printed = line (codes "searchd: config line " ++ decimal number ++ codes ": " ++ kind_text kind) }
shown HostFault = record { code = 4; printed = line (codes "searchd: host fault") }
shown (Damaged index file place kind) =
    record { code = 5; printed = line (codes "searchd: index " ++ index ++ codes ": file " ++ decimal file ++ codes " at " ++ decimal place ++ codes ": " ++ damage_text kind) }
shown NoMemory = record { code = 6; printed = line (codes "searchd: out of memory") }
shown (Strayed index strayed) = record { code = 7; printed = strayed_line index }
shown JobFailed = record { code = 8; printed = line (codes "searchd: job failed") }

-- the exit status
abbrev pub code_of : Status → ℕ
code_of status = (shown status).code

-- what is printed to the errors
abbrev pub line_of : Status → List ℕ
line_of status = (shown status).printed

-- An index that it names has a name within the limit.
abbrev pub NamesIndex : Status → Type 0
NamesIndex (Damaged index file place kind) = length index ≤ MAX_NAME_BYTES
NamesIndex (Strayed index strayed) = length index ≤ MAX_NAME_BYTES
NamesIndex status = ⊤

-- the status of a host that opens nothing
abbrev pub status_of : OpenFault → Status
status_of opening.NoMemory = NoMemory
status_of opening.Failed = HostFault
