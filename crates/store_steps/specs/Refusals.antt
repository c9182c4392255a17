-- Refusals: when a commit is refused, and by which numbers.
use Rattle.std.specs.Prelude.{ℕ, ◌+◌, ◌-◌, ◌^◌, List, Bool, true, false, ◌==◌, ◌||◌, not, nat_lt, min, length, if◌then◌else◌, Option, Some, None, sum_by}
use Rattle.std.specs.List.{list_any}
use Rattle.std.specs.FinMap as finite
use Rattle.doc_types.specs.Commits.{Change, Put, Kill, Clear}
use Rattle.doc_types.specs.Snapshots.{SnapshotValue, live}
use Rattle.commit_outcomes.specs.Outcomes.{changed}
use Rattle.commit_outcomes.specs.declared.outcome.Full.{Full}
use Rattle.commit_outcomes.specs.declared.outcome.FullKind.TheVariants as limits
use Rattle.commit_outcomes.specs.declared.outcome.TheConstants.{MAX_DOCUMENTS}
use Rattle.commit_outcomes.specs.declared.strayed.Strayed.{Strayed}
use Rattle.step_history.specs.History.{Base, Step, last_snapshot, place_of}
use Rattle.step_history.specs.Logs.{change_length, log_at}
use Rattle.step_line.specs.Lines.{LineValue, kept_by}
use Rattle.step_tokens.specs.Tokens.{TokenValue}
use Rattle.store_steps.specs.declared.limits.TheConstants.{LAST_COMMIT, MOST_LOG, MOST_LOG_BY_REMOVALS}

-- The place of a history: it is that of the snapshot at opening, and one more for each step. It is kept in 64 bits.
abbrev pub place_at : Base → List Step → ℕ
place_at base steps = min (place_of base.opening + length steps) (2 ^ 64 - 1)

-- the numbers that a token and its keeper have
abbrev pub numbers_of : Base → LineValue → TokenValue → Strayed
numbers_of base line token = record { seen = place_at base token.seen; place = place_at base line.history; made = token.made; kept = kept_by token.worker line }

-- they contradict each other: the token has seen more, or counts its worker's commits differently
abbrev pub strays : LineValue → TokenValue → Bool
strays line token = nat_lt (length line.history) (length token.seen) || not (token.made == kept_by token.worker line)

-- what is answered where they do
abbrev pub stray_of : Base → LineValue → TokenValue → Option Strayed
stray_of base line token = if strays line token then Some (numbers_of base line token) else None

-- the change puts a document
abbrev pub is_put : Change → Bool
is_put (Put doc) = true
is_put (Kill id) = false
is_put Clear = false

-- the place of the log's closed gate at most, behind a record of these changes
abbrev pub most_log : List Change → ℕ
most_log changes = if list_any is_put changes then MOST_LOG else MOST_LOG_BY_REMOVALS

-- how many bytes a record of these changes takes in a log
abbrev pub batch_length : List Change → ℕ
batch_length changes = 13 + (4 + sum_by change_length changes)

-- the limit that a commit of these changes would pass, the first of three
abbrev pub full_numbers : SnapshotValue → Option Full
full_numbers before = if nat_lt LAST_COMMIT (before.number + 1) then Some (record { what = limits.Numbers; at = before.number; need = 1 }) else None

abbrev pub full_documents : SnapshotValue → List Change → Option Full
full_documents before changes =
    if nat_lt MAX_DOCUMENTS (finite.len (changed before changes)) then Some (record { what = limits.Documents; at = finite.len (live before); need = finite.len (changed before changes) - finite.len (live before) }) else full_numbers before

abbrev pub full_of : Base → List Step → List Change → Option Full
full_of base steps changes =
    if nat_lt (most_log changes) (log_at base steps + batch_length changes) then Some (record { what = limits.Log; at = log_at base steps; need = batch_length changes }) else full_documents (last_snapshot base steps) changes
