-- Logs: at which place the log ends after some steps. A job begins a new log.
use Rattle.std.specs.Prelude.{ℕ, ◌+◌, List, [], ◌∷◌, sum_by}
use Rattle.doc_types.specs.Commits.{Change, Put, Kill, Clear, Entry}
use Rattle.doc_types.specs.Payloads.{doc_length}
use Rattle.step_history.specs.History.{Step, Commit, Reshape, Base}

-- a change: a byte for its kind, and its document or its id
abbrev pub change_length : Change → ℕ
change_length (Put doc) = 1 + doc_length doc
change_length (Kill id) = 9
change_length Clear = 1

-- a record: 13 bytes for its gate, its number and its length, 4 bytes for the number of its changes, and these
abbrev pub record_length : Entry → ℕ
record_length entry = 13 + (4 + sum_by change_length entry.changes)

-- the place at which a log ends that ended at this place before these steps: each entry adds its record, a job begins anew
abbrev pub log_from : ℕ → List Step → ℕ
log_from place [] = place
log_from place (Commit entry snapshot ∷ steps) = log_from (place + record_length entry) steps
log_from place (Reshape job through snapshot ∷ steps) = log_from 0 steps

-- the place at which the log of a history ends
abbrev pub log_at : Base → List Step → ℕ
log_at base steps = log_from base.log steps
