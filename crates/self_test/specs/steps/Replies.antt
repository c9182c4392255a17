-- What the first bytes of a reply say: an ERR has its code behind a byte of 255. And what is answered by what was replied.
use Rattle.std.specs.Prelude.{◌≡◌, ◌≢◌, ℕ, ◌+◌, ◌*◌, ◌==◌, ◌&&◌, ◌||◌, List, [], ◌∷◌, Bool, true, false, Result, Ok, Err}
use Rattle.srch_base.specs.declared.faults.Or.{Or}
use Rattle.srch_base.specs.declared.faults.Or.TheVariants as causes
use Rattle.index_conf.specs.declared.conf.IndexConf.{IndexConf}
use Rattle.ql_answers.specs.declared.state.State.{State}
use Rattle.ql_session.specs.Events.{StoreWords}
use Rattle.ql_tree.specs.declared.select.Select.{Select}
use Rattle.self_test.specs.Asking.{IsLost, Shows}
use Rattle.self_test.specs.Conversations.{merged_chunks}
use Rattle.self_test.specs.declared.fault.Astray.{Astray}
use Rattle.self_test.specs.declared.fault.Astray.TheVariants.{JobFailed, Unexpected}
use Rattle.self_test.specs.declared.summary.Summary.{Summary}

-- the reply is an ERR
abbrev pub is_err : List ℕ → Bool
is_err (a ∷ b ∷ c ∷ seq ∷ kind ∷ rest) = kind == 255
is_err reply = false

-- the reply is an ERR with this code
abbrev pub is_err_of : ℕ → List ℕ → Bool
is_err_of code (a ∷ b ∷ c ∷ seq ∷ kind ∷ low ∷ high ∷ rest) = kind == 255 && (low + 256 * high) == code
is_err_of code reply = false

-- it says that memory was refused, or that the disk failed
abbrev pub stops : List ℕ → Bool
stops reply = is_err_of 1037 reply || is_err_of 1105 reply

-- What is answered where a SELECT is told: how many rows it shows, or that it went astray. Out of memory is free.
abbrev pub RowsOr : {D F : Type 0} → (D → List IndexConf) → StoreWords D F → Select → Result ℕ (Or Astray) → State → D → State → D → Type 0
RowsOr confs words select (Ok rows) = Shows confs words select rows
RowsOr confs words select (Err (causes.Fault Unexpected)) = IsLost confs words select
RowsOr confs words select (Err (causes.Fault JobFailed)) = λ old before new left. ⊥
RowsOr confs words select (Err causes.NoMemory) = λ old before new left. Unit {0}

-- What is answered by a summary: itself, where it has the chunks that OPTIMIZE leaves, or that a job failed.
abbrev pub IsChecked : Summary → Result Summary (Or Astray) → Type 0
IsChecked summary (Ok same) = (same ≡ summary) × (summary.chunks ≡ merged_chunks summary.documents)
IsChecked summary (Err (causes.Fault JobFailed)) = summary.chunks ≢ merged_chunks summary.documents
IsChecked summary (Err (causes.Fault Unexpected)) = ⊥
IsChecked summary (Err causes.NoMemory) = ⊥
