-- How the engine of a selftest ends, and what is answered then.
use Rattle.std.specs.Prelude.{◌≡◌, ℕ, List, [], ◌∷◌, Option, Some, None, Result, Ok, Err}
use Rattle.srch_base.specs.declared.faults.Or.{Or}
use Rattle.srch_base.specs.declared.faults.Or.TheVariants as causes
use Rattle.chunk_store.specs.declared.disk.Disk.{Ghosts as DiskWords}
use Rattle.commit_outcomes.specs.declared.strayed.Strayed.{Strayed}
use Rattle.doc_types.specs.declared.schema.Schema.{Schema}
use Rattle.index_conf.specs.declared.conf.IndexConf.{IndexConf}
use Rattle.step_book.specs.Fronts.{FrontValue}
use Rattle.step_book.specs.Tellings.{AtOpening}
use Rattle.step_history.specs.History.{Base}
use Rattle.step_tokens.specs.Tokens.{TokenValue}
use Rattle.store_keep.specs.Opens.{IsOpened, base_of, opening_of}
use Rattle.store_keep.specs.declared.opening.Opened.{Opened}
use Rattle.snap_share.specs.Closings.{Closes}
use Rattle.engine_tables.specs.Tokens.{TokensValue, new_seat, told_at, tokens_at}
use Rattle.engine_tables.specs.Workers.{by_tokens}
use Rattle.self_test.specs.Asking.{Leads}
use Rattle.self_test.specs.Conversations.{ConversesOr}
use Rattle.self_test.specs.Own.{IsEmpty, IsOurs}
use Rattle.self_test.specs.declared.generator.Document.{Document}
use Rattle.self_test.specs.declared.fault.Astray.{Astray}
use Rattle.self_test.specs.declared.fault.Astray.TheVariants.{JobFailed}
use Rattle.self_test.specs.declared.fault.SelftestFault.{SelftestFault}
use Rattle.self_test.specs.declared.fault.SelftestFault.TheVariants.{NoMemory, JobFailed as FailsJob, Strayed as HasStrayed}
use Rattle.self_test.specs.declared.summary.Summary.{Summary}

-- the token of the one worker, which has seen no step of the one index and was told nothing of it
abbrev pub first_tokens : TokensValue
first_tokens = new_seat 1 1

-- A selftest that began with these tokens of an engine left these.
abbrev pub Works : (ℕ → Schema) → (ℕ → Base) → List IndexConf → TokensValue → TokensValue → Type 0
Works schema base confs first left = Leads (λ worker. worker.confs) (by_tokens schema base) (record { confs = confs; tokens = first }) (record { confs = confs; tokens = left })

-- The one worker of engines of these indexes, with these tokens, was led to such other ones by a conversation about these documents, which
-- came to this: to what it found, or to why it went astray.
abbrev pub LeadsTo : (ℕ → Schema) → (ℕ → Base) → List IndexConf → List Document → Result Summary (Or Astray) → TokensValue → TokensValue → Type 0
LeadsTo schema base confs documents result first left =
    ConversesOr (λ worker. worker.confs) (by_tokens schema base) documents result (record { confs = confs; tokens = first }) (record { confs = confs; tokens = left })

-- What a conversation came to, and about which documents it was.
pub record Found : Type 0 where
  pub documents : List Document
  pub result : Result Summary (Or Astray)

-- What is told of a conversation, it came to from the worker's first tokens on.
abbrev pub HasFound : (ℕ → Schema) → (ℕ → Base) → List IndexConf → Option Found → TokensValue → Type 0
HasFound schema base confs None left = Unit {0}
HasFound schema base confs (Some found) left = LeadsTo schema base confs found.documents found.result first_tokens left

-- There is one index, the selftest's own, whose store was opened: it has the columns that are configured, its history begins where the
-- store stood, which is without documents, and what its disk had counted is what it counted then.
pub record IsOver {D : Type 0} (words : DiskWords D) (schema : ℕ → Schema) (base : ℕ → Base) (opened : ℕ → AtOpening) (confs : List IndexConf) : Type 0 where
  pub index : IndexConf
  pub store : Opened D
  pub is : confs ≡ index ∷ []
  pub ours : IsOurs index
  pub columns : schema 0 ≡ index.schema
  pub begins : base 0 ≡ base_of store
  pub empty : IsEmpty (base 0)
  pub counted : opened 0 ≡ opening_of words store
  pub is_opened : IsOpened words (schema 0) store

-- The engine of such an index ended with this answer and a note of its history, by the tokens that the selftest left and what was told
-- beside them. What was found is what the conversation came to that left these tokens.
pub record EndsBy {D : Type 0} (words : DiskWords D) (found : Option Found) (answer : Result (Unit {0}) (Or Strayed)) : Type 0 where
  pub schema : ℕ → Schema
  pub base : ℕ → Base
  pub opened : ℕ → AtOpening
  pub confs : List IndexConf
  pub over : IsOver words schema base opened confs
  pub left : TokensValue
  pub works : Works schema base confs first_tokens left
  pub has : HasFound schema base confs found left
  pub disk : D
  pub note : FrontValue
  pub new : List TokenValue
  pub closes : Closes words schema base opened 0 1 (told_at 0 (left ∷ [])) (tokens_at 0 (left ∷ [])) disk note answer new

-- Where there is a summary, its token had seen the whole history as the end says. That a job failed comes only where all was well with
-- the history and the conversation came to that; or the end answered that the history strayed. That a session replied wrongly otherwise is
-- no answer. Out of memory is free.
abbrev pub Ends : {D : Type 0} → DiskWords D → List Document → Result Summary SelftestFault → Type 0
Ends words documents (Ok summary) = EndsBy words (Some (record { documents = documents; result = Ok summary })) (Ok tt)
Ends words documents (Err FailsJob) = EndsBy words (Some (record { documents = documents; result = Err (causes.Fault JobFailed) })) (Ok tt)
Ends words documents (Err (HasStrayed strayed)) = EndsBy words None (Err (causes.Fault strayed))
Ends words documents (Err NoMemory) = Unit {0}
