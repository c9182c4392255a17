-- Alone: one line of a worker that no other one commits beside, where nothing failed on the way.
use Rattle.std.specs.Prelude.{◌≡◌, ⊤, ℕ, ◌<◌, ◌-◌, List, [], ◌∷◌, Bool, true, false, All, length, take}
use Rattle.std.specs.List.{flat_map, list_any}
use Rattle.srch_base.specs.Moves.{Meters}
use Rattle.commit_outcomes.specs.declared.outcome.CommitOutcome.{CommitOutcome}
use Rattle.commit_outcomes.specs.declared.outcome.CommitOutcome.TheVariants.{Committed, Duplicate}
use Rattle.doc_types.specs.declared.schema.Schema.{Schema}
use Rattle.doc_types.specs.Snapshots.{live}
use Rattle.index_conf.specs.declared.conf.IndexConf.{IndexConf}
use Rattle.mysql_wire.specs.Commands.{Query, command_of}
use Rattle.mysql_wire.specs.Packets.{packet}
use Rattle.ql_tree.specs.declared.statement.Statement.{Statement}
use Rattle.ql_tree.specs.declared.statement.Statement.TheVariants.{ShowIndexStatus}
use Rattle.ql_session.specs.Events.{Event, Configured, Nothing, NoMemory, Read, Commit, Reshape, Follows}
use Rattle.ql_session.specs.JobOutcome.{JobOutcome}
use Rattle.ql_session.specs.JobOutcome.TheVariants.{Shaped}
use Rattle.ql_session.specs.LinkEnd.{LinkEnd}
use Rattle.ql_session.specs.Machines.{FollowAll}
use Rattle.ql_session.specs.Session.{IsSession}
use Rattle.ql_session.specs.Statements.{States}
use Rattle.serve_line.specs.Line.{EndsByClient, Turn}
use Rattle.step_book.specs.Fronts.{FrontValue}
use Rattle.step_history.specs.History.{Base, Step}
use Rattle.step_history.specs.Places.{disk_chunks}
use Rattle.engine_tables.specs.Tokens.{TokensValue}
use Rattle.engine_tables.specs.Workers.{by_tokens, documents_of}
use Rattle.line_workers.specs.Histories.{IsOneHistory}
use Rattle.line_workers.specs.Workers.{first_tokens}

-- The commit was made, or an id that it inserts was there: the store refused nothing, and nothing is in doubt.
abbrev pub IsClear : CommitOutcome → Type 0
IsClear (Committed removed) = ⊤
IsClear (Duplicate id) = ⊤
IsClear outcome = ⊥

-- The job has ended: the store refused nothing, and nothing is in doubt.
abbrev pub IsDone : JobOutcome → Type 0
IsDone Shaped = ⊤
IsDone outcome = ⊥

-- Memory was there, a commit was made or its id was there, and a job has ended.
abbrev pub IsUntroubled : {F : Type 0} → Event F → Type 0
IsUntroubled (Configured confs) = ⊤
IsUntroubled Nothing = ⊤
IsUntroubled NoMemory = ⊥
IsUntroubled (Read place front) = ⊤
IsUntroubled (Commit place ops outcome front) = IsClear outcome
IsUntroubled (Reshape place job outcome own front) = IsDone outcome

-- The index began with the same documents by the same commits, whatever layers and chunks held them.
pub record OpenAlike (a b : Base) : Type 0 where
  pub number : a.opening.number ≡ b.opening.number
  pub rows : live a.opening ≡ live b.opening

-- how many chunks of its index are on the disk where the event reads it
abbrev pub chunks_read : (ℕ → Base) → Event FrontValue → List ℕ
chunks_read base (Configured confs) = []
chunks_read base Nothing = []
chunks_read base NoMemory = []
chunks_read base (Read place front) = length (disk_chunks (documents_of base front)) ∷ []
chunks_read base (Commit place ops outcome front) = []
chunks_read base (Reshape place job outcome own front) = []

-- The one worker had a line of this connection over the indexes as they were opened, which its client ended: these bytes were read and
-- written. Nothing troubled it. Each index has one history of the line's events. Where the line read an index, so many chunks were on
-- the disk.
pub record IsAlone (schema : ℕ → Schema) (base : ℕ → Base) (confs : List IndexConf) (connection : ℕ) (chunks : List ℕ) (read written : List ℕ) : Type 0 where
  pub before : Meters
  pub now : Meters
  pub end : LinkEnd
  pub events : List (Event FrontValue)
  pub left : TokensValue
  pub history : ℕ → List Step
  pub session : IsSession (documents_of base) connection before now read written end events
  pub follows : FollowAll (Follows (λ tables. tables.confs) (by_tokens schema base)) (record { confs = confs; tokens = first_tokens confs 1 }) events (record { confs = confs; tokens = left })
  pub client : EndsByClient end
  pub untroubled : All IsUntroubled events
  pub one : (index : ℕ) → index < length confs → IsOneHistory (schema index) (base index) index (history index) (events ∷ [])
  pub reads : flat_map (chunks_read base) events ≡ chunks

-- the statement is SHOW INDEX STATUS
abbrev pub is_status : Statement → Bool
is_status (ShowIndexStatus index) = true
is_status statement = false

-- Of the statements of a text none is SHOW INDEX STATUS that was answered: so many were as there are events after the first one.
abbrev pub AnswersNoStatus : {F : Type 0} → List ℕ → List (Event F) → Type 0
AnswersNoStatus text events = (statements : List Statement) → States text statements → list_any is_status (take (length events - 1) statements) ≡ false

-- no SHOW INDEX STATUS was answered in the turn
abbrev pub HasNoStatus : {F : Type 0} → Turn (Event F) → Type 0
HasNoStatus turn = (payload text : List ℕ) → turn.read ≡ packet 0 payload → command_of payload ≡ Query text → AnswersNoStatus text turn.events

-- No SHOW INDEX STATUS was answered in the line: nothing of it tells how many chunks are on the disk.
abbrev pub IsWithoutStatus : {schema : ℕ → Schema} {base : ℕ → Base} {confs : List IndexConf} {connection : ℕ} {chunks read written : List ℕ} → IsAlone schema base confs connection chunks read written → Type 0
IsWithoutStatus line = All HasNoStatus line.session.turns
