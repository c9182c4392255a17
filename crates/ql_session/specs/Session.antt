-- A session: the machine that answers a connection's commands, and a whole session over a connection.
use Rattle.std.specs.Prelude.{◌≡◌, ◌≢◌, ℕ, List, [], ◌∷◌, false, codes}
use Rattle.srch_base.specs.Moves.{Meters}
use Rattle.mysql_wire.specs.Packets.{packets_from}
use Rattle.mysql_wire.specs.Replies.{ok_payload, eof_payload, err_payload}
use Rattle.mysql_wire.specs.Commands.{ClientCommand, Quit as asks_quit, InitDb, Query, Ping, SetOption, Unknown}
use Rattle.serve_line.specs.Machines.{Machine, Answered}
use Rattle.serve_line.specs.Line.{IsLine}
use Rattle.serve_line.specs.declared.line.LinkEnd.{LinkEnd}
use Rattle.doc_types.specs.Snapshots.{SnapshotValue}
use Rattle.index_conf.specs.declared.conf.IndexConf.{IndexConf}
use Rattle.ql_answers.specs.declared.state.State.{State}
use Rattle.ql_answers.specs.States.{new_state, status_of}
use Rattle.ql_session.specs.Events.{Event, StoreWords, Follows}
use Rattle.ql_session.specs.Statements.{AnswersText}
use Rattle.ql_session.specs.declared.session.StepEnd.{StepEnd}
use Rattle.ql_session.specs.declared.session.StepEnd.TheVariants.{Reply, Quit}

-- A command other than COM_QUIT is answered by these bytes, whose first packet has the number 1, and leaves the session in this
-- state. `documents` are those of a front.
abbrev pub Answers : {F : Type 0} → (F → SnapshotValue) → State → ClientCommand → List (Event F) → List ℕ → State → Type 0
Answers documents old asks_quit events bytes new = ⊥
Answers documents old (Query text) events bytes new = AnswersText documents old text events bytes new
Answers documents old Ping events bytes new = (events ≡ []) × (bytes ≡ packets_from 1 (ok_payload 0 (status_of old false) ∷ [])) × (new ≡ old)
Answers documents old (InitDb name) events bytes new = (events ≡ []) × (bytes ≡ packets_from 1 (ok_payload 0 (status_of old false) ∷ [])) × (new ≡ old)
Answers documents old (SetOption option) events bytes new = (events ≡ []) × (bytes ≡ packets_from 1 (eof_payload (status_of old false) ∷ [])) × (new ≡ old)
Answers documents old (Unknown code) events bytes new =
    (events ≡ []) × (bytes ≡ packets_from 1 (err_payload 1047 (codes "08S01") (codes "unknown command") ∷ [])) × (new ≡ old)

-- the machine that answers a session's commands
abbrev pub statement_machine : {F : Type 0} → (F → SnapshotValue) → Machine State (Event F)
statement_machine documents = record { status = λ state. status_of state false; answers = Answers documents }

-- A command was answered, or it was COM_QUIT and nothing changed.
abbrev pub TakesStep : {D F : Type 0} → (D → List IndexConf) → StoreWords D F → StepEnd → State → ClientCommand → D → D → List ℕ → State → Type 0
TakesStep confs words Reply old asked before left out new =
    (asked ≢ asks_quit) × Answered (statement_machine words.documents) (Follows confs words) old asked before left out new
TakesStep confs words Quit old asked before left out new = (asked ≡ asks_quit) × (left ≡ before) × (out ≡ []) × (new ≡ old)

-- A whole session over a connection.
abbrev pub IsSession : {F : Type 0} → (F → SnapshotValue) → ℕ → Meters → Meters → List ℕ → List ℕ → LinkEnd → List (Event F) → Type 0
IsSession documents connection before now read written end events = IsLine (statement_machine documents) connection new_state before now read written end events
