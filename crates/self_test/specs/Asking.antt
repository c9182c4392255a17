-- What is asked of a session, and what is replied.
use Rattle.std.specs.Prelude.{◌≡◌, ◌<◌, ◌==◌, ◌||◌, ◌⊎◌, ℕ, zero, suc, ◌+◌, List, [], ◌∷◌, Bool, true, false, Result, Ok, Err, length}
use Rattle.srch_base.specs.declared.faults.Or.{Or}
use Rattle.srch_base.specs.declared.faults.Or.TheVariants as causes
use Rattle.mysql_wire.specs.Commands.{Query}
use Rattle.mysql_wire.specs.Packets.{max_payload, packets_from}
use Rattle.mysql_wire.specs.Replies.{ok_packet}
use Rattle.ql_session.specs.Machines.{Answered, FollowAll}
use Rattle.index_conf.specs.declared.conf.IndexConf.{IndexConf}
use Rattle.ql_tree.specs.declared.select.Select.{Select}
use Rattle.ql_tree.specs.declared.statement.Statement.{Statement}
use Rattle.ql_tree.specs.declared.statement.Statement.TheVariants as statements
use Rattle.self_test.specs.Findings.{FindsRows}
use Rattle.self_test.specs.declared.fault.Astray.{Astray}
use Rattle.ql_write.specs.Canonical.{canonical_text}
use Rattle.ql_answers.specs.Replies.{Fails, Reply, is_refusal, payloads}
use Rattle.ql_answers.specs.States.{status_of}
use Rattle.ql_answers.specs.declared.state.State.{State}
use Rattle.ql_answers.specs.Sessions.{disk_count}
use Rattle.ql_session.specs.Events.{Event, Read, StoreWords, Follows}
use Rattle.ql_session.specs.Session.{statement_machine}
use Rattle.ql_session.specs.Statements.{Replies}

-- A text was asked of a session, which replied these bytes; and it led the session and its store to these.
unfoldable pub Asks : {D F : Type 0} → (D → List IndexConf) → StoreWords D F → List ℕ → List ℕ → State → D → State → D → Type 0
Asks confs words text reply old before new left =
    Answered (statement_machine words.documents) (Follows confs words) old (Query text) before left reply new

-- A statement was told alone: this was replied to it, by the one event that it came to, which led the store on.
pub record IsTold {D F : Type 0} (confs : D → List IndexConf) (words : StoreWords D F) (statement : Statement) (reply : Reply) (old : State) (before : D) (new : State) (left : D) : Type 0 where
  pub event : Event F
  pub replies : Replies words.documents (confs before) old statement event reply new
  pub follows : Follows confs words before event left

-- the bytes of a reply that leaves the session in this state
abbrev pub bytes_of : State → Reply → List ℕ
bytes_of state reply = packets_from 1 (payloads (status_of state false) reply)

-- A statement was told by its canonical text, and this was replied to it.
pub record IsReplied {D F : Type 0} (confs : D → List IndexConf) (words : StoreWords D F) (statement : Statement) (reply : Reply) (old : State) (before : D) (new : State) (left : D) : Type 0 where
  pub told : IsTold confs words statement reply old before new left
  pub asks : Asks confs words (canonical_text statement) (bytes_of new reply) old before new left

-- the reply is a refusal with this code
abbrev pub has_code : ℕ → Reply → Bool
has_code code (Fails refusal) = refusal.code == code
has_code code reply = false

-- Memory was refused, which the code 1037 says; or the disk failed, which 1105 says.
abbrev pub is_stop : Reply → Bool
is_stop reply = has_code 1037 reply || has_code 1105 reply

-- A statement that a session is told by its canonical text. OK has to be replied to it, with so many rows affected and this status;
-- otherwise this is answered.
pub record Telling : Type 0 where
  pub statement : Statement
  pub affected : ℕ
  pub status : ℕ
  pub otherwise : Astray

-- The reply is what it has to be.
abbrev pub IsWanted : Telling → State → Reply → Type 0
IsWanted telling state reply = bytes_of state reply ≡ ok_packet 1 telling.affected telling.status

-- It was told, and what has to be replied to it was replied.
pub record IsDone {D F : Type 0} (confs : D → List IndexConf) (words : StoreWords D F) (telling : Telling) (old : State) (before : D) (new : State) (left : D) : Type 0 where
  pub reply : Reply
  pub replied : IsReplied confs words telling.statement reply old before new left
  pub wanted : IsWanted telling new reply

-- It was told, and another thing was replied than what has to be, and not that memory was refused or the disk failed.
pub record IsAstray {D F : Type 0} (confs : D → List IndexConf) (words : StoreWords D F) (telling : Telling) (old : State) (before : D) (new : State) (left : D) : Type 0 where
  pub reply : Reply
  pub replied : IsReplied confs words telling.statement reply old before new left
  pub unwanted : IsWanted telling new reply → ⊥
  pub goes_on : is_stop reply ≡ false

-- one part of a conversation, and then another one
infixr 20 ◌then◌
abbrev pub ◌then◌ : {D : Type 0} → (State → D → State → D → Type 0) → (State → D → State → D → Type 0) → State → D → State → D → Type 0
◌then◌ {D} First Next old before new left = (mid : State) × (between : D) × First old before mid between × Next mid between new left

-- These statements were told one after the other, and each was done.
abbrev pub AreDone : {D F : Type 0} → (D → List IndexConf) → StoreWords D F → List Telling → State → D → State → D → Type 0
AreDone confs words [] old before new left = (new ≡ old) × (left ≡ before)
AreDone confs words (telling ∷ tellings) old before new left = (IsDone confs words telling then AreDone confs words tellings) old before new left

-- One of these statements went astray, for which this is answered, and those before it were done.
abbrev pub GoAstray : {D F : Type 0} → (D → List IndexConf) → StoreWords D F → Astray → List Telling → State → D → State → D → Type 0
GoAstray confs words fault [] old before new left = ⊥
GoAstray confs words fault (telling ∷ tellings) old before new left =
    ((telling.otherwise ≡ fault) × IsAstray confs words telling old before new left)
    ⊎ (IsDone confs words telling then GoAstray confs words fault tellings) old before new left

-- What is answered where these statements are told: all were done, or one went astray. Out of memory is free.
abbrev pub AreTold : {D F T : Type 0} → (D → List IndexConf) → StoreWords D F → List Telling → Result T (Or Astray) → State → D → State → D → Type 0
AreTold confs words tellings (Ok done) = AreDone confs words tellings
AreTold confs words tellings (Err (causes.Fault fault)) = GoAstray confs words fault tellings
AreTold confs words tellings (Err causes.NoMemory) = λ old before new left. Unit {0}

-- so many packets, numbered from 1
abbrev pub ArePackets : ℕ → List ℕ → Type 0
ArePackets count bytes = (payloads : List (List ℕ)) × (bytes ≡ packets_from 1 payloads) × (length payloads ≡ count)

-- It was answered by so many rows of one column: a result set has four packets beside them.
abbrev pub HasRows : {D F : Type 0} → (D → List IndexConf) → StoreWords D F → List ℕ → ℕ → State → D → State → D → Type 0
HasRows confs words text rows old before new left =
    (reply : List ℕ) × Asks confs words text reply old before new left × ArePackets (rows + 4) reply

-- A SELECT was told by its canonical text and answered by so many rows: those that it finds in the documents that were seen of the index.
abbrev pub Shows : {D F : Type 0} → (D → List IndexConf) → StoreWords D F → Select → ℕ → State → D → State → D → Type 0
Shows confs words select rows old before new left =
    HasRows confs words (canonical_text (statements.Select select)) rows old before new left × FindsRows confs words select rows before left

-- A SELECT was told, and refused, but not since memory was refused or the disk failed; or the reply is longer than a packet's payload
-- may be.
pub record IsLost {D F : Type 0} (confs : D → List IndexConf) (words : StoreWords D F) (select : Select) (old : State) (before : D) (new : State) (left : D) : Type 0 where
  pub reply : Reply
  pub replied : IsReplied confs words (statements.Select select) reply old before new left
  pub lost : (is_refusal reply ≡ true) ⊎ (max_payload < length (bytes_of new reply))
  pub goes_on : is_stop reply ≡ false

-- SELECTs, one for each number below this one, were told one after the other, and so many rows were replied to all of them together.
abbrev pub AreCounted : {D F : Type 0} → (D → List IndexConf) → StoreWords D F → (ℕ → Select) → ℕ → ℕ → State → D → State → D → Type 0
AreCounted confs words select zero sum old before new left = (sum ≡ 0) × (new ≡ old) × (left ≡ before)
AreCounted {D} confs words select (suc number) sum old before new left =
    (earlier : ℕ) × (rows : ℕ) × (mid : State) × (between : D) × AreCounted confs words select number earlier old before mid between
    × Shows confs words (select number) rows mid between new left × (sum ≡ earlier + rows)

-- One of the SELECTs for the numbers below this one was lost, behind those for lesser numbers, whose rows were counted.
pub record LoseOne {D F : Type 0} (confs : D → List IndexConf) (words : StoreWords D F) (select : ℕ → Select) (many : ℕ) (begun : State) (first left : D) : Type 0 where
  pub number : ℕ
  pub below : number < many
  pub sum : ℕ
  pub old : State
  pub before : D
  pub counted : AreCounted confs words select number sum begun first old before
  pub new : State
  pub lost : IsLost confs words (select number) old before new left

-- What was asked led a store from one state to another.
pub record Leads {D F : Type 0} (confs : D → List IndexConf) (words : StoreWords D F) (old new : D) : Type 0 where
  pub events : List (Event F)
  pub follows : FollowAll (Follows confs words) old events new

-- The first index was read, and what was seen of it has so many chunks on the disk.
pub record SeesChunks {D F : Type 0} (confs : D → List IndexConf) (words : StoreWords D F) (chunks : ℕ) (old new : D) : Type 0 where
  pub front : F
  pub reads : Follows confs words old (Read 0 front) new
  pub counted : disk_count (words.documents front) ≡ chunks
