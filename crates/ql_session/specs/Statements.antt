-- The statement machine: what is replied to a text of statements, by what the outside did about each of them.
use Rattle.std.specs.Prelude.{◌≡◌, ◌≤◌, ◌⊎◌, ⊤, ℕ, List, [], ◌∷◌, ◌++◌, Bool, true, false, All, length, Option, Some}
use Rattle.mysql_wire.specs.Packets.{packets_from, sequence_after}
use Rattle.index_conf.specs.declared.conf.IndexConf.{IndexConf}
use Rattle.ql_lex.specs.declared.fault.LexFault.{LexFault}
use Rattle.ql_lex.specs.Tokens.{AreTokens, FaultAt, Lexeme}
use Rattle.ql_grammar.specs.declared.fault.ParseFault.{ParseFault}
use Rattle.ql_tree.specs.declared.statement.Statement.{Statement}
use Rattle.ql_tree.specs.declared.statement.TheConstants.{MAX_STATEMENTS}
use Rattle.ql_grammar.specs.Packets.{IsFault, IsPacket}
use Rattle.doc_types.specs.Snapshots.{SnapshotValue}
use Rattle.doc_types.specs.declared.transactions.Txn.{Txn}
use Rattle.ql_answers.specs.declared.event.Need.{Need}
use Rattle.ql_answers.specs.declared.event.Need.TheVariants as needs
use Rattle.ql_answers.specs.declared.plan.Plan.{Plan}
use Rattle.ql_answers.specs.declared.state.State.{State}
use Rattle.ql_refusals.specs.Refusals.{Refused, bad_token, bad_syntax, no_memory}
use Rattle.ql_answers.specs.Replies.{Reply, Fails, is_refusal, payloads}
use Rattle.ql_answers.specs.Plans.{Wants, Refuses, TakesMemory}
use Rattle.ql_answers.specs.Sessions.{Decides, Happened, HasLayers, need_of, next_of, pending_of}
use Rattle.ql_answers.specs.Sessions as happenings
use Rattle.ql_answers.specs.States.{status_of}
use Rattle.ql_session.specs.Events.{Event, Configured, Nothing, NoMemory, Read, Commit, Reshape}

-- The text is a packet of these statements.
abbrev pub States : List ℕ → List Statement → Type 0
States text statements = (tokens : List Lexeme) × AreTokens text tokens × IsPacket statements tokens × (length statements ≤ MAX_STATEMENTS)

-- The tokens are no packet of statements, or one of too many.
abbrev pub RefusesTokens : List Lexeme → Refused → Type 0
RefusesTokens tokens refusal = (fault : ParseFault) × IsFault tokens fault × (refusal ≡ bad_syntax fault)

-- No token can be read at a place of the text, or its tokens are refused.
abbrev pub RefusesText : List ℕ → Refused → Type 0
RefusesText text refusal =
    ((fault : LexFault) × FaultAt text fault.place fault.kind × (refusal ≡ bad_token fault))
    ⊎ ((tokens : List Lexeme) × AreTokens text tokens × RefusesTokens tokens refusal)

-- The event is what came of what was needed, where this transaction was to be committed.
abbrev pub Meets : {F : Type 0} → Need → Option Txn → Event F → Type 0
Meets needs.Nothing pending Nothing = ⊤
Meets (needs.Read place) pending (Read at front) = at ≡ place
Meets (needs.Commit place) pending (Commit at ops outcome front) = (at ≡ place) × (pending ≡ Some (record { ops = ops }))
Meets (needs.Reshape place job) pending (Reshape at done outcome own front) = (at ≡ place) × (done ≡ job)
Meets need pending event = ⊥

-- what a session is told of an event, where these are the documents of a front
abbrev pub told : {F : Type 0} → (F → SnapshotValue) → Event F → Happened
told documents (Configured confs) = happenings.Nothing
told documents Nothing = happenings.Nothing
told documents NoMemory = happenings.NoMemory
told documents (Read place front) = happenings.Read (documents front)
told documents (Commit place ops outcome front) = happenings.Committing outcome
told documents (Reshape place job outcome own front) = happenings.Reshaping outcome

-- What was read has layers as a snapshot has them, at each of these events.
abbrev pub HaveLayers : {F : Type 0} → (F → SnapshotValue) → List (Event F) → Type 0
HaveLayers documents events = All (λ event. HasLayers (told documents event)) events

-- The statement is refused, and nothing is asked for.
abbrev pub IsRefused : {F : Type 0} → List IndexConf → State → Statement → Event F → Reply → State → Type 0
IsRefused confs old statement event reply new =
    (refusal : Refused) × Refuses confs old statement refusal × (event ≡ Nothing) × (reply ≡ Fails refusal) × (new ≡ old)

-- The statement wants something, the event came of it, and the reply says so.
abbrev pub IsMet : {F : Type 0} → (F → SnapshotValue) → List IndexConf → State → Statement → Event F → Reply → State → Type 0
IsMet documents confs old statement event reply new =
    (plan : Plan) × Wants confs old statement plan × Meets (need_of plan) (pending_of old plan) event
    × Decides plan (told documents event) reply × (new ≡ next_of plan (told documents event) reply old)

-- The statement takes memory, and that was refused.
abbrev pub IsWithoutMemory : {F : Type 0} → State → Statement → Event F → Reply → State → Type 0
IsWithoutMemory old statement event reply new = TakesMemory old statement × (event ≡ NoMemory) × (reply ≡ Fails no_memory) × (new ≡ old)

-- What is replied to a statement, and the state of the session afterwards.
abbrev pub Replies : {F : Type 0} → (F → SnapshotValue) → List IndexConf → State → Statement → Event F → Reply → State → Type 0
Replies documents confs old statement event reply new =
    IsRefused confs old statement event reply new ⊎ IsMet documents confs old statement event reply new
    ⊎ IsWithoutMemory old statement event reply new

-- there is a statement
abbrev pub is_more : List Statement → Bool
is_more [] = false
is_more (statement ∷ statements) = true

-- Statements are answered one after another, each in the state that the one before left and numbered on from it, until they
-- have ended: one that is refused ends them. The status of a reply is that of the state after its statement.
abbrev pub AreAnswered : {F : Type 0} → (F → SnapshotValue) → List IndexConf → State → ℕ → Bool → List Statement → List (Event F) → List ℕ → State → Type 0
AreAnswered documents confs old seq true statements events bytes new = (events ≡ []) × (bytes ≡ []) × (new ≡ old)
AreAnswered documents confs old seq false [] events bytes new = (events ≡ []) × (bytes ≡ []) × (new ≡ old)
AreAnswered {F} documents confs old seq false (statement ∷ rest) events bytes new =
    (event : Event F) × (reply : Reply) × (mid : State) × (later : List (Event F)) × (tail : List ℕ)
    × Replies documents confs old statement event reply mid
    × (events ≡ event ∷ later) × (bytes ≡ packets_from seq (payloads (status_of mid (is_more rest)) reply) ++ tail)
    × AreAnswered documents confs mid (sequence_after seq (payloads (status_of mid (is_more rest)) reply)) (is_refusal reply) rest later tail new

-- The bytes are one refusal.
abbrev pub IsRefusal : Refused → List ℕ → Type 0
IsRefusal refusal bytes = bytes ≡ packets_from 1 (payloads 0 (Fails refusal))

-- The text was refused as it is, with nothing asked for.
abbrev pub IsTextRefused : {F : Type 0} → State → List ℕ → List (Event F) → List ℕ → State → Type 0
IsTextRefused old text events bytes new =
    (refusal : Refused) × RefusesText text refusal × (events ≡ []) × IsRefusal refusal bytes × (new ≡ old)

-- The statements of the text were answered, by these indexes.
abbrev pub IsTextRun : {F : Type 0} → (F → SnapshotValue) → State → List ℕ → List (Event F) → List ℕ → State → Type 0
IsTextRun {F} documents old text events bytes new =
    (confs : List IndexConf) × (statements : List Statement) × (later : List (Event F)) × States text statements
    × (events ≡ Configured confs ∷ later) × AreAnswered documents confs old 1 false statements later bytes new

-- Memory to read the text was refused.
abbrev pub IsTextUnread : {F : Type 0} → State → List (Event F) → List ℕ → State → Type 0
IsTextUnread old events bytes new = (events ≡ NoMemory ∷ []) × IsRefusal no_memory bytes × (new ≡ old)

-- What is replied to a text, and the state of the session afterwards.
abbrev pub AnswersText : {F : Type 0} → (F → SnapshotValue) → State → List ℕ → List (Event F) → List ℕ → State → Type 0
AnswersText documents old text events bytes new =
    IsTextRefused old text events bytes new ⊎ IsTextRun documents old text events bytes new ⊎ IsTextUnread old events bytes new
