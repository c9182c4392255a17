-- Lines in which no SHOW INDEX STATUS was answered.
use Rattle.std.proofs.Common.{◌≡◌, ℕ, zero, suc, List, [], ◌∷◌, Bool, true, false, length, take, refl, sym, ap, subst, ◌∙◌, arith}
use Rattle.std.specs.Prelude.{⊤, All, Option, None, Some, ◌-◌, ◌||◌, if◌then◌else◌, map}
use Rattle.std.specs.List.{AllByRecursion, list_any}
use Rattle.std.proofs.lemmas.List.{length-map}
use Rattle.std.proofs.lemmas.List.Elements.{recursion_from_All}
use Rattle.std.proofs.lemmas.Option.{same_Some}
use Rattle.mysql_wire.specs.Commands.{ClientCommand, Quit as asks_quit, InitDb, Query, Ping, SetOption, Unknown, command_of}
use Rattle.mysql_wire.specs.Packets.{packet}
use Rattle.srch_base.specs.Moves.{Meters}
use Rattle.serve_line.specs.Line.{EndsByClient, Ends, Finish, Greeted, Opened, Phase, Run, Step, Stops, Talking, Turn}
use Rattle.serve_line.specs.Machines.{Machine}
use Rattle.serve_line.specs.declared.line.LinkEnd.{LinkEnd}
use Rattle.serve_line.specs.declared.line.LinkEnd.TheVariants.{Quit, End, Truncated, BadHandshake, TooLarge, OutOfOrder, ReadFault, WriteFault, Worn, NoMemory as WithoutMemory}
use Rattle.doc_types.specs.Snapshots.{SnapshotValue}
use Rattle.index_conf.specs.declared.conf.IndexConf.{IndexConf}
use Rattle.ql_tree.specs.declared.statement.Statement.{Statement}
use Rattle.ql_tree.specs.declared.statement.Statement.TheVariants as statements
use Rattle.ql_answers.specs.declared.plan.Plan.{Plan}
use Rattle.ql_answers.specs.declared.plan.Plan.TheVariants as plans
use Rattle.ql_answers.specs.declared.turn.Turn.{Turn as Turning}
use Rattle.ql_answers.specs.declared.state.State.{State}
use Rattle.ql_answers.specs.Pending.{PendingValue}
use Rattle.ql_answers.specs.Plans.{Wants, autocommit_of}
use Rattle.ql_answers.specs.States.{is_alone}
use Rattle.ql_answers.specs.Transactions.{commit_of, written}
use Rattle.ql_session.specs.Events.{Event, Configured}
use Rattle.ql_session.specs.Session.{Answers, statement_machine}
use Rattle.ql_session.specs.Statements.{States}
use Rattle.line_workers.specs.Alone.{AnswersNoStatus, HasNoStatus, is_status}
use Rattle.line_workers.proofs.Plainly.{line_over, line_turns, over}

-- SHOW INDEX STATUS alone wants to tell how many chunks there are
abbrev tells_chunks : Plan → Bool
tells_chunks (plans.Status place) = true
tells_chunks plan = false

-- what a statement of a quiet line may want
abbrev pub Fits : Bool → Plan → Type 0
Fits true plan = tells_chunks plan ≡ false
Fits false plan = ⊤

-- of these statements those that have an event of their own, one after another, tell of no chunks in a quiet line
abbrev pub IsQuiet : {F : Type 0} → Bool → List Statement → List (Event F) → Type 0
IsQuiet true statements events = list_any is_status (take (length events) statements) ≡ false
IsQuiet false statements events = ⊤

abbrev pub IsQuietText : {F : Type 0} → Bool → List ℕ → List (Event F) → Type 0
IsQuietText true text events = AnswersNoStatus text events
IsQuietText false text events = ⊤

abbrev IsQuietCommand : {F : Type 0} → Bool → ClientCommand → List (Event F) → Type 0
IsQuietCommand quiet (Query text) events = IsQuietText quiet text events
IsQuietCommand quiet asked events = ⊤

abbrev pub IsQuietTurn : {F : Type 0} → Bool → Turn (Event F) → Type 0
IsQuietTurn true turn = HasNoStatus turn
IsQuietTurn false turn = ⊤

-- what is answered in a quiet line
abbrev pub QuietAnswers : {F : Type 0} → Bool → (F → SnapshotValue) → State → ClientCommand → List (Event F) → List ℕ → State → Type 0
QuietAnswers quiet documents old asked events bytes new = Answers documents old asked events bytes new × IsQuietCommand quiet asked events

abbrev pub quiet_machine : {F : Type 0} → Bool → (F → SnapshotValue) → Machine State (Event F)
quiet_machine quiet documents = record { status = (statement_machine documents).status; answers = QuietAnswers quiet documents }

first_false : (a b : Bool) → (a || b) ≡ false → a ≡ false
first_false true b none = absurd (cc none)
first_false false b none = refl

second_false : (a b : Bool) → (a || b) ≡ false → b ≡ false
second_false true b none = absurd (cc none)
second_false false b none = none

-- what is pending, or nothing
commits_quietly : (pending : Option PendingValue) (turn : Turning) (plan : Plan) → plan ≡ commit_of pending turn → tells_chunks plan ≡ false
commits_quietly None turn plan is = ap tells_chunks is
commits_quietly (Some pending) turn plan is = ap tells_chunks is

writes_quietly : (alone : Bool) (put keep plan : Plan) → tells_chunks put ≡ false → tells_chunks keep ≡ false → plan ≡ (if alone then put else keep) → tells_chunks plan ≡ false
writes_quietly true put keep plan first second is = ap tells_chunks is ∙ first
writes_quietly false put keep plan first second is = ap tells_chunks is ∙ second

sets_quietly : (state : State) (value : ℕ) (plan : Plan) → autocommit_of state value ≡ Some plan → tells_chunks plan ≡ false
sets_quietly state zero plan is = ap tells_chunks (sym (same_Some _ plan is))
sets_quietly state (suc zero) plan is = commits_quietly state.pending _ plan (sym (same_Some _ plan is))
sets_quietly state (suc (suc value)) plan is = absurd (cc is)

wants_quietly : (confs : List IndexConf) (state : State) (statement : Statement) (plan : Plan) → is_status statement ≡ false → Wants confs state statement plan → tells_chunks plan ≡ false
wants_quietly confs state (statements.Select select) plan quiet (place, selection, wants, is) = ap tells_chunks is
wants_quietly confs state (statements.SelectVar name limit) plan quiet is = ap tells_chunks is
wants_quietly confs state statements.SelectDatabase plan quiet is = ap tells_chunks is
wants_quietly confs state (statements.Insert replace index columns rows) plan quiet (place, txn, wants, fits, is) = writes_quietly (is_alone state) _ _ plan refl refl is
wants_quietly confs state (statements.Delete index ids) plan quiet (place, conf, serves, fits, is) = writes_quietly (is_alone state) _ _ plan refl refl is
wants_quietly confs state statements.Begin plan quiet is = commits_quietly state.pending _ plan is
wants_quietly confs state statements.StartTransaction plan quiet is = commits_quietly state.pending _ plan is
wants_quietly confs state statements.Commit plan quiet is = commits_quietly state.pending _ plan is
wants_quietly confs state statements.Rollback plan quiet is = ap tells_chunks is
wants_quietly confs state (statements.SetAutocommit value) plan quiet is = sets_quietly state value plan is
wants_quietly confs state (statements.SetNames names) plan quiet is = ap tells_chunks is
wants_quietly confs state (statements.SetOther scope target value) plan quiet is = ap tells_chunks is
wants_quietly confs state (statements.FlushRamchunk index) plan quiet (place, conf, serves, is) = ap tells_chunks is
wants_quietly confs state (statements.FlushRtindex index) plan quiet (place, conf, serves, is) = ap tells_chunks is
wants_quietly confs state (statements.OptimizeIndex index) plan quiet (place, conf, serves, is) = ap tells_chunks is
wants_quietly confs state (statements.TruncateRtindex index) plan quiet (place, conf, serves, closed, is) = ap tells_chunks is
wants_quietly confs state (statements.Describe index) plan quiet (place, conf, serves, is) = ap tells_chunks is
wants_quietly confs state (statements.ShowIndexStatus index) plan quiet wants = absurd (cc quiet)
wants_quietly confs state statements.ShowMeta plan quiet is = ap tells_chunks is
wants_quietly confs state statements.ShowTables plan quiet is = ap tells_chunks is
wants_quietly confs state statements.ShowWarnings plan quiet is = ap tells_chunks is
wants_quietly confs state statements.ShowVariables plan quiet is = ap tells_chunks is
wants_quietly confs state statements.ShowDatabases plan quiet is = ap tells_chunks is

-- what the first of these statements wants
pub fits_so : {F : Type 0} (quiet : Bool) (confs : List IndexConf) (state : State) (statement : Statement) (rest : List Statement) (event : Event F) (later : List (Event F)) → IsQuiet quiet (statement ∷ rest) (event ∷ later)
    → (plan : Plan) → Wants confs state statement plan → Fits quiet plan
fits_so true confs state statement rest event later still plan wants = wants_quietly confs state statement plan (first_false (is_status statement) (list_any is_status (take (length later) rest)) still) wants
fits_so false confs state statement rest event later still plan wants = tt

pub rest_false : {F : Type 0} (quiet : Bool) (statement : Statement) (rest : List Statement) (event : Event F) (later : List (Event F)) → IsQuiet quiet (statement ∷ rest) (event ∷ later) → IsQuiet quiet rest later
rest_false true statement rest event later still = second_false (is_status statement) (list_any is_status (take (length later) rest)) still
rest_false false statement rest event later still = tt

-- the statements of a text
pub text_quiet : {F : Type 0} (quiet : Bool) (text : List ℕ) (list : List Statement) (events later : List (Event F)) (confs : List IndexConf) → States text list → events ≡ Configured confs ∷ later → IsQuietText quiet text events
    → IsQuiet quiet list later
text_quiet true text list events later confs states are still =
    let many : length events - 1 ≡ length later = omega (arith, ap length are) in
    subst (λ (n : ℕ). list_any is_status (take n list) ≡ false) many (still list states)
text_quiet false text list events later confs states are still = tt

module _ {F : Type 0} (quiet : Bool) (documents : F → SnapshotValue) where
  command_quiet : (b : Bool) (turn : Turn (Event F)) (payload : List ℕ) (asked : ClientCommand) → command_of payload ≡ asked → turn.read ≡ packet 0 payload → IsQuietTurn b turn → IsQuietCommand b asked turn.events
  command_quiet true turn payload (Query text) is read still = still payload text read is
  command_quiet false turn payload (Query text) is read still = tt
  command_quiet b turn payload asks_quit is read still = tt
  command_quiet b turn payload (InitDb name) is read still = tt
  command_quiet b turn payload Ping is read still = tt
  command_quiet b turn payload (SetOption option) is read still = tt
  command_quiet b turn payload (Unknown code) is read still = tt

  step_quiet : (old : Phase State) (turn : Turn (Event F)) (new : Phase State) → IsQuietTurn quiet turn → Step (statement_machine documents) old turn new → Step (quiet_machine quiet documents) old turn new
  step_quiet (Opened connection start) turn (Opened connection' start') still step = absurd step
  step_quiet (Opened connection start) turn (Greeted start') still step = step
  step_quiet (Opened connection start) turn (Talking state answered) still step = absurd step
  step_quiet (Greeted start) turn (Opened connection' start') still step = absurd step
  step_quiet (Greeted start) turn (Greeted start') still step = absurd step
  step_quiet (Greeted start) turn (Talking new answered) still step = step
  step_quiet (Talking old answered) turn (Opened connection' start') still step = absurd step
  step_quiet (Talking old answered) turn (Greeted start') still step = absurd step
  step_quiet (Talking old answered) turn (Talking new answered') still (payload, few, takes, stays, answers, next) =
      (payload, few, takes, stays, (answers, command_quiet quiet turn payload (command_of payload) refl takes.1 still), next)

  run_quiet : (old : Phase State) (turns : List (Turn (Event F))) (new : Phase State) → AllByRecursion (λ turn. IsQuietTurn quiet turn) turns → Run (statement_machine documents) old turns new → Run (quiet_machine quiet documents) old turns new
  run_quiet old [] new still run = run
  run_quiet old (turn ∷ turns) new still (next, step, run) = (next, step_quiet old turn next still.0 step, run_quiet next turns new still.1 run)

  stops_quiet : (before now : Meters) (end : LinkEnd) (at : Finish State (Event F)) → EndsByClient end → Stops (statement_machine documents) before now end at → Stops (quiet_machine quiet documents) before now end at
  stops_quiet before now Quit at client stops = stops
  stops_quiet before now End at client stops = stops
  stops_quiet before now Truncated at client stops = stops
  stops_quiet before now (BadHandshake place) at client stops = stops
  stops_quiet before now (TooLarge size) at client stops = stops
  stops_quiet before now (OutOfOrder seq) at client stops = stops
  stops_quiet before now ReadFault at client stops = absurd client
  stops_quiet before now WriteFault at client stops = absurd client
  stops_quiet before now Worn at client stops = stops
  stops_quiet before now WithoutMemory at client stops = absurd client

  -- a line whose turns are quiet
  pub line_quiet : (before now : Meters) (end : LinkEnd) (old : Phase State) (held read written : List ℕ) (events : List (Event F)) → EndsByClient end → (ends : Ends (statement_machine documents) before now end old held read written events)
      → AllByRecursion (λ turn. IsQuietTurn quiet turn) ends.turns → Ends (quiet_machine quiet documents) before now end old held read written events
  line_quiet before now end old held read written events client ends still = record {
    turns = ends.turns;
    at = ends.at;
    run = run_quiet old ends.turns ends.at.phase still ends.run;
    stops = stops_quiet before now end ends.at client ends.stops;
    is_read = ends.is_read;
    is_written = ends.is_written;
    happened = ends.happened;
  }

-- nothing is wanted of a line that isn't quiet
pub loud : {F : Type 0} (turns : List (Turn (Event F))) → AllByRecursion (λ turn. IsQuietTurn false turn) turns
loud [] = tt
loud (turn ∷ turns) = (tt, loud turns)

-- turns are quiet over other fronts too
quiet_over : {F G : Type 0} (over : Event F → Event G) (turns : List (Turn (Event F))) → AllByRecursion (λ turn. HasNoStatus turn) turns
    → AllByRecursion (λ turn. IsQuietTurn true turn) (map (λ turn. record { read = turn.read; written = turn.written; events = map over turn.events }) turns)
quiet_over over [] still = tt
quiet_over over (turn ∷ turns) still = (
  λ payload text read is list states. subst (λ (n : ℕ). list_any is_status (take (n - 1) list) ≡ false) (sym (length-map turn.events over)) (still.0 payload text read is list states),
  quiet_over over turns still.1,
)

pub over_quietly : {F : Type 0} (documents : F → SnapshotValue) (before now : Meters) (end : LinkEnd) (old : Phase State) (held read written : List ℕ) (events : List (Event F)) (client : EndsByClient end)
    (ends : Ends (statement_machine documents) before now end old held read written events) → All HasNoStatus ends.turns → AllByRecursion (λ turn. IsQuietTurn true turn) (line_over documents before now end old held read written events client ends).turns
over_quietly documents before now end old held read written events client ends still =
    subst (λ (turns : List (Turn (Event SnapshotValue))). AllByRecursion (λ turn. IsQuietTurn true turn) turns) (sym (line_turns documents before now end old held read written events client ends))
    (quiet_over (over documents) ends.turns (recursion_from_All (λ turn. HasNoStatus turn) ends.turns still))
