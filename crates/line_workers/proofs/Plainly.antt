-- A session over fronts of any kind is one over their documents.
use Rattle.std.proofs.Common.{◌≡◌, ℕ, List, [], ◌∷◌, ◌++◌, Bool, true, false, refl, sym, ap, subst, ◌∙◌, inl, inr}
use Rattle.std.specs.Prelude.{Option, map}
use Rattle.std.specs.List.{flat_map}
use Rattle.srch_base.specs.Moves.{Meters}
use Rattle.mysql_wire.specs.Commands.{ClientCommand, Quit as asks_quit, InitDb, Query, Ping, SetOption, Unknown}
use Rattle.serve_line.specs.Line.{Phase, Opened, Greeted, Talking, Turn, Step, Run, Finish, Stops, Ends, EndsByClient}
use Rattle.serve_line.specs.declared.line.LinkEnd.{LinkEnd}
use Rattle.serve_line.specs.declared.line.LinkEnd.TheVariants.{Quit, End, Truncated, BadHandshake, TooLarge, OutOfOrder, ReadFault, WriteFault, Worn, NoMemory as WithoutMemory}
use Rattle.doc_types.specs.Snapshots.{SnapshotValue}
use Rattle.doc_types.specs.declared.transactions.Txn.{Txn}
use Rattle.index_conf.specs.declared.conf.IndexConf.{IndexConf}
use Rattle.ql_tree.specs.declared.statement.Statement.{Statement}
use Rattle.ql_answers.specs.declared.event.Need.{Need}
use Rattle.ql_answers.specs.declared.event.Need.TheVariants as needs
use Rattle.ql_answers.specs.declared.state.State.{State}
use Rattle.ql_answers.specs.Replies.{Reply}
use Rattle.ql_answers.specs.Sessions.{Decides, Happened, next_of}
use Rattle.ql_session.specs.Events.{Event, Configured, Nothing, NoMemory, Read, Commit, Reshape}
use Rattle.ql_session.specs.Session.{Answers, statement_machine}
use Rattle.ql_session.specs.Statements.{AnswersText, AreAnswered, Meets, Replies, told}

-- a front that is its documents
abbrev pub itself : SnapshotValue → SnapshotValue
itself front = front

map_then : {A B : Type 0} (f : A → B) (xs ys : List A) → map f (xs ++ ys) ≡ map f xs ++ map f ys
map_then f [] ys = refl
map_then {A} {B} f (x ∷ xs) ys = ap (λ (rest : List B). f x ∷ rest) (map_then f xs ys)

module _ {F : Type 0} (documents : F → SnapshotValue) where
  -- the event with the documents of its front
  abbrev pub over : Event F → Event SnapshotValue
  over (Configured confs) = Configured confs
  over Nothing = Nothing
  over NoMemory = NoMemory
  over (Read place front) = Read place (documents front)
  over (Commit place ops outcome front) = Commit place ops outcome (documents front)
  over (Reshape place job outcome own front) = Reshape place job outcome (documents own) (documents front)

  told_over : (event : Event F) → told documents event ≡ told itself (over event)
  told_over (Configured confs) = refl
  told_over Nothing = refl
  told_over NoMemory = refl
  told_over (Read place front) = refl
  told_over (Commit place ops outcome front) = refl
  told_over (Reshape place job outcome own front) = refl

  meets_over : (need : Need) (pending : Option Txn) (event : Event F) → Meets need pending event → Meets need pending (over event)
  meets_over needs.Nothing pending (Configured confs) meets = absurd meets
  meets_over needs.Nothing pending Nothing meets = tt
  meets_over needs.Nothing pending NoMemory meets = absurd meets
  meets_over needs.Nothing pending (Read place front) meets = absurd meets
  meets_over needs.Nothing pending (Commit place ops outcome front) meets = absurd meets
  meets_over needs.Nothing pending (Reshape place job outcome own front) meets = absurd meets
  meets_over (needs.Read at) pending (Configured confs) meets = absurd meets
  meets_over (needs.Read at) pending Nothing meets = absurd meets
  meets_over (needs.Read at) pending NoMemory meets = absurd meets
  meets_over (needs.Read at) pending (Read place front) meets = meets
  meets_over (needs.Read at) pending (Commit place ops outcome front) meets = absurd meets
  meets_over (needs.Read at) pending (Reshape place job outcome own front) meets = absurd meets
  meets_over (needs.Commit at) pending (Configured confs) meets = absurd meets
  meets_over (needs.Commit at) pending Nothing meets = absurd meets
  meets_over (needs.Commit at) pending NoMemory meets = absurd meets
  meets_over (needs.Commit at) pending (Read place front) meets = absurd meets
  meets_over (needs.Commit at) pending (Commit place ops outcome front) meets = meets
  meets_over (needs.Commit at) pending (Reshape place job outcome own front) meets = absurd meets
  meets_over (needs.Reshape at does) pending (Configured confs) meets = absurd meets
  meets_over (needs.Reshape at does) pending Nothing meets = absurd meets
  meets_over (needs.Reshape at does) pending NoMemory meets = absurd meets
  meets_over (needs.Reshape at does) pending (Read place front) meets = absurd meets
  meets_over (needs.Reshape at does) pending (Commit place ops outcome front) meets = absurd meets
  meets_over (needs.Reshape at does) pending (Reshape place job outcome own front) meets = meets

  replies_over : (confs : List IndexConf) (old : State) (statement : Statement) (event : Event F) (reply : Reply) (new : State) → Replies documents confs old statement event reply new → Replies itself confs old statement (over event) reply new
  replies_over confs old statement event reply new (inl (refusal, refuses, is, says, stays)) = inl (refusal, refuses, ap over is, says, stays)
  replies_over confs old statement event reply new (inr (inl (plan, wants, meets, decides, next))) =
      inr (inl (plan, wants, meets_over _ _ event meets, subst (λ (h : Happened). Decides plan h reply) (told_over event) decides, next ∙ ap (λ (h : Happened). next_of plan h reply old) (told_over event)))
  replies_over confs old statement event reply new (inr (inr (takes, is, says, stays))) = inr (inr (takes, ap over is, says, stays))

  none_over : (events : List (Event F)) → events ≡ [] → map over events ≡ []
  none_over events none = ap (λ (es : List (Event F)). map over es) none

  answered_over : (confs : List IndexConf) (old : State) (seq : ℕ) (ended : Bool) (statements : List Statement) (events : List (Event F)) (bytes : List ℕ) (new : State)
      → AreAnswered documents confs old seq ended statements events bytes new → AreAnswered itself confs old seq ended statements (map over events) bytes new
  answered_over confs old seq true statements events bytes new (none, is, stays) = (none_over events none, is, stays)
  answered_over confs old seq false [] events bytes new (none, is, stays) = (none_over events none, is, stays)
  answered_over confs old seq false (statement ∷ statements) events bytes new (event, reply, mid, later, tail, replies, are, is, answered) =
      (over event, reply, mid, map over later, tail, replies_over confs old statement event reply mid replies, ap (λ (es : List (Event F)). map over es) are, is, answered_over confs mid _ _ statements later tail new answered)

  text_over : (old : State) (text : List ℕ) (events : List (Event F)) (bytes : List ℕ) (new : State) → AnswersText documents old text events bytes new → AnswersText itself old text (map over events) bytes new
  text_over old text events bytes new (inl (refusal, refuses, none, is, stays)) = inl (refusal, refuses, none_over events none, is, stays)
  text_over old text events bytes new (inr (inl (confs, statements, later, states, are, answered))) =
      inr (inl (confs, statements, map over later, states, ap (λ (es : List (Event F)). map over es) are, answered_over confs old 1 false statements later bytes new answered))
  text_over old text events bytes new (inr (inr (are, is, stays))) = inr (inr (ap (λ (es : List (Event F)). map over es) are, is, stays))

  answers_over : (old : State) (asked : ClientCommand) (events : List (Event F)) (bytes : List ℕ) (new : State) → Answers documents old asked events bytes new → Answers itself old asked (map over events) bytes new
  answers_over old asks_quit events bytes new answers = absurd answers
  answers_over old (Query text) events bytes new answers = text_over old text events bytes new answers
  answers_over old Ping events bytes new (none, is, stays) = (none_over events none, is, stays)
  answers_over old (InitDb name) events bytes new (none, is, stays) = (none_over events none, is, stays)
  answers_over old (SetOption option) events bytes new (none, is, stays) = (none_over events none, is, stays)
  answers_over old (Unknown code) events bytes new (none, is, stays) = (none_over events none, is, stays)

  abbrev turn_over : Turn (Event F) → Turn (Event SnapshotValue)
  turn_over turn = record { read = turn.read; written = turn.written; events = map over turn.events }

  step_over : (old : Phase State) (turn : Turn (Event F)) (new : Phase State) → Step (statement_machine documents) old turn new → Step (statement_machine itself) old (turn_over turn) new
  step_over (Opened connection start) turn (Opened connection' start') step = absurd step
  step_over (Opened connection start) turn (Greeted start') (reads, writes, none, same) = (reads, writes, none_over turn.events none, same)
  step_over (Opened connection start) turn (Talking state answered) step = absurd step
  step_over (Greeted start) turn (Opened connection' start') step = absurd step
  step_over (Greeted start) turn (Greeted start') step = absurd step
  step_over (Greeted start) turn (Talking new answered) (payload, response, takes, is, writes, none, same, zero) = (payload, response, takes, is, writes, none_over turn.events none, same, zero)
  step_over (Talking old answered) turn (Opened connection' start') step = absurd step
  step_over (Talking old answered) turn (Greeted start') step = absurd step
  step_over (Talking old answered) turn (Talking new answered') (payload, few, takes, stays, answers, next) = (payload, few, takes, stays, answers_over old _ turn.events turn.written new answers, next)

  run_over : (old : Phase State) (turns : List (Turn (Event F))) (new : Phase State) → Run (statement_machine documents) old turns new → Run (statement_machine itself) old (map turn_over turns) new
  run_over old [] new run = run
  run_over old (turn ∷ turns) new (next, step, run) = (next, step_over old turn next step, run_over next turns new run)

  abbrev finish_over : Finish State (Event F) → Finish State (Event SnapshotValue)
  finish_over at = record { phase = at.phase; rest = at.rest; last = at.last; events = map over at.events }

  stops_over : (before now : Meters) (end : LinkEnd) (at : Finish State (Event F)) → EndsByClient end → Stops (statement_machine documents) before now end at → Stops (statement_machine itself) before now end (finish_over at)
  stops_over before now Quit at client (payload, after, listens, zero, begins, quits, (last, none)) = (payload, after, listens, zero, begins, quits, (last, none_over at.events none))
  stops_over before now End at client (listens, ended, empty, (last, none)) = (listens, ended, empty, (last, none_over at.events none))
  stops_over before now Truncated at client (listens, ended, some, part, (last, none)) = (listens, ended, some, part, (last, none_over at.events none))
  stops_over before now (BadHandshake place) at client (refuses, none) = (refuses, none_over at.events none)
  stops_over before now (TooLarge size) at client (refuses, none) = (refuses, none_over at.events none)
  stops_over before now (OutOfOrder seq) at client (refuses, none) = (refuses, none_over at.events none)
  stops_over before now ReadFault at client stops = absurd client
  stops_over before now WriteFault at client stops = absurd client
  stops_over before now Worn at client (state, is, (last, none)) = (state, is, (last, none_over at.events none))
  stops_over before now WithoutMemory at client stops = absurd client

  reads_over : (turns : List (Turn (Event F))) → flat_map (λ (t : Turn (Event SnapshotValue)). t.read) (map turn_over turns) ≡ flat_map (λ (t : Turn (Event F)). t.read) turns
  reads_over [] = refl
  reads_over (turn ∷ turns) = ap (λ (rest : List ℕ). turn.read ++ rest) (reads_over turns)

  writes_over : (turns : List (Turn (Event F))) → flat_map (λ (t : Turn (Event SnapshotValue)). t.written) (map turn_over turns) ≡ flat_map (λ (t : Turn (Event F)). t.written) turns
  writes_over [] = refl
  writes_over (turn ∷ turns) = ap (λ (rest : List ℕ). turn.written ++ rest) (writes_over turns)

  events_over : (turns : List (Turn (Event F))) → flat_map (λ (t : Turn (Event SnapshotValue)). t.events) (map turn_over turns) ≡ map over (flat_map (λ (t : Turn (Event F)). t.events) turns)
  events_over [] = refl
  events_over (turn ∷ turns) = ap (λ (rest : List (Event SnapshotValue)). map over turn.events ++ rest) (events_over turns) ∙ sym (map_then over turn.events (flat_map (λ (t : Turn (Event F)). t.events) turns))

  -- a line over fronts, and one over their documents
  pub line_over : (before now : Meters) (end : LinkEnd) (old : Phase State) (held read written : List ℕ) (events : List (Event F)) → EndsByClient end → Ends (statement_machine documents) before now end old held read written events
      → Ends (statement_machine itself) before now end old held read written (map over events)
  line_over before now end old held read written events client ends = record {
    turns = map turn_over ends.turns;
    at = finish_over ends.at;
    run = run_over old ends.turns ends.at.phase ends.run;
    stops = stops_over before now end ends.at client ends.stops;
    is_read = ends.is_read ∙ ap (λ (bytes : List ℕ). bytes ++ ends.at.rest) (sym (reads_over ends.turns));
    is_written = ends.is_written ∙ ap (λ (bytes : List ℕ). bytes ++ ends.at.last) (sym (writes_over ends.turns));
    happened = ap (λ (es : List (Event F)). map over es) ends.happened ∙ map_then over (flat_map (λ (t : Turn (Event F)). t.events) ends.turns) ends.at.events
        ∙ ap (λ (es : List (Event SnapshotValue)). es ++ map over ends.at.events) (sym (events_over ends.turns));
  }

  -- its turns are those over fronts
  pub line_turns : (before now : Meters) (end : LinkEnd) (old : Phase State) (held read written : List ℕ) (events : List (Event F)) (client : EndsByClient end) (ends : Ends (statement_machine documents) before now end old held read written events)
      → (line_over before now end old held read written events client ends).turns ≡ map turn_over ends.turns
  unfolding line_over
  line_turns before now end old held read written events client ends = refl
