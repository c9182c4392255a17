-- What the end of the engine says of the selftest's worker, where all was well: the history has its commits and no others.
use Rattle.std.proofs.Common.{◌≡◌, inl, inr, ◌≤◌, ℕ, ◌+◌, false, List, [], ◌∷◌, ◌++◌, Option, Some, None, All, length, refl, sym, ap, subst, ◌∙◌, arith, append-nil, length-append}
use Rattle.std.specs.Prelude.{slice_get}
use Rattle.std.specs.List.{AllByRecursion, AllZip}
use Rattle.std.specs.Option.{option_to_list}
use Rattle.std.proofs.lemmas.List.Elements.{recursion_from_All}
use mathlib.Core.List.{IsPrefix}
use Rattle.commit_outcomes.specs.declared.strayed.Strayed.{Strayed}
use Rattle.doc_types.specs.Rows.{rows_of}
use Rattle.doc_types.specs.Snapshots.{live}
use Rattle.doc_types.specs.declared.documents.DocRow.{DocRow}
use Rattle.doc_types.specs.declared.schema.Schema.{Schema}
use Rattle.index_conf.specs.declared.conf.IndexConf.{IndexConf}
use Rattle.ql_answers.specs.declared.state.State.{State}
use Rattle.ql_answers.specs.States.{new_state}
use Rattle.ql_session.specs.Events.{Event, Read}
use Rattle.ql_session.specs.Machines.{FollowAll}
use Rattle.step_book.specs.Fronts.{FrontValue}
use Rattle.step_history.specs.History.{Base, Commit, IsGood, Reshape, Step, commits, last_snapshot, made_by}
use Rattle.step_history.proofs.Counts.{add_up}
use Rattle.step_line.specs.Lines.{AreBy, IsBy, LineValue, entered, with_waiting}
use Rattle.step_tokens.specs.Tokens.{TokenValue}
use Rattle.store_keep.specs.Tellings.{HasSeenAll}
use Rattle.engine_tables.specs.Tokens.{new_seat, told_at, told_of, tokens_at}
use Rattle.engine_tables.specs.Workers.{WorkerValue, documents_of}
use Rattle.self_test.specs.Asking.{Telling}
use Rattle.self_test.specs.Conversations.{loading}
use Rattle.self_test.specs.Own.{IsEmpty, IsOwn}
use Rattle.self_test.specs.declared.generator.Document.{Document}
use Rattle.self_test.proofs.Inserting.{wrote_none}
use Rattle.self_test.proofs.Knowing.{AreOwn, commits_then, known_rows, made_all}
use Rattle.step_book.proofs.Prefixes.{prefix_self, prefix_trans}
use Rattle.self_test.proofs.Scripts.{AreAllDone, GoSomeAstray, loading_script, script_done, script_never}
use Rattle.self_test.proofs.Seated.{Led, Moves, Seat, at_place, one_led, onward_none, onward_then, settled}
use Rattle.self_test.proofs.Standing.{AreDrawn, IsAhead, Rests, Stands, ahead_before, same_seat}

-- the worker's tokens before all
abbrev pub first_worker : IndexConf → WorkerValue
first_worker conf = record { confs = conf ∷ []; tokens = new_seat 1 1 }

abbrev pub first_seat : (conf : IndexConf) → Seat (first_worker conf)
first_seat conf = record { token = record { index = 0; worker = 1; seen = []; made = 0; faults = []; stops = []; entered = None }; had = None; list = refl; told = refl }

pub first_stands : (conf : IndexConf) → Stands conf [] [] false new_state (first_worker conf)
first_stands conf = record {
  known = [];
  list = [];
  rests = record { confs = refl; seat = first_seat conf; knows = record { worker = refl; before = prefix_self []; wrote = wrote_none; made = refl }; are = tt };
  docs = [];
  wait = tt;
  drawn = tt;
  state_is = refl;
}

-- Commits by the first of one worker.

own_by : (steps more : List Step) → AllByRecursion (IsBy 1) (steps ++ more) → AreOwn (commits steps)
own_by [] more by = tt
own_by (Commit entry snapshot ∷ steps) more by = (omega (arith, by.0.0, by.0.1), own_by steps more by.1)
own_by (Reshape job through snapshot ∷ steps) more by = own_by steps more by.1

commits_up : (steps history : List Step) → IsPrefix steps history → length (commits steps) ≤ length (commits history)
commits_up steps history begins =
    let cut : commits history ≡ commits steps ++ commits begins.0 = ap (λ (s : List Step). commits s) (sym begins.1) ∙ commits_then steps begins.0 in
    omega (arith, ap length cut, length-append (commits steps) (commits begins.0))

one_zip : {X Y : Type 0} (P : X → Y → Type 0) (x : X) (ys : List Y) → AllZip P (x ∷ []) ys → (y : Y) × P x y
one_zip P x [] zip = absurd zip
one_zip P x (y ∷ ys) zip = (y, zip.0)

none_told : (had : Option Strayed) → told_of (Some had) ++ [] ≡ [] → had ≡ None
none_told None none = refl
none_told (Some numbers) none = absurd (cc none)

waiting_behind : (steps : List Step) (waiting : Option Step) → (more : List Step) × (with_waiting steps waiting ≡ steps ++ more)
waiting_behind steps None = ([], sym (append-nil steps))
waiting_behind steps (Some step) = (step ∷ [], refl)

-- What the end says of the history of a line, by the token that a worker left.
pub record IsOver (history : List Step) (worker : WorkerValue) : Type 0 where
  pub ahead : IsAhead history worker
  pub own : AreOwn (commits history)
  pub most : length (commits history) ≤ ahead.seat.token.made

module _ (schema : ℕ → Schema) (base : ℕ → Base) where
  -- events lead the worker on
  pub all_led : (old new : WorkerValue) (events : List (Event FrontValue)) (seat : Seat old) → FollowAll (Moves schema base) old events new → Led schema base old seat.token seat.had new
  all_led old new [] seat follows = record {
    confs = ap (λ (w : WorkerValue). w.confs) follows;
    seat = record { token = seat.token; had = seat.had; list = ap (λ (w : WorkerValue). w.tokens.list) follows ∙ seat.list; told = ap (λ (w : WorkerValue). w.tokens.told) follows ∙ seat.told };
    onward = onward_none seat.token seat.had;
  }
  all_led old new (event ∷ events) seat follows =
      let first = one_led schema base old follows.0 event seat follows.1 in
      let rest = all_led follows.0 new events first.seat follows.2 in
      record { confs = rest.confs ∙ first.confs; seat = rest.seat; onward = onward_then seat.token first.seat.token rest.seat.token seat.had first.seat.had rest.seat.had first.onward rest.onward }

  -- what the end of the engine says
  pub over_by : (line : LineValue) (left : WorkerValue) (seat : Seat left) (new : List TokenValue) → seat.token.worker ≡ 1 → line.workers ≡ 1 → AreBy line → told_at 0 (left.tokens ∷ []) ≡ []
      → AllZip (HasSeenAll line) (tokens_at 0 (left.tokens ∷ [])) new → IsOver line.history left
  over_by line left seat new worker one by untold seen =
      let tokens : tokens_at 0 (left.tokens ∷ []) ≡ seat.token ∷ [] = ap (λ (list : List TokenValue). option_to_list (slice_get list 0) ++ []) seat.list in
      let (last, has) = one_zip (HasSeenAll line) seat.token new (subst (λ (list : List TokenValue). AllZip (HasSeenAll line) list new) tokens seen) in
      let none : seat.had ≡ None = none_told seat.had (sym (ap (λ (list : List (Option Strayed)). told_of (slice_get list 0) ++ []) seat.told) ∙ untold) in
      let (more, behind) = waiting_behind line.history line.waiting in
      let by_one : All (IsBy 1) (line.history ++ more) = subst (λ (steps : List Step). All (IsBy 1) steps) behind (subst (λ (n : ℕ). All (IsBy n) (entered line)) one by) in
      let own : AreOwn (commits line.history) = own_by line.history more (recursion_from_All (IsBy 1) (line.history ++ more) by_one) in
      let counts : seat.token.made ≡ made_by 1 line.history + made_by 1 more =
      has.counts ∙ ap (λ (w : ℕ). made_by w (entered line)) worker ∙ ap (λ (steps : List Step). made_by 1 steps) behind ∙ add_up 1 line.history more in
      record {
        ahead = record { seat = seat; begins = has.before; untold = none };
        own = own;
        most = omega (arith, counts, made_all line.history line.history (prefix_self line.history) own);
      }

  done_seat : (history : List Step) (tellings : List Telling) (old new : State) (before left : WorkerValue) → Seat before → AreAllDone schema base history tellings old before new left → Seat left
  done_seat history [] old new before left seat done = subst Seat (sym done.1) seat
  done_seat history (telling ∷ tellings) old new before left seat (mid, between, one, rest) =
      done_seat history tellings mid new between left (one_led schema base before between one.replied.told.event seat one.replied.told.follows).seat rest

  astray_seat : (history : List Step) (tellings : List Telling) (old new : State) (before left : WorkerValue) → Seat before → GoSomeAstray schema base history tellings old before new left → Seat left
  astray_seat history [] old new before left seat gone = absurd gone
  astray_seat history (telling ∷ tellings) old new before left seat (inl (same, one)) = (one_led schema base before left one.replied.told.event seat one.replied.told.follows).seat
  astray_seat history (telling ∷ tellings) old new before left seat (inr (mid, between, one, rest)) =
      astray_seat history tellings mid new between left (one_led schema base before between one.replied.told.event seat one.replied.told.follows).seat rest

module _ (schema : ℕ → Schema) (base : ℕ → Base) (history : List Step) (conf : IndexConf) (is : IsOwn conf) (empty : IsEmpty (base 0)) (documents : List Document) (drawn : AreDrawn documents) (few : length documents ≤ 100000)
    (left : WorkerValue) (over : IsOver history left) where
  -- where the documents were written, they are all that was
  pub written : (state : State) (between : WorkerValue) (events : List (Event FrontValue)) → AreAllDone schema base history (loading documents) new_state (first_worker conf) state between
      → FollowAll (Moves schema base) between events left → Stands conf documents [] false state between
  written state between events done follows =
      let seat = done_seat schema base history (loading documents) new_state state (first_worker conf) between (first_seat conf) done in
      let ahead = ahead_before schema base history between left seat (all_led schema base between left events seat follows) over.ahead in
      script_done schema base history conf is over.own empty [] [] false (loading documents) documents (loading_script documents drawn few) new_state state (first_worker conf) between (first_stands conf) done ahead

  -- no statement that writes them goes astray but a job
  pub never_astray : (state : State) (between : WorkerValue) (events : List (Event FrontValue)) → GoSomeAstray schema base history (loading documents) new_state (first_worker conf) state between
      → FollowAll (Moves schema base) between events left → ⊥
  never_astray state between events gone follows =
      let seat = astray_seat schema base history (loading documents) new_state state (first_worker conf) between (first_seat conf) gone in
      let ahead = ahead_before schema base history between left seat (all_led schema base between left events seat follows) over.ahead in
      script_never schema base history conf is over.own empty [] [] false (loading documents) documents (loading_script documents drawn few) new_state state (first_worker conf) between (first_stands conf) gone ahead

  -- the documents of a front that is read then are these
  pub front_rows : (known : List Step) (list : List DocRow) (before after : WorkerValue) (place : ℕ) (front : FrontValue) (events : List (Event FrontValue)) → Rests conf known list documents before → Moves schema base before (Read place front) after
      → FollowAll (Moves schema base) after events left → Rests conf known list documents left → live (documents_of base front) ≡ rows_of list
  front_rows known list before after place front events rests reads follows ended =
      let has = reads.1 in
      let next = settled before after rests.seat reads.0.1 in
      let (here, same) = at_place after.tokens.list next.seat.token has.token place next.seat.list has.at in
      let steps : front.steps ≡ next.seat.token.seen = ap (λ (f : FrontValue). f.steps) has.is ∙ ap (λ (t : TokenValue). t.seen) (sym same) in
      let begins : IsPrefix known front.steps = subst (λ (s : List Step). IsPrefix known s) (sym steps) (prefix_trans known rests.seat.token.seen next.seat.token.seen rests.knows.before next.grows.seen) in
      let ahead = ahead_before schema base history after left next.seat (all_led schema base after left events next.seat follows) over.ahead in
      let goes : IsPrefix front.steps history = subst (λ (s : List Step). IsPrefix s history) (ap (λ (t : TokenValue). t.seen) (sym (same_seat after next.seat ahead.seat).0) ∙ sym steps) ahead.begins in
      let good : IsGood (schema 0) (base 0) front.steps = subst (λ (n : ℕ). IsGood (schema n) (base n) front.steps) here has.good in
      let made : over.ahead.seat.token.made ≡ ended.seat.token.made = ap (λ (t : TokenValue). t.made) (same_seat left over.ahead.seat ended.seat).0 in
      let least : length (commits front.steps) ≤ rests.seat.token.made = omega (arith, commits_up front.steps history goes, over.most, made, ended.knows.made, rests.knows.made) in
      ap (λ (n : ℕ). live (last_snapshot (base n) front.steps)) (has.of ∙ here) ∙ known_rows (schema 0) (base 0) known front.steps list rests.seat.token empty rests.knows begins good least

-- What the end of an engine says of its line where all was well, by the tokens that came to it and what was told beside them.
pub record Closed (told : List Strayed) (tokens : List TokenValue) (workers : ℕ) : Type 0 where
  pub line : LineValue
  pub workers_are : line.workers ≡ workers
  pub by : AreBy line
  pub untold : told ≡ []
  pub new : List TokenValue
  pub seen : AllZip (HasSeenAll line) tokens new

-- The engine of one worker, who began with its first token, ended well.
pub closed_over : (schema : ℕ → Schema) (base : ℕ → Base) (conf : IndexConf) (left : WorkerValue) (events : List (Event FrontValue)) → FollowAll (Moves schema base) (first_worker conf) events left
    → Closed (told_at 0 (left.tokens ∷ [])) (tokens_at 0 (left.tokens ∷ [])) 1 → (history : List Step) × IsOver history left
closed_over schema base conf left events follows closed =
    let led = all_led schema base (first_worker conf) left events (first_seat conf) follows in
    (closed.line.history, over_by schema base closed.line left led.seat closed.new led.onward.worker closed.workers_are closed.by closed.untold closed.seen)
