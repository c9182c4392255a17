-- The token of the one worker of an engine of one index, from event to event.
use Rattle.std.proofs.Common.{◌≡◌, inl, inr, ℕ, zero, suc, List, [], ◌∷◌, Option, Some, None, refl, sym, ap, subst, ◌∙◌}
use Rattle.std.specs.Prelude.{slice_get, slice_set}
use Rattle.std.specs.List.{AllZip}
use Rattle.std.specs.Option.{option_or}
use Rattle.std.proofs.lemmas.Option.{same_Some}
use mathlib.Core.List.{IsPrefix}
use Rattle.commit_outcomes.specs.declared.outcome.CommitOutcome.{CommitOutcome}
use Rattle.commit_outcomes.specs.declared.outcome.CommitOutcome.TheVariants as outcomes
use Rattle.commit_outcomes.specs.declared.strayed.Strayed.{Strayed}
use Rattle.doc_types.specs.declared.schema.Schema.{Schema}
use Rattle.doc_types.specs.declared.transactions.TxnOp.{TxnOp}
use Rattle.ql_answers.specs.declared.job_outcome.JobOutcome.{JobOutcome}
use Rattle.ql_answers.specs.declared.job_outcome.JobOutcome.TheVariants as job_outcomes
use Rattle.ql_session.specs.Events.{Commit, Configured, Event, Follows, NoMemory, Nothing, Read, Reshape}
use Rattle.step_book.specs.Fronts.{FrontValue}
use Rattle.step_history.specs.History.{Base, Step}
use Rattle.step_history.specs.declared.job.Job.{Job}
use Rattle.step_tokens.specs.Tokens.{TokenValue}
use Rattle.snap_share.specs.Answers.{Stays}
use Rattle.engine_tables.specs.Outcomes.{Tells, TellsEnd, TellsJob, numbers_of, numbers_of_job}
use Rattle.engine_tables.specs.Tokens.{TokensValue}
use Rattle.engine_tables.specs.Workers.{CommitsBy, GrowAll, Grows, ReshapesBy, WorkerValue, by_tokens}
use Rattle.step_book.proofs.Prefixes.{prefix_self, prefix_trans}

-- A worker of one index has one token, and was told this of it.
pub record Seat (worker : WorkerValue) : Type 0 where
  pub token : TokenValue
  pub had : Option Strayed
  pub list : worker.tokens.list ≡ token ∷ []
  pub told : worker.tokens.told ≡ had ∷ []

-- What the token has seen goes on, whose it is stays, and so does a contradiction that was told.
pub record Onward (old new : TokenValue) (had later : Option Strayed) : Type 0 where
  pub worker : new.worker ≡ old.worker
  pub seen : IsPrefix old.seen new.seen
  pub untold : later ≡ None → had ≡ None

pub onward_then : (a b c : TokenValue) (first second third : Option Strayed) → Onward a b first second → Onward b c second third → Onward a c first third
onward_then a b c first second third one next = record {
  worker = next.worker ∙ one.worker;
  seen = prefix_trans a.seen b.seen c.seen one.seen next.seen;
  untold = λ none. one.untold (next.untold none);
}

pub onward_none : (a : TokenValue) (had : Option Strayed) → Onward a a had had
onward_none a had = record { worker = refl; seen = prefix_self a.seen; untold = λ none. none }

one_grown : (token : TokenValue) (list : List TokenValue) → AllZip Grows (token ∷ []) list → (new : TokenValue) × (list ≡ new ∷ []) × Grows token new
one_grown token [] zip = absurd zip
one_grown token (new ∷ []) zip = (new, refl, zip.0)
one_grown token (new ∷ other ∷ list) zip = absurd zip.1

-- Earlier calls were settled: the token may have seen more.
pub record Settled (old : TokenValue) (had : Option Strayed) (worker : WorkerValue) : Type 0 where
  pub seat : Seat worker
  pub grows : Grows old seat.token
  pub same : seat.had ≡ had

pub settled : (old new : WorkerValue) (seat : Seat old) → GrowAll old.tokens new.tokens → Settled seat.token seat.had new
settled old new seat grows =
    let (token, list, grown) = one_grown seat.token new.tokens.list (subst (λ (l : List TokenValue). AllZip Grows l new.tokens.list) seat.list grows.1) in
    record { seat = record { token = token; had = seat.had; list = list; told = grows.2 ∙ seat.told }; grows = grown; same = refl }

pub grows_onward : (old new : TokenValue) (had later : Option Strayed) → Grows old new → later ≡ had → Onward old new had later
grows_onward old new had later grows same = record { worker = ap (λ (t : TokenValue). t.worker) grows.is; seen = grows.seen; untold = λ none. sym same ∙ none }

stays_onward : (old new : TokenValue) → Stays old new → IsPrefix old.seen new.seen
stays_onward old new stays = subst (λ (s : List Step). IsPrefix old.seen s) (sym (ap (λ (t : TokenValue). t.seen) stays)) (prefix_self old.seen)

module _ (schema : Schema) (base : Base) (old new : TokenValue) where
  tells_seen : (ops : List TxnOp) (outcome : CommitOutcome) → Tells schema base old ops outcome new → (new.worker ≡ old.worker) × IsPrefix old.seen new.seen
  tells_seen ops (outcomes.Committed removed) tells = (ap (λ (t : TokenValue). t.worker) tells.0.is, tells.0.seen)
  tells_seen ops (outcomes.Duplicate id) tells = (ap (λ (t : TokenValue). t.worker) tells.0.is, tells.0.seen)
  tells_seen ops (outcomes.Full full) tells = (ap (λ (t : TokenValue). t.worker) tells.0.is, tells.0.seen)
  tells_seen ops outcomes.Refused tells = (ap (λ (t : TokenValue). t.worker) tells.is, tells.seen)
  tells_seen ops (outcomes.InDoubt doubt) tells = (ap (λ (t : TokenValue). t.worker) tells.0.is, tells.0.seen)
  tells_seen ops (outcomes.Strayed numbers) tells = (ap (λ (t : TokenValue). t.worker) tells.0, stays_onward old new tells.0)

  ends_seen : (job : Job) (outcome : JobOutcome) → TellsEnd schema base old job outcome new → (new.worker ≡ old.worker) × IsPrefix old.seen new.seen
  ends_seen job job_outcomes.Shaped tells = (ap (λ (t : TokenValue). t.worker) tells.0.is, tells.0.seen)
  ends_seen job (job_outcomes.Overtaken shape) tells = (ap (λ (t : TokenValue). t.worker) tells.0.is, tells.0.seen)
  ends_seen job (job_outcomes.Full full) tells = (ap (λ (t : TokenValue). t.worker) tells.0.is, tells.0.seen)
  ends_seen job job_outcomes.Refused tells = (ap (λ (t : TokenValue). t.worker) tells.is, tells.seen)
  ends_seen job job_outcomes.InDoubt tells = (ap (λ (t : TokenValue). t.worker) tells.0.is, tells.0.seen)
  ends_seen job (job_outcomes.Strayed numbers) tells = (ap (λ (t : TokenValue). t.worker) tells.0, stays_onward old new tells.0)

  same_seen : new ≡ old → (new.worker ≡ old.worker) × IsPrefix old.seen new.seen
  same_seen same = (ap (λ (t : TokenValue). t.worker) same, subst (λ (t : TokenValue). IsPrefix old.seen t.seen) (sym same) (prefix_self old.seen))

  job_seen : (job : Job) (outcome : JobOutcome) → TellsJob schema base old job outcome new → (new.worker ≡ old.worker) × IsPrefix old.seen new.seen
  job_seen job outcome (inl (room, tells)) = ends_seen job outcome tells
  job_seen job (job_outcomes.Full full) (inr none) = same_seen none.1
  job_seen job job_outcomes.Shaped (inr none) = absurd none
  job_seen job (job_outcomes.Overtaken shape) (inr none) = absurd none
  job_seen job job_outcomes.Refused (inr none) = absurd none
  job_seen job job_outcomes.InDoubt (inr none) = absurd none
  job_seen job (job_outcomes.Strayed numbers) (inr none) = absurd none

or_none : (had next : Option Strayed) → option_or had next ≡ None → had ≡ None
or_none None next none = refl
or_none (Some numbers) next none = none

pub or_next : (had next : Option Strayed) → option_or had next ≡ None → next ≡ None
or_next None next none = none
or_next (Some numbers) next none = absurd (cc none)

-- the one element of a list that stands at a place
pub at_place : {X : Type 0} (list : List X) (x y : X) (place : ℕ) → list ≡ x ∷ [] → slice_get list place ≡ Some y → (place ≡ 0) × (x ≡ y)
at_place list x y zero one at = (refl, same_Some x y (sym (ap (λ (l : List _). slice_get l 0) one) ∙ at))
at_place list x y (suc place) one at = absurd (cc (sym (ap (λ (l : List _). slice_get l (suc place)) one) ∙ at))

module _ (schema : ℕ → Schema) (base : ℕ → Base) where
  -- A commit of the worker led its token on.
  pub record Committed (old : TokenValue) (had : Option Strayed) (ops : List TxnOp) (outcome : CommitOutcome) (worker : WorkerValue) : Type 0 where
    pub seat : Seat worker
    pub tells : Tells (schema 0) (base 0) old ops outcome seat.token
    pub later : seat.had ≡ option_or had (numbers_of outcome)

  pub committed : (mid new : WorkerValue) (seat : Seat mid) (place : ℕ) (ops : List TxnOp) (outcome : CommitOutcome) (front : FrontValue) → CommitsBy schema base mid.tokens place ops outcome front new.tokens
      → Committed seat.token seat.had ops outcome new
  committed mid new seat place ops outcome front commits =
      let (here, same) = at_place mid.tokens.list seat.token commits.before place seat.list commits.at in
      let (again, had) = at_place mid.tokens.told seat.had commits.had place seat.told commits.told in
      let list : new.tokens.list ≡ commits.after ∷ [] =
      ap (λ (t : TokensValue). t.list) commits.left ∙ ap (λ (l : List TokenValue). slice_set l place commits.after) seat.list ∙ ap (λ (n : ℕ). slice_set (seat.token ∷ []) n commits.after) here in
      let told : new.tokens.told ≡ option_or seat.had (numbers_of outcome) ∷ [] =
      ap (λ (t : TokensValue). t.told) commits.left ∙ ap (λ (l : List (Option Strayed)). slice_set l place (option_or commits.had (numbers_of outcome))) seat.told
      ∙ ap (λ (n : ℕ). slice_set (seat.had ∷ []) n (option_or commits.had (numbers_of outcome))) here ∙ ap (λ (o : Option Strayed). option_or o (numbers_of outcome) ∷ []) (sym had) in
      record {
        seat = record { token = commits.after; had = option_or seat.had (numbers_of outcome); list = list; told = told };
        tells = subst (λ (t : TokenValue). Tells (schema 0) (base 0) t ops outcome commits.after) (sym same)
            (subst (λ (n : ℕ). Tells (schema n) (base n) commits.before ops outcome commits.after) here commits.tells);
        later = refl;
      }

  -- So did a job.
  pub record Reshaped (old : TokenValue) (had : Option Strayed) (job : Job) (outcome : JobOutcome) (worker : WorkerValue) : Type 0 where
    pub seat : Seat worker
    pub tells : TellsJob (schema 0) (base 0) old job outcome seat.token
    pub later : seat.had ≡ option_or had (numbers_of_job outcome)

  pub reshaped : (mid new : WorkerValue) (seat : Seat mid) (place : ℕ) (job : Job) (outcome : JobOutcome) (own front : FrontValue) → ReshapesBy schema base mid.tokens place job outcome own front new.tokens
      → Reshaped seat.token seat.had job outcome new
  reshaped mid new seat place job outcome own front reshapes =
      let (here, same) = at_place mid.tokens.list seat.token reshapes.before place seat.list reshapes.at in
      let (again, had) = at_place mid.tokens.told seat.had reshapes.had place seat.told reshapes.told in
      let list : new.tokens.list ≡ reshapes.after ∷ [] =
      ap (λ (t : TokensValue). t.list) reshapes.left ∙ ap (λ (l : List TokenValue). slice_set l place reshapes.after) seat.list ∙ ap (λ (n : ℕ). slice_set (seat.token ∷ []) n reshapes.after) here in
      let told : new.tokens.told ≡ option_or seat.had (numbers_of_job outcome) ∷ [] =
      ap (λ (t : TokensValue). t.told) reshapes.left ∙ ap (λ (l : List (Option Strayed)). slice_set l place (option_or reshapes.had (numbers_of_job outcome))) seat.told
      ∙ ap (λ (n : ℕ). slice_set (seat.had ∷ []) n (option_or reshapes.had (numbers_of_job outcome))) here ∙ ap (λ (o : Option Strayed). option_or o (numbers_of_job outcome) ∷ []) (sym had) in
      record {
        seat = record { token = reshapes.after; had = option_or seat.had (numbers_of_job outcome); list = list; told = told };
        tells = subst (λ (t : TokenValue). TellsJob (schema 0) (base 0) t job outcome reshapes.after) (sym same)
            (subst (λ (n : ℕ). TellsJob (schema n) (base n) reshapes.before job outcome reshapes.after) here reshapes.tells);
        later = refl;
      }

  pub committed_onward : (mid new : WorkerValue) (seat : Seat mid) (ops : List TxnOp) (outcome : CommitOutcome) (led : Committed seat.token seat.had ops outcome new) → Onward seat.token led.seat.token seat.had led.seat.had
  committed_onward mid new seat ops outcome led =
      let seen = tells_seen (schema 0) (base 0) seat.token led.seat.token ops outcome led.tells in
      record { worker = seen.0; seen = seen.1; untold = λ none. or_none seat.had (numbers_of outcome) (sym led.later ∙ none) }

  pub reshaped_onward : (mid new : WorkerValue) (seat : Seat mid) (job : Job) (outcome : JobOutcome) (led : Reshaped seat.token seat.had job outcome new) → Onward seat.token led.seat.token seat.had led.seat.had
  reshaped_onward mid new seat job outcome led =
      let seen = job_seen (schema 0) (base 0) seat.token led.seat.token job outcome led.tells in
      record { worker = seen.0; seen = seen.1; untold = λ none. or_none seat.had (numbers_of_job outcome) (sym led.later ∙ none) }

  abbrev pub Moves : WorkerValue → Event FrontValue → WorkerValue → Type 0
  Moves = Follows (λ (worker : WorkerValue). worker.confs) (by_tokens schema base)

  -- Events led the worker on, whose indexes stay.
  pub record Led (old : WorkerValue) (token : TokenValue) (had : Option Strayed) (new : WorkerValue) : Type 0 where
    pub confs : new.confs ≡ old.confs
    pub seat : Seat new
    pub onward : Onward token seat.token had seat.had

  led_same : (old new : WorkerValue) (seat : Seat old) → new ≡ old → Led old seat.token seat.had new
  led_same old new seat same = record {
    confs = ap (λ (w : WorkerValue). w.confs) same;
    seat = record { token = seat.token; had = seat.had; list = ap (λ (w : WorkerValue). w.tokens.list) same ∙ seat.list; told = ap (λ (w : WorkerValue). w.tokens.told) same ∙ seat.told };
    onward = onward_none seat.token seat.had;
  }

  led_settled : (old new : WorkerValue) (seat : Seat old) → new.confs ≡ old.confs → GrowAll old.tokens new.tokens → Led old seat.token seat.had new
  led_settled old new seat confs grows =
      let next = settled old new seat grows in
      record { confs = confs; seat = next.seat; onward = grows_onward seat.token next.seat.token seat.had next.seat.had next.grows next.same }

  -- one event leads a worker on
  pub one_led : (old new : WorkerValue) (event : Event FrontValue) (seat : Seat old) → Moves old event new → Led old seat.token seat.had new
  one_led old new (Configured confs) seat follows = led_same old new seat follows.1
  one_led old new Nothing seat follows = led_same old new seat follows
  one_led old new NoMemory seat follows = led_settled old new seat follows.0 follows.1
  one_led old new (Read place front) seat follows = led_settled old new seat follows.0.0 follows.0.1
  one_led old new (Commit place ops outcome front) seat follows =
      let mid = follows.0 in
      let next = settled old mid seat follows.1.1 in
      let led = committed mid new next.seat place ops outcome front follows.2.1 in record {
        confs = follows.2.0 ∙ follows.1.0;
        seat = led.seat;
        onward = onward_then seat.token next.seat.token led.seat.token seat.had next.seat.had led.seat.had (grows_onward seat.token next.seat.token seat.had next.seat.had next.grows next.same)
            (committed_onward mid new next.seat ops outcome led);
      }
  one_led old new (Reshape place job outcome own front) seat follows =
      let mid = follows.0 in
      let next = settled old mid seat follows.1.1 in
      let led = reshaped mid new next.seat place job outcome own front follows.3.1 in record {
        confs = follows.3.0 ∙ follows.1.0;
        seat = led.seat;
        onward = onward_then seat.token next.seat.token led.seat.token seat.had next.seat.had led.seat.had (grows_onward seat.token next.seat.token seat.had next.seat.had next.grows next.same)
            (reshaped_onward mid new next.seat job outcome led);
      }
