-- What the events of a worker's lines tell of an index whose history strayed: the first of it stands beside its token.
use Rattle.std.proofs.Common.{◌≡◌, ◌⊎◌, inl, inr, ℕ, List, [], ◌∷◌, set, Option, Some, None, slice_get, refl, sym, ap, ◌∙◌}
use Rattle.std.specs.Option.{option_or}
use Rattle.std.proofs.lemmas.Bool.{cases_eq, eq-eqb, ne_eqb}
use Rattle.commit_outcomes.specs.declared.outcome.CommitOutcome.{CommitOutcome}
use Rattle.commit_outcomes.specs.declared.strayed.Strayed.{Strayed}
use Rattle.doc_types.specs.declared.schema.Schema.{Schema}
use Rattle.doc_types.specs.declared.transactions.TxnOp.{TxnOp}
use Rattle.step_book.specs.Fronts.{FrontValue}
use Rattle.step_history.specs.History.{Base}
use Rattle.ql_session.specs.Events.{Event, Configured, Nothing, NoMemory, Read, Commit, Reshape}
use Rattle.ql_session.specs.JobOutcome.{JobOutcome}
use Rattle.step_history.specs.declared.job.Job.{Job}
use Rattle.ql_session.specs.Machines.{FollowAll}
use Rattle.engine_tables.specs.Outcomes.{numbers_of, numbers_of_job}
use Rattle.engine_tables.specs.Tokens.{TokensValue}
use Rattle.engine_tables.specs.Workers.{CommitsBy, ReshapesBy, WorkerValue}
use Rattle.line_workers.specs.Attempts.{stray_in, told_by}
use Rattle.line_workers.proofs.Moving.{Leads}
use Rattle.line_workers.proofs.Places.{get_set_other, get_set_same, some_is}

or_none : (had : Option Strayed) → option_or had None ≡ had
or_none None = refl
or_none (Some numbers) = refl

or_then : (a b c : Option Strayed) → option_or (option_or a b) c ≡ option_or a (option_or b c)
or_then None b c = refl
or_then (Some numbers) b c = refl

-- a commit to the index at this place tells what its outcome does
tells_here : (index : ℕ) (ops : List TxnOp) (outcome : CommitOutcome) (front : FrontValue) → stray_in index (Commit index ops outcome front) ≡ numbers_of outcome
tells_here index ops outcome front = rw (eq-eqb index index refl) refl

-- and a commit to another one tells nothing of it
tells_nothing : (index place : ℕ) (ops : List TxnOp) (outcome : CommitOutcome) (front : FrontValue) → (place ≡ index → ⊥) → stray_in index (Commit place ops outcome front) ≡ None
tells_nothing index place ops outcome front apart = rw (ne_eqb place index apart) refl

-- and so do jobs
job_tells_here : (index : ℕ) (job : Job) (outcome : JobOutcome) (own front : FrontValue) → stray_in index (Reshape index job outcome own front) ≡ numbers_of_job outcome
job_tells_here index job outcome own front = rw (eq-eqb index index refl) refl

job_tells_nothing : (index place : ℕ) (job : Job) (outcome : JobOutcome) (own front : FrontValue) → (place ≡ index → ⊥) → stray_in index (Reshape place job outcome own front) ≡ None
job_tells_nothing index place job outcome own front apart = rw (ne_eqb place index apart) refl

module _ (schema : ℕ → Schema) (base : ℕ → Base) (index : ℕ) where
  job_tells : (mid new : WorkerValue) (had : Option Strayed) (place : ℕ) (job : Job) (outcome : JobOutcome) (own front : FrontValue) → slice_get mid.tokens.told index ≡ Some had
      → ReshapesBy schema base mid.tokens place job outcome own front new.tokens → (place ≡ index) ⊎ (place ≡ index → ⊥) → slice_get new.tokens.told index ≡ Some (option_or had (stray_in index (Reshape place job outcome own front)))
  job_tells mid new had place job outcome own front at made (inl here) =
      let kept : made.had ≡ had = some_is made.had had (sym made.told ∙ ap (λ (p : ℕ). slice_get mid.tokens.told p) here ∙ at) in
      ap (λ (t : TokensValue). slice_get t.told index) made.left
      ∙ ap (λ (p : ℕ). slice_get (set mid.tokens.told p (option_or made.had (numbers_of_job outcome))) index) here
      ∙ get_set_same mid.tokens.told index had (option_or made.had (numbers_of_job outcome)) at
      ∙ ap (λ (h : Option Strayed). Some (option_or h (numbers_of_job outcome))) kept
      ∙ ap (λ (n : Option Strayed). Some (option_or had n)) (sym (job_tells_here index job outcome own front))
      ∙ ap (λ (p : ℕ). Some (option_or had (stray_in index (Reshape p job outcome own front)))) (sym here)
  job_tells mid new had place job outcome own front at made (inr apart) =
      ap (λ (t : TokensValue). slice_get t.told index) made.left
      ∙ get_set_other mid.tokens.told place index (option_or made.had (numbers_of_job outcome)) apart
      ∙ at
      ∙ ap (λ (h : Option Strayed). Some h) (sym (or_none had))
      ∙ ap (λ (n : Option Strayed). Some (option_or had n)) (sym (job_tells_nothing index place job outcome own front apart))

  commit_tells : (mid new : WorkerValue) (had : Option Strayed) (place : ℕ) (ops : List TxnOp) (outcome : CommitOutcome) (front : FrontValue) → slice_get mid.tokens.told index ≡ Some had
      → CommitsBy schema base mid.tokens place ops outcome front new.tokens → (place ≡ index) ⊎ (place ≡ index → ⊥) → slice_get new.tokens.told index ≡ Some (option_or had (stray_in index (Commit place ops outcome front)))
  commit_tells mid new had place ops outcome front at made (inl here) =
      let kept : made.had ≡ had = some_is made.had had (sym made.told ∙ ap (λ (p : ℕ). slice_get mid.tokens.told p) here ∙ at) in
      ap (λ (t : TokensValue). slice_get t.told index) made.left
      ∙ ap (λ (p : ℕ). slice_get (set mid.tokens.told p (option_or made.had (numbers_of outcome))) index) here
      ∙ get_set_same mid.tokens.told index had (option_or made.had (numbers_of outcome)) at
      ∙ ap (λ (h : Option Strayed). Some (option_or h (numbers_of outcome))) kept
      ∙ ap (λ (n : Option Strayed). Some (option_or had n)) (sym (tells_here index ops outcome front))
      ∙ ap (λ (p : ℕ). Some (option_or had (stray_in index (Commit p ops outcome front)))) (sym here)
  commit_tells mid new had place ops outcome front at made (inr apart) =
      ap (λ (t : TokensValue). slice_get t.told index) made.left
      ∙ get_set_other mid.tokens.told place index (option_or made.had (numbers_of outcome)) apart
      ∙ at
      ∙ ap (λ (h : Option Strayed). Some h) (sym (or_none had))
      ∙ ap (λ (n : Option Strayed). Some (option_or had n)) (sym (tells_nothing index place ops outcome front apart))

  -- where nothing is told, what was told stays
  stays_told : (had : Option Strayed) (old new : List (Option Strayed)) → new ≡ old → slice_get old index ≡ Some had → slice_get new index ≡ Some (option_or had None)
  stays_told had old new same at = ap (λ (l : List (Option Strayed)). slice_get l index) same ∙ at ∙ ap (λ (h : Option Strayed). Some h) (sym (or_none had))

  event_tells : (old new : WorkerValue) (event : Event FrontValue) (had : Option Strayed) → slice_get old.tokens.told index ≡ Some had → Leads schema base index old event new
      → slice_get new.tokens.told index ≡ Some (option_or had (stray_in index event))
  event_tells old new (Configured confs) had at follows = stays_told had old.tokens.told new.tokens.told (ap (λ (w : WorkerValue). w.tokens.told) follows.1) at
  event_tells old new Nothing had at follows = stays_told had old.tokens.told new.tokens.told (ap (λ (w : WorkerValue). w.tokens.told) follows) at
  event_tells old new NoMemory had at follows = stays_told had old.tokens.told new.tokens.told follows.1.2 at
  event_tells old new (Read place front) had at follows = stays_told had old.tokens.told new.tokens.told follows.0.1.2 at
  event_tells old new (Commit place ops outcome front) had at follows =
      commit_tells follows.0 new had place ops outcome front (ap (λ (l : List (Option Strayed)). slice_get l index) follows.1.1.2 ∙ at) follows.2.1 (cases_eq place index)
  event_tells old new (Reshape place job outcome own front) had at follows =
      job_tells follows.0 new had place job outcome own front (ap (λ (l : List (Option Strayed)). slice_get l index) follows.1.1.2 ∙ at) follows.3.1 (cases_eq place index)

  -- what events one after another tell
  pub events_tell : (old new : WorkerValue) (events : List (Event FrontValue)) (had : Option Strayed) → slice_get old.tokens.told index ≡ Some had → FollowAll (Leads schema base index) old events new
      → slice_get new.tokens.told index ≡ Some (option_or had (told_by index events))
  events_tell old new [] had at follows = stays_told had old.tokens.told new.tokens.told (ap (λ (w : WorkerValue). w.tokens.told) follows) at
  events_tell old new (event ∷ events) had at follows =
      events_tell follows.0 new events (option_or had (stray_in index event)) (event_tells old follows.0 event had at follows.1) follows.2
      ∙ ap (λ (h : Option Strayed). Some h) (or_then had (stray_in index event) (told_by index events))
