-- What events add to a worker's share of the faults of an index, and what a share that stays says of them.
use Rattle.std.proofs.Common.{◌≡◌, ◌⊎◌, inl, inr, ◌==◌, ◌+◌, ◌≤◌, ℕ, zero, suc, set, List, [], ◌∷◌, All, Bool, true, false, ◌&&◌, Some, slice_get, refl, sym, ap, subst, ◌∙◌, arith}
use Rattle.std.specs.List.{AllByRecursion, AllZip}
use Rattle.std.proofs.lemmas.Bool.{and_left, cases_eq, eq-eqb, ne_eqb}
use Rattle.std.proofs.lemmas.List.Elements.{All-cons, All-nil}
use Rattle.commit_outcomes.specs.declared.outcome.CommitOutcome.{CommitOutcome}
use Rattle.doc_types.specs.declared.schema.Schema.{Schema}
use Rattle.ql_session.specs.Events.{Commit, Configured, Event, Follows, NoMemory, Nothing, Read, Reshape}
use Rattle.ql_session.specs.JobOutcome.{JobOutcome}
use Rattle.ql_session.specs.Machines.{FollowAll}
use Rattle.step_book.specs.Fronts.{FrontValue}
use Rattle.step_history.specs.History.{Base}
use Rattle.step_tokens.specs.Tokens.{TokenValue, faults_of}
use Rattle.store_keep.specs.declared.charge.Charge.{Charge}
use Rattle.store_keep.specs.declared.charge.Charge.TheVariants as charges
use Rattle.snap_share.specs.Counts.{faults_in}
use Rattle.engine_tables.specs.Outcomes.{charge_by, charge_by_job}
use Rattle.engine_tables.specs.Tokens.{TokensValue}
use Rattle.engine_tables.specs.Workers.{CommitsBy, GrowAll, Grows, ReshapesBy, WorkerValue, by_tokens}
use Rattle.line_workers.specs.Attempts.{faults, is_fault, is_of}
use Rattle.run_laws.specs.Decided.{IsDecided}
use Rattle.run_laws.specs.Faultless.{share_at, share_of}
use Rattle.run_laws.proofs.Deciding.{commit_decided, job_decided}

abbrev one : Bool → ℕ
one true = 1
one false = 0

none : (b : Bool) → one b ≡ 0 → b ≡ false
none true is = absurd (omega (arith, is))
none false is = refl

one_fault : (charge : Charge) → faults_in charge ≡ one (is_fault charge)
one_fault charges.Free = refl
one_fault charges.Fault = refl
one_fault charges.Stop = refl

-- what stands at a place of a list of which one element was changed
get_set_same : {A : Type 0} (xs : List A) (i : ℕ) (x y : A) → slice_get xs i ≡ Some x → slice_get (set xs i y) i ≡ Some y
get_set_same [] i x y is = absurd (cc is)
get_set_same (z ∷ xs) zero x y is = refl
get_set_same (z ∷ xs) (suc i) x y is = get_set_same xs i x y is

get_set_other : {A : Type 0} (xs : List A) (i j : ℕ) (y : A) → (i ≡ j → ⊥) → slice_get (set xs i y) j ≡ slice_get xs j
get_set_other [] i j y apart = refl
get_set_other (x ∷ xs) zero zero y apart = absurd (apart refl)
get_set_other (x ∷ xs) zero (suc j) y apart = refl
get_set_other (x ∷ xs) (suc i) zero y apart = refl
get_set_other (x ∷ xs) (suc i) (suc j) y apart = get_set_other xs i j y (λ same. apart (ap suc same))

-- a share stays where its token only sees more
grown : (xs ys : List TokenValue) (i : ℕ) → AllZip Grows xs ys → share_of (slice_get ys i) ≡ share_of (slice_get xs i)
grown [] [] i all = refl
grown [] (y ∷ ys) i all = absurd all
grown (x ∷ xs) [] i all = absurd all
grown (x ∷ xs) (y ∷ ys) zero all = ap faults_of all.0.is
grown (x ∷ xs) (y ∷ ys) (suc i) all = grown xs ys i all.1

all_grown : (index : ℕ) (old new : TokensValue) → GrowAll old new → share_at index new ≡ share_at index old
all_grown index old new grow = grown old.list new.list index grow.1

-- where a call changed a token, the share of its index is what the call added
put : (list : List TokenValue) (place index : ℕ) (before after : TokenValue) (charge : Charge) → slice_get list place ≡ Some before → faults_of after ≡ faults_of before + faults_in charge
    → (place ≡ index) ⊎ (place ≡ index → ⊥) → share_of (slice_get (set list place after) index) ≡ share_of (slice_get list index) + one ((place == index) && is_fault charge)
put list place index before after charge at adds (inl here) =
    let now : slice_get (set list place after) index ≡ Some after = ap (λ (i : ℕ). slice_get (set list place after) i) (sym here) ∙ get_set_same list place before after at in
    let was : slice_get list index ≡ Some before = ap (λ (i : ℕ). slice_get list i) (sym here) ∙ at in
    let now_is : share_of (slice_get (set list place after) index) ≡ faults_of after = ap share_of now in
    let was_is : share_of (slice_get list index) ≡ faults_of before = ap share_of was in
    let charged : one ((place == index) && is_fault charge) ≡ one (is_fault charge) = ap (λ (b : Bool). one (b && is_fault charge)) (eq-eqb place index here) in
    let is = one_fault charge in
    omega (arith, now_is, was_is, charged, is, adds)
put list place index before after charge at adds (inr apart) =
    let stays : share_of (slice_get (set list place after) index) ≡ share_of (slice_get list index) = ap share_of (get_set_other list place index after apart) in
    let free : one ((place == index) && is_fault charge) ≡ 0 = ap one (and_left (place == index) (is_fault charge) (ne_eqb place index apart)) in
    omega (arith, stays, free)

module _ (schema : ℕ → Schema) (base : ℕ → Base) (index : ℕ) where
  -- an event leads a worker's store so
  abbrev Leads : WorkerValue → Event FrontValue → WorkerValue → Type 0
  Leads = Follows (λ tables. tables.confs) (by_tokens schema base)

  commit_adds : (old mid new : TokensValue) (place : ℕ) (ops : _) (outcome : CommitOutcome) (front : FrontValue) → GrowAll old mid → CommitsBy schema base mid place ops outcome front new
      → share_at index new ≡ share_at index old + one (is_of faults index (Commit place ops outcome front))
  commit_adds old mid new place ops outcome front grow made =
      let first = all_grown index old mid grow in
      let left : share_at index new ≡ share_of (slice_get (set mid.list place made.after) index) = ap (share_at index) made.left in
      let next = put mid.list place index made.before made.after (charge_by outcome) made.at made.shares.faults (cases_eq place index) in
      omega (arith, first, left, next)

  job_adds : (old mid new : TokensValue) (place : ℕ) (job : _) (outcome : JobOutcome) (own front : FrontValue) → GrowAll old mid → ReshapesBy schema base mid place job outcome own front new
      → share_at index new ≡ share_at index old + one (is_of faults index (Reshape place job outcome own front))
  job_adds old mid new place job outcome own front grow done =
      let first = all_grown index old mid grow in
      let left : share_at index new ≡ share_of (slice_get (set mid.list place done.after) index) = ap (share_at index) done.left in
      let next = put mid.list place index done.before done.after (charge_by_job outcome) done.at done.shares.faults (cases_eq place index) in
      omega (arith, first, left, next)

  -- an event adds to the share of the index where it is a fault on it
  adds : (old new : WorkerValue) (event : Event FrontValue) → Leads old event new → share_at index new.tokens ≡ share_at index old.tokens + one (is_of faults index event)
  adds old new (Configured confs) leads = let same = ap (λ (w : WorkerValue). share_at index w.tokens) leads.1 in omega (arith, same)
  adds old new Nothing leads = let same = ap (λ (w : WorkerValue). share_at index w.tokens) leads in omega (arith, same)
  adds old new NoMemory leads = let same = all_grown index old.tokens new.tokens leads.1 in omega (arith, same)
  adds old new (Read place front) leads = let same = all_grown index old.tokens new.tokens leads.0.1 in omega (arith, same)
  adds old new (Commit place ops outcome front) leads = commit_adds old.tokens leads.0.tokens new.tokens place ops outcome front leads.1.1 leads.2.1
  adds old new (Reshape place job outcome own front) leads = job_adds old.tokens leads.0.tokens new.tokens place job outcome own front leads.1.1 leads.3.1

  -- the store stays its worker's
  stays_own : (old new : WorkerValue) (event : Event FrontValue) → Leads old event new → new.tokens.worker ≡ old.tokens.worker
  stays_own old new (Configured confs) leads = ap (λ (w : WorkerValue). w.tokens.worker) leads.1
  stays_own old new Nothing leads = ap (λ (w : WorkerValue). w.tokens.worker) leads
  stays_own old new NoMemory leads = leads.1.0
  stays_own old new (Read place front) leads = leads.0.1.0
  stays_own old new (Commit place ops outcome front) leads = ap (λ (t : TokensValue). t.worker) leads.2.1.left ∙ leads.1.1.0
  stays_own old new (Reshape place job outcome own front) leads = ap (λ (t : TokensValue). t.worker) leads.3.1.left ∙ leads.1.1.0

  -- what is no fault on the index is none at its place
  free_here : (place : ℕ) (b : Bool) → place ≡ index → ((place == index) && b) ≡ false → b ≡ false
  free_here place b here free = sym (ap (λ (same : Bool). same && b) (eq-eqb place index here)) ∙ free

  decided : (old new : WorkerValue) (event : Event FrontValue) → Leads old event new → is_of faults index event ≡ false → IsDecided base old.tokens.worker index event
  decided old new (Configured confs) leads free = tt
  decided old new Nothing leads free = tt
  decided old new NoMemory leads free = tt
  decided old new (Read place front) leads free = tt
  decided old new (Commit place ops outcome front) leads free = λ here.
      let made = leads.2.1 in
      commit_decided (schema place) (base place) old.tokens.worker made.before made.after ops outcome front (made.own ∙ leads.1.1.0) made.is made.tells (free_here place (is_fault (charge_by outcome)) here free)
  decided old new (Reshape place job outcome own front) leads free = λ here.
      let done = leads.3.1 in
      job_decided (schema place) (base place) done.before done.after job outcome own front done.began done.is done.tells (free_here place (is_fault (charge_by_job outcome)) here free)

  -- Events of which none is a fault on the index.
  abbrev pub AreFree : List (Event FrontValue) → Type 0
  AreFree events = AllByRecursion (λ event. is_of faults index event ≡ false) events

  pub all_decided : (worker : ℕ) (old new : WorkerValue) (events : List (Event FrontValue)) → old.tokens.worker ≡ worker → FollowAll Leads old events new → AreFree events → All (IsDecided base worker index) events
  all_decided worker old new [] own leads free = All-nil (IsDecided base worker index)
  all_decided worker old new (event ∷ events) own leads free =
      All-cons (IsDecided base worker index) event events (subst (λ (w : ℕ). IsDecided base w index event) own (decided old leads.0 event leads.1 free.0))
      (all_decided worker leads.0 new events (stays_own old leads.0 event leads.1 ∙ own) leads.2 free.1)

  no_less : (old new : WorkerValue) (events : List (Event FrontValue)) → FollowAll Leads old events new → share_at index old.tokens ≤ share_at index new.tokens
  no_less old new [] leads = let same = ap (λ (w : WorkerValue). share_at index w.tokens) leads in omega (arith, same)
  no_less old new (event ∷ events) leads =
      let first = adds old leads.0 event leads.1 in
      let rest = no_less leads.0 new events leads.2 in
      omega (arith, first, rest)

  -- where the share stays, no event is a fault on the index
  pub all_free : (old new : WorkerValue) (events : List (Event FrontValue)) → FollowAll Leads old events new → share_at index new.tokens ≡ share_at index old.tokens → AreFree events
  all_free old new [] leads same = tt
  all_free old new (event ∷ events) leads same =
      let first = adds old leads.0 event leads.1 in
      let rest = no_less leads.0 new events leads.2 in
      let add : one (is_of faults index event) ≡ 0 = omega (arith, first, rest, same) in
      (none (is_of faults index event) add, all_free leads.0 new events leads.2 (omega (arith, first, same, add)))
