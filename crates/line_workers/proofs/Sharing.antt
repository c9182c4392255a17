-- What a token counts of the events of its worker's lines: commits that may stand, faults, stops, all in one form.
use Rattle.std.proofs.Common.{◌≡◌, ◌⊎◌, inl, inr, ℕ, ◌+◌, ◌==◌, ◌&&◌, Bool, true, false, List, [], ◌∷◌, length, set, Some, slice_get, refl, sym, ap, subst, ◌∙◌, arith}
use Rattle.std.proofs.lemmas.Bool.{and_left, cases_eq, eq-eqb, ne_eqb}
use Rattle.commit_outcomes.specs.declared.outcome.CommitOutcome.{CommitOutcome}
use Rattle.commit_outcomes.specs.declared.outcome.CommitOutcome.TheVariants as outcomes
use Rattle.doc_types.specs.declared.schema.Schema.{Schema}
use Rattle.doc_types.specs.declared.transactions.TxnOp.{TxnOp}
use Rattle.ql_session.specs.Events.{Event, Configured, Nothing, NoMemory, Read, Commit, Reshape}
use Rattle.ql_session.specs.JobOutcome.{JobOutcome}
use Rattle.ql_session.specs.Machines.{FollowAll}
use Rattle.snap_share.specs.Counts.{Shares, faults_in, stops_in}
use Rattle.step_book.specs.Fronts.{FrontValue}
use Rattle.step_history.specs.History.{Base}
use Rattle.step_history.specs.declared.job.Job.{Job}
use Rattle.step_tokens.specs.Tokens.{TokenValue, faults_of, stops_of}
use Rattle.store_keep.specs.declared.charge.Charge.{Charge}
use Rattle.store_keep.specs.declared.charge.Charge.TheVariants as charges
use Rattle.engine_tables.specs.Outcomes.{Tells, TellsJob, charge_by, charge_by_job}
use Rattle.engine_tables.specs.Tokens.{TokensValue}
use Rattle.engine_tables.specs.Workers.{CommitsBy, Grows, ReshapesBy, WorkerValue}
use Rattle.line_workers.specs.Attempts.{Kind, all_of, attempts, faults, is_fault, is_of, is_stop, may_stand, stops}
use Rattle.line_workers.specs.Workers.{CountsThem}
use Rattle.line_workers.proofs.Moving.{Goes, Leads, advanced, has_made, kept_still, worked}
use Rattle.line_workers.proofs.Places.{get_set_other, get_set_same, some_is, zip_at}

abbrev one_of : Bool → ℕ
one_of true = 1
one_of false = 0

-- one event more
one_more : {F : Type 0} (kind : Kind) (index : ℕ) (event : Event F) (events : List (Event F)) (b : Bool) → is_of kind index event ≡ b → length (all_of kind index (event ∷ events)) ≡ one_of b + length (all_of kind index events)
one_more kind index event events true is = (let taken : length (all_of kind index (event ∷ events)) ≡ length (event ∷ all_of kind index events) = rw is refl in omega (arith, taken))
one_more kind index event events false is = (let skipped : length (all_of kind index (event ∷ events)) ≡ length (all_of kind index events) = rw is refl in omega (arith, skipped))

-- a commit to the index, and a job over it
commit_here : {F : Type 0} (kind : Kind) (place index : ℕ) (ops : List TxnOp) (outcome : CommitOutcome) (front : F) → place ≡ index → is_of kind index (Commit place ops outcome front) ≡ kind.commits outcome
commit_here kind place index ops outcome front here = ap (λ (b : Bool). b && kind.commits outcome) (eq-eqb place index here)

job_here : {F : Type 0} (kind : Kind) (place index : ℕ) (job : Job) (outcome : JobOutcome) (own front : F) → place ≡ index → is_of kind index (Reshape place job outcome own front) ≡ kind.jobs outcome
job_here kind place index job outcome own front here = ap (λ (b : Bool). b && kind.jobs outcome) (eq-eqb place index here)

module _ (schema : ℕ → Schema) (base : ℕ → Base) (index : ℕ) (kind : Kind) (count : TokenValue → ℕ)
    (still : (a b : TokenValue) → Grows a b → count b ≡ count a)
    (commit : (schema : Schema) (base : Base) (a b : TokenValue) (ops : List TxnOp) (outcome : CommitOutcome) → Tells schema base a ops outcome b → Shares (charge_by outcome) a b → count b ≡ count a + one_of (kind.commits outcome))
    (done : (schema : Schema) (base : Base) (a b : TokenValue) (job : Job) (outcome : JobOutcome) → TellsJob schema base a job outcome b → Shares (charge_by_job outcome) a b → count b ≡ count a + one_of (kind.jobs outcome)) where
  -- what the token of the index counts after an event
  record IsCounted (old : TokenValue) (number : ℕ) (after : List TokenValue) : Type 0 where
    pub new : TokenValue
    pub at : slice_get after index ≡ Some new
    pub counts : count new ≡ count old + number

  grown : (old : TokenValue) (olds news : List TokenValue) (b : Bool) → b ≡ false → slice_get olds index ≡ Some old → (new : TokenValue) × (slice_get news index ≡ Some new) × Grows old new → IsCounted old (one_of b) news
  grown old olds news b none at found = record { new = found.0; at = found.1; counts = (let none = ap one_of none in omega (arith, still old found.0 found.2, none)) }

  same : (old : TokenValue) (olds news : List TokenValue) → news ≡ olds → slice_get olds index ≡ Some old → IsCounted old 0 news
  same old olds news is at = record { new = old; at = ap (λ (l : List TokenValue). slice_get l index) is ∙ at; counts = omega arith }

  commit_counts : (old mid : TokenValue) (mids : TokensValue) (news : TokensValue) (place : ℕ) (ops : List TxnOp) (outcome : CommitOutcome) (front : FrontValue) → Grows old mid → slice_get mids.list index ≡ Some mid
      → CommitsBy schema base mids place ops outcome front news → (place ≡ index) ⊎ (place ≡ index → ⊥) → IsCounted old (one_of (is_of kind index (Commit place ops outcome front))) news.list
  commit_counts old mid mids news place ops outcome front grows at made (inl here) =
      let before : made.before ≡ mid = some_is made.before mid (sym (subst (λ (p : ℕ). slice_get mids.list p ≡ Some made.before) here made.at) ∙ at) in
      let one = ap one_of (commit_here kind place index ops outcome front here) in
      let first = still old mid grows in
      let next = commit (schema place) (base place) made.before made.after ops outcome made.tells made.shares in
      let from = ap count before in
      record {
        new = made.after;
        at = ap (λ (t : TokensValue). slice_get t.list index) made.left ∙ ap (λ (p : ℕ). slice_get (set mids.list p made.after) index) here ∙ get_set_same mids.list index mid made.after at;
        counts = omega (arith, one, first, next, from);
      }
  commit_counts old mid mids news place ops outcome front grows at made (inr apart) =
      let none = ap one_of (and_left (place == index) (kind.commits outcome) (ne_eqb place index apart)) in
      let first = still old mid grows in
      record {
        new = mid;
        at = ap (λ (t : TokensValue). slice_get t.list index) made.left ∙ get_set_other mids.list place index made.after apart ∙ at;
        counts = omega (arith, none, first);
      }

  job_counts : (old mid : TokenValue) (mids : TokensValue) (news : TokensValue) (place : ℕ) (job : Job) (outcome : JobOutcome) (own front : FrontValue) → Grows old mid → slice_get mids.list index ≡ Some mid
      → ReshapesBy schema base mids place job outcome own front news → (place ≡ index) ⊎ (place ≡ index → ⊥) → IsCounted old (one_of (is_of kind index (Reshape place job outcome own front))) news.list
  job_counts old mid mids news place job outcome own front grows at made (inl here) =
      let before : made.before ≡ mid = some_is made.before mid (sym (subst (λ (p : ℕ). slice_get mids.list p ≡ Some made.before) here made.at) ∙ at) in
      let one = ap one_of (job_here kind place index job outcome own front here) in
      let first = still old mid grows in
      let next = done (schema place) (base place) made.before made.after job outcome made.tells made.shares in
      let from = ap count before in
      record {
        new = made.after;
        at = ap (λ (t : TokensValue). slice_get t.list index) made.left ∙ ap (λ (p : ℕ). slice_get (set mids.list p made.after) index) here ∙ get_set_same mids.list index mid made.after at;
        counts = omega (arith, one, first, next, from);
      }
  job_counts old mid mids news place job outcome own front grows at made (inr apart) =
      let none = ap one_of (and_left (place == index) (kind.jobs outcome) (ne_eqb place index apart)) in
      let first = still old mid grows in
      record {
        new = mid;
        at = ap (λ (t : TokensValue). slice_get t.list index) made.left ∙ get_set_other mids.list place index made.after apart ∙ at;
        counts = omega (arith, none, first);
      }

  event_counts : (old new : WorkerValue) (event : Event FrontValue) (token : TokenValue) → slice_get old.tokens.list index ≡ Some token → Leads schema base index old event new → IsCounted token (one_of (is_of kind index event)) new.tokens.list
  event_counts old new (Configured confs) token at follows = same token old.tokens.list new.tokens.list (ap (λ (w : WorkerValue). w.tokens.list) follows.1) at
  event_counts old new Nothing token at follows = same token old.tokens.list new.tokens.list (ap (λ (w : WorkerValue). w.tokens.list) follows) at
  event_counts old new NoMemory token at follows = grown token old.tokens.list new.tokens.list false refl at (zip_at Grows old.tokens.list new.tokens.list index token follows.1.1 at)
  event_counts old new (Read place front) token at follows = grown token old.tokens.list new.tokens.list false refl at (zip_at Grows old.tokens.list new.tokens.list index token follows.0.1.1 at)
  event_counts old new (Commit place ops outcome front) token at follows =
      let found = zip_at Grows old.tokens.list follows.0.tokens.list index token follows.1.1.1 at in
      commit_counts token found.0 follows.0.tokens new.tokens place ops outcome front found.2 found.1 follows.2.1 (cases_eq place index)
  event_counts old new (Reshape place job outcome own front) token at follows =
      let found = zip_at Grows old.tokens.list follows.0.tokens.list index token follows.1.1.1 at in
      job_counts token found.0 follows.0.tokens new.tokens place job outcome own front found.2 found.1 follows.3.1 (cases_eq place index)

  -- and after events one after another
  events_count : (old new : WorkerValue) (events : List (Event FrontValue)) (token : TokenValue) → slice_get old.tokens.list index ≡ Some token → FollowAll (Leads schema base index) old events new
      → IsCounted token (length (all_of kind index events)) new.tokens.list
  events_count old new [] token at follows = same token old.tokens.list new.tokens.list (ap (λ (w : WorkerValue). w.tokens.list) follows) at
  events_count old new (event ∷ events) token at follows =
      let first = event_counts old follows.0 event token at follows.1 in
      let rest = events_count follows.0 new events first.new first.at follows.2 in
      let one = one_more kind index event events (is_of kind index event) refl in
      record { new = rest.new; at = rest.at; counts = omega (arith, first.counts, rest.counts, one) }

  pub they_count : (old new : WorkerValue) (events : List (Event FrontValue)) (before after : TokenValue) → slice_get old.tokens.list index ≡ Some before → slice_get new.tokens.list index ≡ Some after → FollowAll (Leads schema base index) old events new
      → count after ≡ count before + length (all_of kind index events)
  they_count old new events before after at at' follows =
      let all = events_count old new events before at follows in
      ap count (some_is after all.new (sym at' ∙ all.at)) ∙ all.counts

fault_is : (charge : Charge) → faults_in charge ≡ one_of (is_fault charge)
fault_is charges.Free = refl
fault_is charges.Fault = refl
fault_is charges.Stop = refl

stop_is : (charge : Charge) → stops_in charge ≡ one_of (is_stop charge)
stop_is charges.Free = refl
stop_is charges.Fault = refl
stop_is charges.Stop = refl

fault_counts : (charge : Charge) (a b : TokenValue) → Shares charge a b → faults_of b ≡ faults_of a + one_of (is_fault charge)
fault_counts charge a b shares = let is = fault_is charge in omega (arith, shares.faults, is)

stop_counts : (charge : Charge) (a b : TokenValue) → Shares charge a b → stops_of b ≡ stops_of a + one_of (is_stop charge)
stop_counts charge a b shares = let is = stop_is charge in omega (arith, shares.stops, is)

none_made : (a b : TokenValue) → Goes a b a.made → b.made ≡ a.made + 0
none_made a b goes = let same = has_made a b a.made goes in omega (arith, same)

made_by_commit : (schema : Schema) (base : Base) (a b : TokenValue) (ops : List TxnOp) (outcome : CommitOutcome) → Tells schema base a ops outcome b → b.made ≡ a.made + one_of (may_stand outcome)
made_by_commit schema base a b ops (outcomes.Committed removed) tells = has_made a b (a.made + 1) (advanced schema base a b (a.made + 1) _ tells.0)
made_by_commit schema base a b ops (outcomes.InDoubt doubt) tells = has_made a b (a.made + 1) (advanced schema base a b (a.made + 1) _ tells.0)
made_by_commit schema base a b ops (outcomes.Duplicate id) tells = none_made a b (advanced schema base a b a.made _ tells.0)
made_by_commit schema base a b ops (outcomes.Full full) tells = none_made a b (advanced schema base a b a.made _ tells.0)
made_by_commit schema base a b ops outcomes.Refused tells = none_made a b (advanced schema base a b a.made _ tells)
made_by_commit schema base a b ops (outcomes.Strayed numbers) tells = none_made a b (kept_still a b tells.0)

-- What a token counts of its worker's events.
pub all_counted : (schema : ℕ → Schema) (base : ℕ → Base) (index : ℕ) (old new : WorkerValue) (events : List (Event FrontValue)) (before after : TokenValue) → slice_get old.tokens.list index ≡ Some before
    → slice_get new.tokens.list index ≡ Some after → FollowAll (Leads schema base index) old events new → CountsThem index events before after
all_counted schema base index old new events before after at at' follows = record {
  made = they_count schema base index attempts (λ token. token.made) (λ a b grows. ap (λ (t : TokenValue). t.made) grows.is) (λ schema base a b ops outcome tells shares. made_by_commit schema base a b ops outcome tells)
      (λ schema base a b job outcome tells shares. none_made a b (worked schema base index job outcome a b tells).goes) old new events before after at at' follows;
  faults = they_count schema base index faults faults_of (λ a b grows. ap faults_of grows.is) (λ schema base a b ops outcome tells shares. fault_counts (charge_by outcome) a b shares)
      (λ schema base a b job outcome tells shares. fault_counts (charge_by_job outcome) a b shares) old new events before after at at' follows;
  stops = they_count schema base index stops stops_of (λ a b grows. ap stops_of grows.is) (λ schema base a b ops outcome tells shares. stop_counts (charge_by outcome) a b shares)
      (λ schema base a b job outcome tells shares. stop_counts (charge_by_job outcome) a b shares) old new events before after at at' follows;
}
