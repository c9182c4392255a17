-- What the statements of a selftest want of its one index, and what is replied to them.
use Rattle.std.proofs.Common.{◌≡◌, ◌⊎◌, inl, inr, ◌≤◌, ℕ, ◌*◌, List, [], ◌∷◌, ◌++◌, Bool, true, false, Option, Some, None, length, refl, sym, ap, subst, ◌∙◌, arith, length-append}
use Rattle.std.specs.Prelude.{codes, nat_le, slice_get, sum_by}
use Rattle.std.proofs.lemmas.Bool.Decides.{nat_tests}
use Rattle.std.proofs.lemmas.List.{length-map}
use Rattle.std.proofs.lemmas.List.Sums.{sum_by-cons}
use Rattle.std.proofs.lemmas.Option.{same_Some}
use Rattle.commit_outcomes.specs.declared.outcome.CommitOutcome.{CommitOutcome}
use Rattle.commit_outcomes.specs.declared.outcome.CommitOutcome.TheVariants as outcomes
use Rattle.commit_outcomes.specs.declared.outcome.Doubt.TheVariants as doubts
use Rattle.doc_types.specs.Payloads.{doc_length, op_length}
use Rattle.doc_types.specs.Snapshots.{SnapshotValue}
use Rattle.doc_types.specs.declared.documents.Doc.{Doc}
use Rattle.doc_types.specs.declared.transactions.Txn.{Txn}
use Rattle.doc_types.specs.declared.transactions.TxnOp.{TxnOp}
use Rattle.doc_types.specs.declared.transactions.TxnOp.TheVariants as operations
use Rattle.index_conf.specs.declared.conf.IndexConf.{IndexConf}
use Rattle.ql_answers.specs.declared.job_outcome.JobOutcome.{JobOutcome}
use Rattle.ql_answers.specs.declared.job_outcome.JobOutcome.TheVariants as job_outcomes
use Rattle.ql_answers.specs.declared.pending.TheConstants.{MAX_OPERATIONS, MAX_TRANSACTION_BYTES}
use Rattle.ql_answers.specs.declared.plan.Counted.TheVariants as counting
use Rattle.ql_answers.specs.declared.plan.Plan.{Plan}
use Rattle.ql_answers.specs.declared.plan.Plan.TheVariants as plans
use Rattle.ql_answers.specs.declared.state.State.{State}
use Rattle.ql_answers.specs.declared.turn.Turn.TheVariants as turns
use Rattle.ql_answers.specs.Indexes.{Serves, index_fault, place_fault, place_of}
use Rattle.ql_answers.specs.Pending.{PendingValue, size_of}
use Rattle.ql_answers.specs.Plans.{Refuses, WantsJob}
use Rattle.ql_answers.specs.Replies.{Done, Fails, Reply}
use Rattle.ql_answers.specs.Sessions.{Decides, need_of, next_of, pending_of, reply_to_commit, reply_to_job, told_by}
use Rattle.ql_answers.specs.States.{finished, pending_ops, telling}
use Rattle.ql_answers.specs.Transactions.{index_fault_of, size_fault, write_fault, written}
use Rattle.ql_answers.specs.Writing.{WantsStore}
use Rattle.ql_insert.specs.Insertions.{Makes, RefusesValues}
use Rattle.ql_tree.specs.declared.statement.Val.{Val}
use Rattle.ql_refusals.specs.Refusals.{Refused, first, no_memory, too_many_operations, transaction_too_large, unless}
use Rattle.ql_session.specs.Events.{Commit, Configured, Event, NoMemory, Nothing, Read, Reshape}
use Rattle.ql_session.specs.Statements.{Meets, Replies, told}
use Rattle.ql_tree.specs.declared.statement.Statement.TheVariants as statements
use Rattle.step_history.specs.declared.job.Job.{Job}
use Rattle.step_history.specs.declared.job.Job.TheVariants.{Flush, Optimize}
use Rattle.self_test.specs.Loads.{IsStored}
use Rattle.self_test.specs.Own.{IsDrawn, IsOwn}
use Rattle.self_test.specs.Texts.{insert_statement}
use Rattle.self_test.specs.declared.generator.Document.{Document}
use Rattle.self_test.proofs.Inserting.{AreLight, inserting}
use Rattle.self_test.proofs.Stored.{makes_one, names, row_of, stored_light, values_never}

-- The index.

-- the operations that wait where documents were inserted
abbrev pub waiting : List Doc → Option PendingValue
waiting [] = None
waiting (doc ∷ docs) = Some (record { place = 0; ops = inserting (doc ∷ docs) })

-- the session between two statements that write
abbrev pub state_at : Bool → List Doc → State
state_at begun docs = record { autocommit = true; opened = begun; pending = waiting docs; meta = None }

module _ (conf : IndexConf) (is : IsOwn conf) where
  placed : place_of (conf ∷ []) (codes "t") ≡ Some 0
  placed = ap (λ (name : List ℕ). place_of (record conf { schema = record conf.schema { name = name } } ∷ []) (codes "t")) is.name

  pub never_missing : (refusal : Refused) → index_fault (conf ∷ []) (codes "t") ≡ Some refusal → ⊥
  never_missing refusal fault = let none : index_fault (conf ∷ []) (codes "t") ≡ None = ap (λ (place : Option ℕ). place_fault place (codes "t")) placed in cc (none, fault)

  pub first_served : (place : ℕ) (other : IndexConf) → Serves (conf ∷ []) (codes "t") place other → (place ≡ 0) × (other ≡ conf)
  first_served place other serves =
      let here : place ≡ 0 = sym (same_Some 0 place (sym placed ∙ serves.place_is)) in
      (here, sym (same_Some conf other (sym (ap (λ (n : ℕ). slice_get (conf ∷ []) n) here) ∙ serves.is)))

-- BEGIN.

module _ {F : Type 0} (documents : F → SnapshotValue) (confs : List IndexConf) (event : Event F) (reply : Reply) (new : State) where
  agreed : (turn : _) (old : State) (seen : Event F) → Meets (need_of (plans.Agree turn)) (pending_of old (plans.Agree turn)) seen → Decides (plans.Agree turn) (told documents seen) reply → (seen ≡ Nothing) × (reply ≡ Done 0)
  agreed turn old Nothing meets decides = (refl, decides)
  agreed turn old (Configured other) meets decides = absurd meets
  agreed turn old NoMemory meets decides = absurd meets
  agreed turn old (Read at front) meets decides = absurd meets
  agreed turn old (Commit at ops outcome front) meets decides = absurd meets
  agreed turn old (Reshape at job outcome mine front) meets decides = absurd meets

  -- BEGIN is answered OK
  pub begins : Replies documents confs (state_at false []) statements.Begin event reply new → (event ≡ Nothing) × (reply ≡ Done 0) × (new ≡ state_at true [])
  begins (inl (refusal, refuses, idle, fails, same)) = absurd refuses
  begins (inr (inl (plan, wants, meets, decides, next))) =
      let so = agreed turns.Opens (state_at false []) event (subst (λ (p : Plan). Meets (need_of p) (pending_of (state_at false []) p) event) wants meets) (subst (λ (p : Plan). Decides p (told documents event) reply) wants decides) in (
        so.0,
        so.1,
        next ∙ ap (λ (p : Plan). next_of p (told documents event) reply (state_at false [])) wants
            ∙ ap (λ (e : Event F). next_of (plans.Agree turns.Opens) (told documents e) reply (state_at false [])) so.0
            ∙ ap (λ (r : Reply). next_of (plans.Agree turns.Opens) (told documents Nothing) r (state_at false [])) so.1,
      )
  begins (inr (inr (takes, none, fails, same))) = absurd takes

  -- INSERT.

  -- what is kept is answered OK
  kept_so : (txn : Txn) (old : State) (seen : Event F) → Meets (need_of (plans.Keep 0 txn 1)) (pending_of old (plans.Keep 0 txn 1)) seen → Decides (plans.Keep 0 txn 1) (told documents seen) reply → (seen ≡ Nothing) × (reply ≡ Done 1)
  kept_so txn old Nothing meets decides = (refl, decides)
  kept_so txn old (Configured other) meets decides = absurd meets
  kept_so txn old NoMemory meets decides = absurd meets
  kept_so txn old (Read at front) meets decides = absurd meets
  kept_so txn old (Commit at ops outcome front) meets decides = absurd meets
  kept_so txn old (Reshape at job outcome mine front) meets decides = absurd meets

inserting_then : (front more : List Doc) → inserting (front ++ more) ≡ inserting front ++ inserting more
inserting_then [] more = refl
inserting_then (doc ∷ front) more = ap (λ (l : List TxnOp). operations.Insert doc ∷ l) (inserting_then front more)

ops_waiting : (docs : List Doc) → pending_ops (waiting docs) ≡ inserting docs
ops_waiting [] = refl
ops_waiting (doc ∷ docs) = refl

-- what waits once one more is inserted
waits_more : (docs : List Doc) (doc : Doc) → Some (record { place = 0; ops = pending_ops (waiting docs) ++ operations.Insert doc ∷ [] }) ≡ waiting (docs ++ doc ∷ [])
waits_more [] doc = refl
waits_more (one ∷ docs) doc = ap (λ (ops : List TxnOp). Some (record { place = 0; ops = ops })) (sym (inserting_then (one ∷ docs) (doc ∷ [])))

here_fault : (docs : List Doc) → index_fault_of (waiting docs) 0 ≡ None
here_fault [] = refl
here_fault (doc ∷ docs) = refl

ops_light : (docs : List Doc) → AreLight docs → sum_by op_length (inserting docs) ≤ 200 * length docs
ops_light [] light = omega arith
ops_light (doc ∷ docs) (one, light) = omega (arith, sum_by-cons op_length (operations.Insert doc) (inserting docs), one, ops_light docs light)

light_then : (front : List Doc) (doc : Doc) → AreLight front → doc_length doc ≤ 199 → AreLight (front ++ doc ∷ [])
light_then [] doc light one = (one, tt)
light_then (first ∷ front) doc (here, light) one = (here, light_then front doc light one)

at_most : (a b : ℕ) → a ≤ b → nat_le a b ≡ true
at_most a b least = grind (arith, nat_tests)

holds_none : (b : Bool) (refusal : Refused) → b ≡ true → unless b refusal ≡ None
holds_none true refusal holds = refl
holds_none false refusal holds = absurd (cc holds)

both_none : (a b : Option Refused) → a ≡ None → b ≡ None → first a b ≡ None
both_none a b no_a no_b = rw (no_a, no_b) refl

-- a hundred documents are within the limits of a transaction
within_limits : (docs : List Doc) → AreLight docs → length docs ≤ 100 → size_fault (inserting docs) ≡ None
within_limits docs light few =
    both_none (unless (nat_le (length (inserting docs)) MAX_OPERATIONS) too_many_operations) (unless (nat_le (size_of (inserting docs)) MAX_TRANSACTION_BYTES) transaction_too_large)
    (holds_none (nat_le (length (inserting docs)) MAX_OPERATIONS) too_many_operations (at_most (length (inserting docs)) MAX_OPERATIONS (omega (arith, length-map docs (λ (doc : Doc). operations.Insert doc), few))))
    (holds_none (nat_le (size_of (inserting docs)) MAX_TRANSACTION_BYTES) transaction_too_large (at_most (size_of (inserting docs)) MAX_TRANSACTION_BYTES (omega (arith, ops_light docs light, few))))

module _ (docs : List Doc) (light : AreLight docs) (few : length docs ≤ 99) (doc : Doc) (one : doc_length doc ≤ 199) where
  pub never_full : write_fault (state_at true docs) 0 (record { ops = operations.Insert doc ∷ [] }) ≡ None
  never_full =
      let all : pending_ops (waiting docs) ++ operations.Insert doc ∷ [] ≡ inserting (docs ++ doc ∷ []) = ap (λ (ops : List TxnOp). ops ++ operations.Insert doc ∷ []) (ops_waiting docs) ∙ sym (inserting_then docs (doc ∷ [])) in
      both_none (index_fault_of (waiting docs) 0) (size_fault (pending_ops (waiting docs) ++ operations.Insert doc ∷ [])) (here_fault docs)
      (ap (λ (ops : List TxnOp). size_fault ops) all ∙ within_limits (docs ++ doc ∷ []) (light_then docs doc light one) (omega (arith, length-append docs (doc ∷ []), few)))

-- Memory was refused, and nothing was done.
pub record IsWithout {F : Type 0} (event : Event F) (reply : Reply) (old new : State) : Type 0 where
  pub noted : event ≡ NoMemory
  pub fails : reply ≡ Fails no_memory
  pub same : new ≡ old

-- What is stored of a document waits with the others.
pub record IsKept {F : Type 0} (conf : IndexConf) (id : ℕ) (document : Document) (docs : List Doc) (event : Event F) (reply : Reply) (new : State) : Type 0 where
  pub doc : Doc
  pub stored : IsStored conf id document doc
  pub idle : event ≡ Nothing
  pub done : reply ≡ Done 1
  pub state : new ≡ state_at true (docs ++ doc ∷ [])

module _ {F : Type 0} (documents : F → SnapshotValue) (conf : IndexConf) (is : IsOwn conf) (id : ℕ) (document : Document) (drawn : IsDrawn document) (some : 1 ≤ id) (small : id ≤ 100000)
    (docs : List Doc) (light : AreLight docs) (few : length docs ≤ 99) (event : Event F) (reply : Reply) (new : State) where
  abbrev old : State
  old = state_at true docs

  abbrev rows : List (List Val)
  rows = row_of id document ∷ []

  -- the transaction of the INSERT
  one_op : (place : ℕ) (txn : Txn) → WantsStore (conf ∷ []) false (codes "t") names rows place txn → (doc : Doc) × IsStored conf id document doc × (place ≡ 0) × (txn ≡ record { ops = operations.Insert doc ∷ [] })
  one_op place txn wants =
      let (here, same) = first_served conf is place wants.conf wants.serves in
      let (doc, is_stored, ops) = makes_one id document drawn some small conf is wants.inserted (subst (λ (c : IndexConf). Makes c names rows wants.inserted) same wants.makes) in
      (doc, is_stored, here, wants.is ∙ ops)

  no_fault : (place : ℕ) (txn : Txn) (refusal : Refused) → WantsStore (conf ∷ []) false (codes "t") names rows place txn → write_fault old place txn ≡ Some refusal → ⊥
  no_fault place txn refusal wants fault =
      let (doc, is_stored, here, ops) = one_op place txn wants in
      let none = never_full docs light few doc (stored_light conf id document doc is drawn is_stored) in
      let at : write_fault old 0 (record { ops = operations.Insert doc ∷ [] }) ≡ Some refusal = ap (λ (t : Txn). write_fault old 0 t) (sym ops) ∙ ap (λ (p : ℕ). write_fault old p txn) (sym here) ∙ fault in
      cc (none, at)

  never_refused : (refusal : Refused) → Refuses (conf ∷ []) old (insert_statement id document) refusal → ⊥
  never_refused refusal (inl (inl fault)) = never_missing conf is refusal fault
  never_refused refusal (inl (inr (place, other, serves, values))) =
      let (here, same) = first_served conf is place other serves in
      values_never id document drawn some small conf is refusal (subst (λ (c : IndexConf). RefusesValues c names rows refusal) same values)
  never_refused refusal (inr (place, txn, wants, fault)) = no_fault place txn refusal wants fault

  -- the INSERT is answered OK, and what is stored of the document waits; or memory was refused
  pub inserts : Replies documents (conf ∷ []) old (insert_statement id document) event reply new → IsWithout event reply old new ⊎ IsKept conf id document docs event reply new
  inserts (inl (refusal, refuses, idle, fails, same)) = absurd (never_refused refusal refuses)
  inserts (inr (inl (plan, (place, txn, wants, none, planned), meets, decides, next))) =
      let (doc, is_stored, here, ops) = one_op place txn wants in
      let kept_txn : Txn = record { ops = operations.Insert doc ∷ [] } in
      let wanted : plan ≡ plans.Keep 0 kept_txn 1 =
      planned ∙ ap (λ (t : Txn). written old place t counting.Rows) ops ∙ ap (λ (p : ℕ). written old p kept_txn counting.Rows) here in
      let so = kept_so documents (conf ∷ []) event reply new kept_txn old event (subst (λ (p : Plan). Meets (need_of p) (pending_of old p) event) wanted meets) (subst (λ (p : Plan). Decides p (told documents event) reply) wanted decides) in
      inr (record {
        doc = doc;
        stored = is_stored;
        idle = so.0;
        done = so.1;
        state = next ∙ ap (λ (p : Plan). next_of p (told documents event) reply old) wanted ∙ ap (λ (e : Event F). next_of (plans.Keep 0 kept_txn 1) (told documents e) reply old) so.0
            ∙ ap (λ (r : Reply). next_of (plans.Keep 0 kept_txn 1) (told documents Nothing) r old) so.1
            ∙ ap (λ (w : Option PendingValue). record { autocommit = true; opened = true; pending = w; meta = None }) (waits_more docs doc);
      })
  inserts (inr (inr (takes, noted, fails, same))) = inl (record { noted = noted; fails = fails; same = same })

-- COMMIT.

-- What waited was to be committed, and the transaction is over.
pub record IsTried {F : Type 0} (ops : List TxnOp) (event : Event F) (reply : Reply) (new : State) : Type 0 where
  pub outcome : CommitOutcome
  pub front : F
  pub is : event ≡ Commit 0 ops outcome front
  pub says : reply ≡ reply_to_commit counting.Nothing 0 outcome
  pub state : new ≡ state_at false []

over : (begun : Bool) (docs : List Doc) (outcome : CommitOutcome) → telling (told_by (reply_to_commit counting.Nothing 0 outcome)) (finished turns.Ends outcome (state_at begun docs)) ≡ state_at false []
over begun docs (outcomes.Committed removed) = refl
over begun docs (outcomes.Duplicate id) = refl
over begun docs (outcomes.Full full) = refl
over begun docs outcomes.Refused = refl
over begun docs (outcomes.InDoubt doubts.Disk) = refl
over begun docs (outcomes.InDoubt doubts.Memory) = refl
over begun docs (outcomes.Strayed numbers) = refl

module _ {F : Type 0} (documents : F → SnapshotValue) (confs : List IndexConf) (doc : Doc) (docs : List Doc) (reply : Reply) (new : State) where
  abbrev waits : State
  waits = state_at true (doc ∷ docs)

  tried_so : (event : Event F) → Meets (need_of (plans.Commit 0 turns.Ends)) (pending_of waits (plans.Commit 0 turns.Ends)) event → Decides (plans.Commit 0 turns.Ends) (told documents event) reply
      → new ≡ next_of (plans.Commit 0 turns.Ends) (told documents event) reply waits → IsTried (inserting (doc ∷ docs)) event reply new
  tried_so Nothing meets decides next = absurd meets
  tried_so (Configured other) meets decides next = absurd meets
  tried_so NoMemory meets decides next = absurd meets
  tried_so (Read at front) meets decides next = absurd meets
  tried_so (Commit at ops outcome front) (here, pending) decides next =
      let same : ops ≡ inserting (doc ∷ docs) = ap (λ (t : Txn). t.ops) (sym (same_Some (record { ops = inserting (doc ∷ docs) }) (record { ops = ops }) pending)) in
      record {
        outcome = outcome;
        front = front;
        is = ap (λ (n : ℕ). Commit n ops outcome front) here ∙ ap (λ (o : List TxnOp). Commit 0 o outcome front) same;
        says = decides;
        state = next ∙ ap (λ (r : Reply). telling (told_by r) (finished turns.Ends outcome waits)) decides ∙ over true (doc ∷ docs) outcome;
      }
  tried_so (Reshape at job outcome mine front) meets decides next = absurd meets

  -- a COMMIT commits what waits, or memory was refused
  pub commits_so : (event : Event F) → Replies documents confs waits statements.Commit event reply new → IsWithout event reply waits new ⊎ IsTried (inserting (doc ∷ docs)) event reply new
  commits_so event (inl (refusal, refuses, idle, fails, same)) = absurd refuses
  commits_so event (inr (inl (plan, wants, meets, decides, next))) =
      inr (tried_so event (subst (λ (p : Plan). Meets (need_of p) (pending_of waits p) event) wants meets) (subst (λ (p : Plan). Decides p (told documents event) reply) wants decides)
      (next ∙ ap (λ (p : Plan). next_of p (told documents event) reply waits) wants))
  commits_so event (inr (inr (takes, noted, fails, same))) = inl (record { noted = noted; fails = fails; same = same })

-- Jobs.

-- The job was done over the index, or it wasn't, and says so.
pub record IsAsked {F : Type 0} (job : Job) (event : Event F) (reply : Reply) (old new : State) : Type 0 where
  pub outcome : JobOutcome
  pub own : F
  pub front : F
  pub is : event ≡ Reshape 0 job outcome own front
  pub says : reply ≡ reply_to_job outcome
  pub state : new ≡ old

unheard : (outcome : JobOutcome) (state : State) → telling (told_by (reply_to_job outcome)) state ≡ state
unheard job_outcomes.Shaped state = refl
unheard (job_outcomes.Overtaken shape) state = refl
unheard (job_outcomes.Full full) state = refl
unheard job_outcomes.Refused state = refl
unheard job_outcomes.InDoubt state = refl
unheard (job_outcomes.Strayed numbers) state = refl

module _ {F : Type 0} (documents : F → SnapshotValue) (conf : IndexConf) (is : IsOwn conf) (old : State) (reply : Reply) (new : State) where
  asked_so : (job : Job) (event : Event F) → Meets (need_of (plans.Reshape 0 job)) (pending_of old (plans.Reshape 0 job)) event → Decides (plans.Reshape 0 job) (told documents event) reply
      → new ≡ next_of (plans.Reshape 0 job) (told documents event) reply old → IsAsked job event reply old new
  asked_so job Nothing meets decides next = absurd meets
  asked_so job (Configured other) meets decides next = absurd meets
  asked_so job NoMemory meets decides next = absurd meets
  asked_so job (Read at front) meets decides next = absurd meets
  asked_so job (Commit at ops outcome front) meets decides next = absurd meets
  asked_so job (Reshape at done outcome mine front) (here, same) decides next = record {
    outcome = outcome;
    own = mine;
    front = front;
    is = ap (λ (n : ℕ). Reshape n done outcome mine front) here ∙ ap (λ (j : Job). Reshape 0 j outcome mine front) same;
    says = decides;
    state = next ∙ ap (λ (r : Reply). telling (told_by r) old) decides ∙ unheard outcome old;
  }

  wanted_so : (job : Job) (event : Event F) (plan : Plan) → WantsJob (conf ∷ []) (codes "t") job plan → Meets (need_of plan) (pending_of old plan) event → Decides plan (told documents event) reply
      → new ≡ next_of plan (told documents event) reply old → IsAsked job event reply old new
  wanted_so job event plan (place, other, serves, planned) meets decides next =
      let here = (first_served conf is place other serves).0 in
      let wants : plan ≡ plans.Reshape 0 job = planned ∙ ap (λ (n : ℕ). plans.Reshape n job) here in
      asked_so job event (subst (λ (p : Plan). Meets (need_of p) (pending_of old p) event) wants meets) (subst (λ (p : Plan). Decides p (told documents event) reply) wants decides)
      (next ∙ ap (λ (p : Plan). next_of p (told documents event) reply old) wants)

  -- a job is asked for, or memory was refused
  pub flushes : (event : Event F) → Replies documents (conf ∷ []) old (statements.FlushRamchunk (codes "t")) event reply new → IsWithout event reply old new ⊎ IsAsked Flush event reply old new
  flushes event (inl (refusal, refuses, idle, fails, same)) = absurd (never_missing conf is refusal refuses)
  flushes event (inr (inl (plan, wants, meets, decides, next))) = inr (wanted_so Flush event plan wants meets decides next)
  flushes event (inr (inr (takes, noted, fails, same))) = inl (record { noted = noted; fails = fails; same = same })

  pub optimizes : (event : Event F) → Replies documents (conf ∷ []) old (statements.OptimizeIndex (codes "t")) event reply new → IsWithout event reply old new ⊎ IsAsked Optimize event reply old new
  optimizes event (inl (refusal, refuses, idle, fails, same)) = absurd (never_missing conf is refusal refuses)
  optimizes event (inr (inl (plan, wants, meets, decides, next))) = inr (wanted_so Optimize event plan wants meets decides next)
  optimizes event (inr (inr (takes, noted, fails, same))) = inl (record { noted = noted; fails = fails; same = same })
