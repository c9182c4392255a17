-- From what a statement wanted, what came of it and what was said: the statement was answered.
use Rattle.std.proofs.Common.{◌≡◌, ◌≢◌, ◌<◌, inl, inr, ℕ, List, Bool, true, false, refl, subst, sym, ap, ◌∙◌}
use Rattle.std.specs.Prelude.{All, Option, Some, Err, length, slice_get, unwrap_or}
use Rattle.std.proofs.lemmas.Option.{same_Some, slice_get_within}
use Rattle.std.specs.Option.{IsSomeAnd}
use Rattle.srch_base.specs.declared.faults.Or.{Or}
use Rattle.srch_base.specs.declared.faults.Or.TheVariants as causes
use Rattle.index_conf.specs.declared.conf.IndexConf.{IndexConf}
use Rattle.ql_answers.specs.Searches.{IsReadOf}
use Rattle.ql_tree.specs.declared.statement.Statement.{Statement}
use Rattle.doc_types.specs.Documents.{AreRowsOf}
use Rattle.doc_types.specs.Schemas.{IsSchema}
use Rattle.doc_types.specs.Snapshots.{SnapshotValue}
use Rattle.doc_types.specs.declared.transactions.Txn.{Txn}
use Rattle.doc_types.specs.Transactions.{IsTxnOf}
use Rattle.commit_outcomes.specs.declared.outcome.CommitOutcome.{CommitOutcome}
use Rattle.ql_answers.specs.declared.event.Need.{Need}
use Rattle.ql_answers.specs.declared.event.Need.TheVariants as needs
use Rattle.ql_answers.specs.declared.job_outcome.JobOutcome.{JobOutcome}
use Rattle.ql_answers.specs.declared.plan.Plan.{Plan}
use Rattle.ql_answers.specs.declared.plan.Plan.TheVariants.{Agree, Commit as CommitPending, Keep, Put, Reshape as Work, Search, Show, Status}
use Rattle.ql_answers.specs.declared.state.State.{State}
use Rattle.ql_answers.specs.Plans.{Wants, Refuses, TakesMemory}
use Rattle.ql_refusals.specs.Refusals.{Refused, no_memory}
use Rattle.reply_rows.specs.Written.{Written}
use Rattle.ql_answers.specs.Replies.{Reply, Fails, replied}
use Rattle.ql_answers.specs.States.{pending_txn, status_of}
use Rattle.ql_answers.specs.Sessions.{CanHave, Standing, Needs, Happened, Decides, at_plan, need_of, next_of, pending_of, reply_takes_memory}
use Rattle.ql_answers.specs.Sessions as happenings
use Rattle.ql_answers.proofs.OneReply.{without_memory}
use Rattle.step_history.specs.declared.job.Job.{Job}
use Rattle.ql_session.specs.Events.{Event, Commit, Nothing, NoMemory, Read, Reshape, StoreWords, Follows}
use Rattle.ql_session.specs.Statements.{Meets, told}
use Rattle.ql_session.specs.steps.Running.{IsAt, RepliesPlan, Runs, Says}
use Rattle.ql_session.specs.Fitting.{CanCommit, Fits, FitsPending}
use Rattle.ql_session.specs.steps.Wanting.{IsSoundPlan}
use Rattle.ql_session.proofs.Plans.{sound_plan, takes_by_need, takes_by_room}
use Rattle.ql_session.proofs.StaysFit.{fits_after}

-- ---- what a plan needs
-- a plan that needs a commit has a transaction that can be committed, and its reply takes no memory
has_pending : (confs : List IndexConf) (state : State) (plan : Plan) (place : ℕ) → IsSoundPlan confs state plan → need_of plan ≡ needs.Commit place → (txn : Txn) × (pending_of state plan ≡ Some txn)
has_pending confs state (Agree turn) place sound e = absurd cc
has_pending confs state (Show set) place sound e = absurd cc
has_pending confs state (Search at selection) place sound e = absurd cc
has_pending confs state (Status at) place sound e = absurd cc
has_pending confs state (Keep at txn affected) place sound e = absurd cc
has_pending confs state (Put at txn counted) place sound e = (txn, refl)
has_pending confs state (CommitPending at turn) place (pending, is, here) e = (record { ops = pending.ops }, ap pending_txn is)
has_pending confs state (Work at job) place sound e = absurd cc

commit_by : (confs : List IndexConf) (state : State) (plan : Plan) (place : ℕ) (txn : Txn) → need_of plan ≡ needs.Commit place → pending_of state plan ≡ Some txn → IsSoundPlan confs state plan → Fits confs state
    → CanCommit confs place txn
commit_by confs state (Agree turn) place txn e is sound fits = absurd cc
commit_by confs state (Show set) place txn e is sound fits = absurd cc
commit_by confs state (Search at selection) place txn e is sound fits = absurd cc
commit_by confs state (Status at) place txn e is sound fits = absurd cc
commit_by confs state (Keep at pending affected) place txn e is sound fits = absurd cc
commit_by confs state (Put at pending counted) place txn e is sound fits =
    let here : at ≡ place = cc in
    let same : pending ≡ txn = cc in
    subst (λ (p : ℕ). CanCommit confs p txn) here (subst (λ (t : Txn). CanCommit confs at t) same sound)
commit_by confs state (CommitPending at turn) place txn e is (pending, there, index) fits =
    let here : pending.place ≡ place = cc in
    let whole : Txn = record { ops = pending.ops } in
    let same : whole ≡ txn = same_Some whole txn (sym (ap pending_txn there) ∙ is) in
    let can : CanCommit confs pending.place whole = subst (FitsPending confs) there fits in
    subst (λ (p : ℕ). CanCommit confs p txn) here (subst (λ (t : Txn). CanCommit confs pending.place t) same can)
commit_by confs state (Work at job) place txn e is sound fits = absurd cc

pub can_commit : (confs : List IndexConf) (state : State) (statement : Statement) (plan : Plan) (place : ℕ) (txn : Txn) → Wants confs state statement plan → need_of plan ≡ needs.Commit place → pending_of state plan ≡ Some txn
    → Fits confs state → CanCommit confs place txn
can_commit confs state statement plan place txn wants need is fits = commit_by confs state plan place txn need is (sound_plan confs state statement plan wants) fits

small_commit : (plan : Plan) (place : ℕ) → need_of plan ≡ needs.Commit place → reply_takes_memory plan ≡ false
small_commit (Agree turn) place e = refl
small_commit (Show set) place e = absurd cc
small_commit (Search at selection) place e = absurd cc
small_commit (Status at) place e = absurd cc
small_commit (Keep at txn affected) place e = absurd cc
small_commit (Put at txn counted) place e = refl
small_commit (CommitPending at turn) place e = refl
small_commit (Work at job) place e = refl

small_job : (plan : Plan) (place : ℕ) (job : Job) → need_of plan ≡ needs.Reshape place job → reply_takes_memory plan ≡ false
small_job (Agree turn) place job e = refl
small_job (Show set) place job e = absurd cc
small_job (Search at selection) place job e = absurd cc
small_job (Status at) place job e = absurd cc
small_job (Keep at txn affected) place job e = absurd cc
small_job (Put at txn counted) place job e = refl
small_job (CommitPending at turn) place job e = refl
small_job (Work at its) place job e = refl

-- what can be told to a plan that needs this
pub can_nothing : (plan : Plan) → need_of plan ≡ needs.Nothing → CanHave plan happenings.Nothing
can_nothing (Agree turn) e = tt
can_nothing (Show set) e = tt
can_nothing (Search place selection) e = absurd cc
can_nothing (Status place) e = absurd cc
can_nothing (Keep place txn affected) e = tt
can_nothing (Put place txn counted) e = absurd cc
can_nothing (CommitPending place turn) e = absurd cc
can_nothing (Work place job) e = absurd cc

pub can_outcome : (plan : Plan) (place : ℕ) (outcome : CommitOutcome) → need_of plan ≡ needs.Commit place → CanHave plan (happenings.Committing outcome)
can_outcome (Agree turn) place outcome e = absurd cc
can_outcome (Show set) place outcome e = absurd cc
can_outcome (Search at selection) place outcome e = absurd cc
can_outcome (Status at) place outcome e = absurd cc
can_outcome (Keep at txn affected) place outcome e = absurd cc
can_outcome (Put at txn counted) place outcome e = tt
can_outcome (CommitPending at turn) place outcome e = tt
can_outcome (Work at job) place outcome e = absurd cc

can_end : (plan : Plan) (place : ℕ) (job : Job) (outcome : JobOutcome) → need_of plan ≡ needs.Reshape place job → CanHave plan (happenings.Reshaping outcome)
can_end (Agree turn) place job outcome e = absurd cc
can_end (Show set) place job outcome e = absurd cc
can_end (Search at selection) place job outcome e = absurd cc
can_end (Status at) place job outcome e = absurd cc
can_end (Keep at txn affected) place job outcome e = absurd cc
can_end (Put at txn counted) place job outcome e = absurd cc
can_end (CommitPending at turn) place job outcome e = absurd cc
can_end (Work at its) place job outcome e = tt

pub can_want : (plan : Plan) → CanHave plan happenings.NoMemory
can_want (Agree turn) = tt
can_want (Show set) = tt
can_want (Search place selection) = tt
can_want (Status place) = tt
can_want (Keep place txn affected) = tt
can_want (Put place txn counted) = tt
can_want (CommitPending place turn) = tt
can_want (Work place job) = tt

-- the index that a plan reads is there
read_within : (confs : List IndexConf) (state : State) (plan : Plan) (place : ℕ) → need_of plan ≡ needs.Read place → IsSoundPlan confs state plan → place < length confs
read_within confs state (Agree turn) place e sound = absurd cc
read_within confs state (Show set) place e sound = absurd cc
read_within confs state (Search at selection) place e (conf, is, asked) =
    let here : at ≡ place = cc in
    subst (λ (p : ℕ). p < length confs) here (slice_get_within confs at conf is)
read_within confs state (Status at) place e (conf, is) =
    let here : at ≡ place = cc in
    subst (λ (p : ℕ). p < length confs) here (slice_get_within confs at conf is)
read_within confs state (Keep at txn affected) place e sound = absurd cc
read_within confs state (Put at txn counted) place e sound = absurd cc
read_within confs state (CommitPending at turn) place e sound = absurd cc
read_within confs state (Work at job) place e sound = absurd cc

-- and so is the index that a job is over
job_within : (confs : List IndexConf) (state : State) (plan : Plan) (place : ℕ) (job : Job) → need_of plan ≡ needs.Reshape place job → IsSoundPlan confs state plan → place < length confs
job_within confs state (Agree turn) place job e sound = absurd cc
job_within confs state (Show set) place job e sound = absurd cc
job_within confs state (Search at selection) place job e sound = absurd cc
job_within confs state (Status at) place job e sound = absurd cc
job_within confs state (Keep at txn affected) place job e sound = absurd cc
job_within confs state (Put at txn counted) place job e sound = absurd cc
job_within confs state (CommitPending at turn) place job e sound = absurd cc
job_within confs state (Work at its) place job e (conf, is) =
    let here : at ≡ place = cc in
    subst (λ (p : ℕ). p < length confs) here (slice_get_within confs at conf is)

-- the reply to what was read of an index can be asked for: its rows are of the columns that the question was asked for
can_read : (confs : List IndexConf) (state : State) (plan : Plan) (place : ℕ) (front : SnapshotValue) (conf : IndexConf) → need_of plan ≡ needs.Read place → IsSoundPlan confs state plan
    → slice_get confs place ≡ Some conf → IsSchema conf.schema → All (λ layer. AreRowsOf conf.schema layer.rows) front.layers
    → CanHave plan (happenings.Read front)
can_read confs state (Agree turn) place front conf e sound here schema rows = absurd cc
can_read confs state (Show set) place front conf e sound here schema rows = absurd cc
can_read confs state (Search at selection) place front conf e sound here schema rows =
    let same : at ≡ place = cc in
    let both : Some sound.0 ≡ Some conf = sym (subst (λ (p : ℕ). slice_get confs p ≡ Some sound.0) same sound.1) ∙ here in
    let is : sound.0 ≡ conf = ap (λ (o : Option IndexConf). unwrap_or o conf) both in
    (conf.schema, subst (λ (c : IndexConf). IsSchema c.schema → IsReadOf c.schema selection.asked.question) is sound.2 schema, rows)
can_read confs state (Status at) place front conf e sound here schema rows = tt
can_read confs state (Keep at txn affected) place front conf e sound here schema rows = absurd cc
can_read confs state (Put at txn counted) place front conf e sound here schema rows = absurd cc
can_read confs state (CommitPending at turn) place front conf e sound here schema rows = absurd cc
can_read confs state (Work at job) place front conf e sound here schema rows = absurd cc

-- ---- what a session at a statement can be told
at_some : (standing : Standing) (plan : Plan) (happened : Happened) → standing.plan ≡ Some plan → CanHave plan happened → IsSomeAnd standing.plan (λ p. CanHave p happened)
at_some standing plan happened at can = subst (λ (o : Option Plan). IsSomeAnd o (λ p. CanHave p happened)) (sym at) can

pub told_nothing : (confs : List IndexConf) (statement : Statement) (standing : Standing) → IsAt confs statement standing needs.Nothing → IsSomeAnd standing.plan (λ p. CanHave p happenings.Nothing)
told_nothing confs statement standing at = at_some standing at.plan happenings.Nothing at.at (can_nothing at.plan at.is)

pub told_want : (confs : List IndexConf) (statement : Statement) (standing : Standing) (need : Need) → IsAt confs statement standing need → IsSomeAnd standing.plan (λ p. CanHave p happenings.NoMemory)
told_want confs statement standing need at = at_some standing at.plan happenings.NoMemory at.at (can_want at.plan)

pub told_outcome : (confs : List IndexConf) (statement : Statement) (standing : Standing) (place : ℕ) (outcome : CommitOutcome) → IsAt confs statement standing (needs.Commit place)
    → IsSomeAnd standing.plan (λ p. CanHave p (happenings.Committing outcome))
told_outcome confs statement standing place outcome at = at_some standing at.plan (happenings.Committing outcome) at.at (can_outcome at.plan place outcome at.is)

pub told_end : (confs : List IndexConf) (statement : Statement) (standing : Standing) (place : ℕ) (job : Job) (outcome : JobOutcome) → IsAt confs statement standing (needs.Reshape place job)
    → IsSomeAnd standing.plan (λ p. CanHave p (happenings.Reshaping outcome))
told_end confs statement standing place job outcome at = at_some standing at.plan (happenings.Reshaping outcome) at.at (can_end at.plan place job outcome at.is)

pub told_read : (confs : List IndexConf) (statement : Statement) (standing : Standing) (place : ℕ) (front seen : SnapshotValue) → IsAt confs statement standing (needs.Read place) → seen ≡ front
    → (conf : IndexConf) × (slice_get confs place ≡ Some conf) × IsSchema conf.schema × All (λ layer. AreRowsOf conf.schema layer.rows) front.layers
    → IsSomeAnd standing.plan (λ p. CanHave p (happenings.Read seen))
told_read confs statement standing place front seen at sees (conf, here, schema, rows) =
    at_some standing at.plan (happenings.Read seen) at.at
    (can_read confs standing.state at.plan place seen conf at.is (sound_plan confs standing.state statement at.plan at.wants) here schema
    (subst (λ (s : SnapshotValue). All (λ layer. AreRowsOf conf.schema layer.rows) s.layers) (sym sees) rows))

-- the index that is read is there
pub reads_within : (confs : List IndexConf) (statement : Statement) (standing : Standing) (place : ℕ) → IsAt confs statement standing (needs.Read place) → place < length confs
reads_within confs statement standing place at = read_within confs standing.state at.plan place at.is (sound_plan confs standing.state statement at.plan at.wants)

pub jobs_within : (confs : List IndexConf) (statement : Statement) (standing : Standing) (place : ℕ) (job : Job) → IsAt confs statement standing (needs.Reshape place job) → place < length confs
jobs_within confs statement standing place job at = job_within confs standing.state at.plan place job at.is (sound_plan confs standing.state statement at.plan at.wants)

-- the transaction of a session that is at a commit
pub pending_at : (confs : List IndexConf) (statement : Statement) (standing : Standing) (place : ℕ) (txn : Txn) → (at : IsAt confs statement standing (needs.Commit place))
    → IsSomeAnd standing.plan (λ plan. pending_of standing.state plan ≡ Some txn) → pending_of standing.state at.plan ≡ Some txn
pending_at confs statement standing place txn at is = subst (λ (o : Option Plan). IsSomeAnd o (λ plan. pending_of standing.state plan ≡ Some txn)) at.at is

pub can_be_committed : (confs : List IndexConf) (statement : Statement) (standing : Standing) (place : ℕ) (txn : Txn) → IsAt confs statement standing (needs.Commit place)
    → IsSomeAnd standing.plan (λ plan. pending_of standing.state plan ≡ Some txn) → Fits confs standing.state
    → (conf : IndexConf) × (slice_get confs place ≡ Some conf) × IsTxnOf conf.schema txn
can_be_committed confs statement standing place txn at is fits =
    let can = can_commit confs standing.state statement at.plan place txn at.wants at.is (pending_at confs statement standing place txn at is) fits in
    (can.conf, can.is, can.of)

pub is_pending : (confs : List IndexConf) (statement : Statement) (standing : Standing) (place : ℕ) → IsAt confs statement standing (needs.Commit place)
    → IsSomeAnd standing.plan (λ plan. (txn : Txn) × (pending_of standing.state plan ≡ Some txn))
is_pending confs statement standing place at =
    subst (λ (o : Option Plan). IsSomeAnd o (λ plan. (txn : Txn) × (pending_of standing.state plan ≡ Some txn))) (sym at.at) (has_pending confs standing.state at.plan place (sound_plan confs standing.state statement at.plan at.wants) at.is)

-- ---- what was said
-- after want of memory the session is as before
same_after : (plan : Plan) (state : State) → next_of plan happenings.NoMemory (Fails no_memory) state ≡ state
same_after (Agree turn) state = refl
same_after (Show set) state = refl
same_after (Search place selection) state = refl
same_after (Status place) state = refl
same_after (Keep place txn affected) state = refl
same_after (Put place txn counted) state = refl
same_after (CommitPending place turn) state = refl
same_after (Work place job) state = refl

module _ {D F : Type 0} (confs : D → List IndexConf) (words : StoreWords D F) where
  -- a statement whose memory was refused
  pub runs_want : (before after : D) (old new : State) (statement : Statement) (reply : Reply) (more : Bool) (out longer : Written)
      → TakesMemory old statement → reply ≡ Fails no_memory → new ≡ old → words.settles before after → confs after ≡ confs before → (longer ≡ replied out (status_of new more) reply)
      → Runs confs words before old statement more after new out longer
  runs_want before after old new statement reply more out longer takes is stays settles same says = record {
    event = NoMemory;
    reply = reply;
    replies = inr (inr (takes, refl, is, stays));
    follows = settles;
    same = same;
    fits = λ fits. fits_after words.documents (confs before) (confs after) old new statement NoMemory reply (inr (inr (takes, refl, is, stays))) same fits;
    says = says;
  }

  -- a statement that wanted something, of which the event came
  runs_by : (before after : D) (old new : State) (statement : Statement) (plan : Plan) (event : Event F) (reply : Reply) (more : Bool) (out longer : Written)
      → Wants (confs before) old statement plan → Meets (need_of plan) (pending_of old plan) event → Follows confs words before event after → confs after ≡ confs before
      → (reply_takes_memory plan ≡ true → words.settles before after)
      → Says plan old (told words.documents event) reply new → (longer ≡ replied out (status_of new more) reply)
      → Runs confs words before old statement more after new out longer
  runs_by before after old new statement plan event reply more out longer wants meets follows same settles (inl (decides, next)) says = record {
    event = event;
    reply = reply;
    replies = inr (inl (plan, wants, meets, decides, next));
    follows = follows;
    same = same;
    fits = λ fits. fits_after words.documents (confs before) (confs after) old new statement event reply (inr (inl (plan, wants, meets, decides, next))) same fits;
    says = says;
  }
  runs_by before after old new statement plan event reply more out longer wants meets follows same settles (inr (takes, is, stays)) says =
      runs_want before after old new statement reply more out longer (takes_by_room (confs before) old statement plan wants takes) is stays (settles takes) same says

  -- what was replied to the plan that the session is at
  said_of : (standing : Standing) (plan : Plan) (happened : Happened) (more : Bool) (new : State) (out longer : Written) → standing.plan ≡ Some plan
      → RepliesPlan standing happened more new out longer → (reply : Reply) × Says plan standing.state happened reply new × (longer ≡ replied out (status_of new more) reply)
  said_of standing plan happened more new out longer at (said, reply, is, says, put) =
      let same : said ≡ plan = ap (λ (o : Option Plan). unwrap_or o plan) (sym is ∙ at) in
      (reply, subst (λ (p : Plan). Says p standing.state happened reply new) same says, put)

  pub runs_nothing : (tables : D) (standing : Standing) (new : State) (statement : Statement) (more : Bool) (out longer : Written)
      → words.settles tables tables → IsAt (confs tables) statement standing needs.Nothing → RepliesPlan standing happenings.Nothing more new out longer
      → Runs confs words tables standing.state statement more tables new out longer
  runs_nothing tables standing new statement more out longer stays at replies =
      let (reply, says, put) = said_of standing at.plan happenings.Nothing more new out longer at.at replies in
      let meets : Meets {F = F} (need_of at.plan) (pending_of standing.state at.plan) Nothing =
      subst (λ (need : Need). Meets {F = F} need (pending_of standing.state at.plan) Nothing) (sym at.is) tt in
      runs_by tables tables standing.state new statement at.plan Nothing reply more out longer at.wants meets refl refl (λ takes. stays) says put

  pub runs_read : (before after : D) (standing : Standing) (new : State) (statement : Statement) (place : ℕ) (snapshot seen : SnapshotValue) (more : Bool) (out longer : Written)
      → IsAt (confs before) statement standing (needs.Read place) → seen ≡ snapshot → (front : F) × (snapshot ≡ words.documents front) × Follows confs words before (Read place front) after → confs after ≡ confs before
      → RepliesPlan standing (happenings.Read seen) more new out longer → Runs confs words before standing.state statement more after new out longer
  runs_read before after standing new statement place snapshot seen more out longer at sees (front, is, follows) same replies =
      let (reply, says, put) = said_of standing at.plan (happenings.Read seen) more new out longer at.at replies in
      let meets : Meets (need_of at.plan) (pending_of standing.state at.plan) (Read place front) =
      subst (λ (need : Need). Meets need (pending_of standing.state at.plan) (Read place front)) (sym at.is) refl in
      runs_by before after standing.state new statement at.plan (Read place front) reply more out longer at.wants meets follows same (λ takes. follows.0)
      (subst (λ (s : SnapshotValue). Says at.plan standing.state (happenings.Read s) reply new) (sees ∙ is) says) put

  pub runs_commit : (before after : D) (standing : Standing) (new : State) (statement : Statement) (place : ℕ) (txn : Txn) (outcome : CommitOutcome) (more : Bool) (out longer : Written)
      → (at : IsAt (confs before) statement standing (needs.Commit place)) → IsSomeAnd standing.plan (λ plan. pending_of standing.state plan ≡ Some txn)
      → (front : F) × Follows confs words before (Commit place txn.ops outcome front) after → confs after ≡ confs before
      → RepliesPlan standing (happenings.Committing outcome) more new out longer → Runs confs words before standing.state statement more after new out longer
  runs_commit before after standing new statement place txn outcome more out longer at pending (front, follows) same replies =
      let (reply, says, put) = said_of standing at.plan (happenings.Committing outcome) more new out longer at.at replies in
      let meets : Meets (need_of at.plan) (pending_of standing.state at.plan) (Commit place txn.ops outcome front) =
      subst (λ (need : Need). Meets need (pending_of standing.state at.plan) (Commit place txn.ops outcome front)) (sym at.is)
      (refl, pending_at (confs before) statement standing place txn at pending) in
      runs_by before after standing.state new statement at.plan (Commit place txn.ops outcome front) reply more out longer at.wants meets follows same
      (λ takes. absurd (let clash : true ≡ false = sym takes ∙ small_commit at.plan place at.is in cc)) says put

  pub runs_job : (before after : D) (standing : Standing) (new : State) (statement : Statement) (place : ℕ) (job : Job) (outcome : JobOutcome) (more : Bool) (out longer : Written)
      → (at : IsAt (confs before) statement standing (needs.Reshape place job)) → (own : F) × (front : F) × Follows confs words before (Reshape place job outcome own front) after → confs after ≡ confs before
      → RepliesPlan standing (happenings.Reshaping outcome) more new out longer → Runs confs words before standing.state statement more after new out longer
  runs_job before after standing new statement place job outcome more out longer at (own, front, follows) same replies =
      let (reply, says, put) = said_of standing at.plan (happenings.Reshaping outcome) more new out longer at.at replies in
      let meets : Meets (need_of at.plan) (pending_of standing.state at.plan) (Reshape place job outcome own front) =
      subst (λ (need : Need). Meets need (pending_of standing.state at.plan) (Reshape place job outcome own front)) (sym at.is) (refl, refl) in
      runs_by before after standing.state new statement at.plan (Reshape place job outcome own front) reply more out longer at.wants meets follows same
      (λ takes. absurd (let clash : true ≡ false = sym takes ∙ small_job at.plan place job at.is in cc)) says put

  -- memory was refused to what a plan needs
  pub runs_without : (before after : D) (standing : Standing) (new : State) (statement : Statement) (need : Need) (more : Bool) (out longer : Written)
      → (at : IsAt (confs before) statement standing need) → need ≢ needs.Nothing → words.settles before after → confs after ≡ confs before
      → RepliesPlan standing happenings.NoMemory more new out longer → Runs confs words before standing.state statement more after new out longer
  runs_without before after standing new statement need more out longer at some settles same replies =
      let (reply, says, put) = said_of standing at.plan happenings.NoMemory more new out longer at.at replies in
      let takes : TakesMemory standing.state statement = takes_by_need (confs before) standing.state statement at.plan at.wants (λ none. some (sym at.is ∙ none)) in
      let told : (reply ≡ Fails no_memory) × (new ≡ standing.state) = elim says [
        | inl h ↦ (
          without_memory at.plan reply h.0,
          h.1 ∙ ap (λ (r : Reply). next_of at.plan happenings.NoMemory r standing.state) (without_memory at.plan reply h.0) ∙ same_after at.plan standing.state,
        )
        | inr h ↦ (h.1, h.2)
      ] in
      runs_want before after standing.state new statement reply more out longer takes told.0 told.1 settles same put

-- ---- what is said by an answer that nothing is wanted
pub needs_memory : (confs : List IndexConf) (old : Standing) (statement : Statement) (error : Or Refused) (new : Standing) → error ≡ causes.NoMemory → Needs confs old statement (Err error) new
    → TakesMemory old.state statement × (new.state ≡ old.state)
needs_memory confs old statement error new is needs =
    let both = subst (λ (e : Or Refused). Needs confs old statement (Err e) new) is needs in
    (both.0, ap (λ (standing : Standing). standing.state) both.1)

pub needs_none : (confs : List IndexConf) (old : Standing) (statement : Statement) (error : Or Refused) (refusal : Refused) (new : Standing) → error ≡ causes.Fault refusal → Needs confs old statement (Err error) new
    → Refuses confs old.state statement refusal × (new.state ≡ old.state)
needs_none confs old statement error refusal new is needs =
    let both = subst (λ (e : Or Refused). Needs confs old statement (Err e) new) is needs in
    (both.0, ap (λ (standing : Standing). standing.state) both.1)

-- the session is at a statement that needs this
pub is_at : (confs : List IndexConf) (old new : Standing) (statement : Statement) (need : Need) (plan : Plan) → Wants confs old.state statement plan → need ≡ need_of plan → new ≡ at_plan old.state plan
    → IsAt confs statement new need
is_at confs old new statement need plan wants is at = record {
  plan = plan;
  wants = subst (λ (s : State). Wants confs s statement plan) (sym (ap (λ (standing : Standing). standing.state) at)) wants;
  at = ap (λ (standing : Standing). standing.plan) at;
  is = sym is;
}
