-- Two lines over the same documents that read the same bytes write the same, where nothing troubled either. Either as many chunks are on
-- the disk whenever an index is read; or, in quiet lines, no SHOW INDEX STATUS was answered, and nothing is said of chunks.
use Rattle.std.proofs.Common.{◌≡◌, ℕ, ◌+◌, ◌<◌, List, [], ◌∷◌, ◌++◌, Bool, true, false, length, Some, refl, sym, ap, subst, ◌∙◌, inl, inr, ⊎_elim}
use Rattle.std.specs.Prelude.{⊤, Option}
use Rattle.std.specs.List.{fold}
use Rattle.std.proofs.lemmas.Bool.{cases_eq}
use Rattle.std.proofs.lemmas.Option.{same_Some}
use Rattle.srch_base.specs.Moves.{Meters}
use Rattle.mysql_wire.specs.Commands.{ClientCommand, Quit as asks_quit, InitDb, Query, Ping, SetOption, Unknown}
use Rattle.mysql_wire.specs.Fronts.{Front, HasFront}
use Rattle.mysql_wire.specs.Handshake.{IsBadResponse, IsResponse, Response}
use Rattle.mysql_wire.specs.Packets.{packets_from, sequence_after}
use Rattle.serve_line.specs.Line.{EndsByClient, Ends, Opened}
use Rattle.serve_line.specs.Machines.{FollowAll}
use Rattle.serve_line.specs.declared.line.LinkEnd.{LinkEnd}
use Rattle.serve_line.proofs.SameReplies.{same_lines}
use Rattle.doc_types.specs.Commits.{Accepted, Change, Duplicate, after_change, verdict}
use Rattle.doc_types.specs.Snapshots.{AreLayers, SnapshotValue, live}
use Rattle.doc_types.specs.declared.transactions.Txn.{Txn}
use Rattle.doc_types.specs.declared.transactions.TxnOp.{TxnOp}
use Rattle.commit_outcomes.specs.declared.outcome.CommitOutcome.{CommitOutcome}
use Rattle.commit_outcomes.specs.declared.outcome.CommitOutcome.TheVariants as outcomes
use Rattle.index_conf.specs.declared.conf.IndexConf.{IndexConf}
use Rattle.ql_tree.specs.declared.statement.Statement.{Statement}
use Rattle.ql_refusals.specs.Refusals.{Refused}
use Rattle.ql_answers.specs.declared.event.Need.{Need}
use Rattle.ql_answers.specs.declared.event.Need.TheVariants as needs
use Rattle.ql_answers.specs.declared.plan.Plan.{Plan}
use Rattle.ql_answers.specs.declared.state.State.{State}
use Rattle.ql_answers.specs.Plans.{Refuses, Wants}
use Rattle.ql_answers.specs.Replies.{Fails, Reply, is_refusal, payloads}
use Rattle.ql_answers.specs.Sessions.{AreAlike, Decides, Happened, disk_count, need_of, next_of, pending_of}
use Rattle.ql_answers.specs.States.{new_state, status_of}
use Rattle.ql_session.specs.Events as happened
use Rattle.ql_session.specs.Events.{Commit, Configured, NoMemory, Nothing, Read, Reshape}
use Rattle.ql_session.specs.JobOutcome.{JobOutcome}
use Rattle.ql_session.specs.JobOutcome.TheVariants as job_outcomes
use Rattle.step_history.specs.declared.job.Job.{Job}
use Rattle.line_workers.specs.Alone.{IsDone}
use Rattle.line_workers.proofs.Stands.{Plain, SameChunks, Stand, chunks_as, chunks_left, look_so}
use Rattle.line_workers.proofs.Quiet.{Fits, IsQuiet, IsQuietText, QuietAnswers, fits_so, quiet_machine, rest_false, text_quiet}
use Rattle.ql_session.specs.Statements.{AnswersText, AreAnswered, Meets, RefusesText, Replies, States, is_more, told}
use Rattle.line_workers.proofs.Plainly.{itself}

abbrev Event : Type 0
Event = happened.Event SnapshotValue

-- The commit was made: its changes over the documents before it.
pub record Makes (ops : List TxnOp) (removed : ℕ) (old new : Plain) : Type 0 where
  pub changes : List Change
  pub verdict : verdict ops old.rows ≡ Accepted changes removed
  pub is : new ≡ record { number = old.number + 1; rows = fold (after_change (old.number + 1)) old.rows changes }

-- what a commit says of the documents before it, and leaves
abbrev pub Turns : List TxnOp → CommitOutcome → Plain → Plain → Type 0
Turns ops (outcomes.Committed removed) old new = Makes ops removed old new
Turns ops (outcomes.Duplicate id) old new = (verdict ops old.rows ≡ Duplicate id) × (new ≡ old)
Turns ops (outcomes.Full full) old new = ⊥
Turns ops outcomes.Refused old new = ⊥
Turns ops (outcomes.InDoubt doubt) old new = ⊥
Turns ops (outcomes.Strayed numbers) old new = ⊥

-- The front has these documents, in layers as a snapshot has them.
pub record IsShown (plain : Plain) (front : SnapshotValue) : Type 0 where
  pub layers : AreLayers front.layers
  pub rows : live front ≡ plain.rows

abbrev pub Keeps : Stand → Stand → Type 0
Keeps old new = ((p : ℕ) → new.of p ≡ old.of p) × (new.chunks ≡ old.chunks)

-- one verdict has one list of changes
same_changes : (changes its : List Change) (removed its_removed : ℕ) → Accepted changes removed ≡ Accepted its its_removed → changes ≡ its
same_changes changes its removed its_removed is = cc is

same_removed : (changes its : List Change) (removed its_removed : ℕ) → Accepted changes removed ≡ Accepted its its_removed → removed ≡ its_removed
same_removed changes its removed its_removed is = cc is

same_id : (id other : ℕ) → Duplicate id ≡ Duplicate other → id ≡ other
same_id id other is = cc is

never_both_verdicts : (changes : List Change) (removed id : ℕ) → Accepted changes removed ≡ Duplicate id → ⊥
never_both_verdicts changes removed id is = cc is

-- a commit over the same documents has one outcome and leaves the same
one_outcome : (ops : List TxnOp) (a b : CommitOutcome) (old new left : Plain) → Turns ops a old new → Turns ops b old left → (a ≡ b) × (new ≡ left)
one_outcome ops (outcomes.Committed removed) (outcomes.Committed its) old new left one two =
    let both : Accepted one.changes removed ≡ Accepted two.changes its = sym one.verdict ∙ two.verdict in (
      ap outcomes.Committed (same_removed one.changes two.changes removed its both),
      one.is ∙ ap (λ (cs : List Change). record { number = old.number + 1; rows = fold (after_change (old.number + 1)) old.rows cs }) (same_changes one.changes two.changes removed its both) ∙ sym two.is,
    )
one_outcome ops (outcomes.Committed removed) (outcomes.Duplicate id) old new left one two = absurd (never_both_verdicts one.changes removed id (sym one.verdict ∙ two.0))
one_outcome ops (outcomes.Duplicate id) (outcomes.Committed removed) old new left one two = absurd (never_both_verdicts two.changes removed id (sym two.verdict ∙ one.0))
one_outcome ops (outcomes.Duplicate id) (outcomes.Duplicate other) old new left one two = (ap outcomes.Duplicate (same_id id other (sym one.0 ∙ two.0)), one.1 ∙ sym two.1)
one_outcome ops (outcomes.Committed removed) (outcomes.Full full) old new left one two = absurd two
one_outcome ops (outcomes.Committed removed) outcomes.Refused old new left one two = absurd two
one_outcome ops (outcomes.Committed removed) (outcomes.InDoubt doubt) old new left one two = absurd two
one_outcome ops (outcomes.Committed removed) (outcomes.Strayed numbers) old new left one two = absurd two
one_outcome ops (outcomes.Duplicate id) (outcomes.Full full) old new left one two = absurd two
one_outcome ops (outcomes.Duplicate id) outcomes.Refused old new left one two = absurd two
one_outcome ops (outcomes.Duplicate id) (outcomes.InDoubt doubt) old new left one two = absurd two
one_outcome ops (outcomes.Duplicate id) (outcomes.Strayed numbers) old new left one two = absurd two
one_outcome ops (outcomes.Full full) b old new left one two = absurd one
one_outcome ops outcomes.Refused b old new left one two = absurd one
one_outcome ops (outcomes.InDoubt doubt) b old new left one two = absurd one
one_outcome ops (outcomes.Strayed numbers) b old new left one two = absurd one

abbrev tells : Event → Happened
tells = told itself

abbrev AnswersStatements : List IndexConf → State → ℕ → Bool → List Statement → List Event → List ℕ → State → Type 0
AnswersStatements = AreAnswered itself

abbrev RepliesTo : List IndexConf → State → Statement → Event → Reply → State → Type 0
RepliesTo = Replies itself

-- ---- what the event of each need is
nothing_did : (pending : Option Txn) (event : Event) → Meets needs.Nothing pending event → event ≡ Nothing
nothing_did pending Nothing meets = refl
nothing_did pending event meets = absurd meets

read_did : (place : ℕ) (pending : Option Txn) (event : Event) → Meets (needs.Read place) pending event → (front : SnapshotValue) × (event ≡ Read place front)
read_did place pending (Read at front) meets = (front, ap (λ (n : ℕ). Read n front) meets)
read_did place pending event meets = absurd meets

-- a commit of these operations to the index at this place
record Put (place : ℕ) (pending : Option Txn) (event : Event) : Type 0 where
  pub ops : List TxnOp
  pub outcome : CommitOutcome
  pub front : SnapshotValue
  pub is : event ≡ Commit place ops outcome front
  pub of : pending ≡ Some (record { ops = ops })

commit_did : (place : ℕ) (pending : Option Txn) (event : Event) → Meets (needs.Commit place) pending event → Put place pending event
commit_did place pending (Commit at ops outcome front) (here, of) = record { ops = ops; outcome = outcome; front = front; is = ap (λ (n : ℕ). Commit n ops outcome front) here; of = of }
commit_did place pending event meets = absurd meets

-- this job over the index at this place
record Work (place : ℕ) (job : Job) (event : Event) : Type 0 where
  pub outcome : JobOutcome
  pub own : SnapshotValue
  pub front : SnapshotValue
  pub is : event ≡ Reshape place job outcome own front

job_did : (place : ℕ) (job : Job) (pending : Option Txn) (event : Event) → Meets (needs.Reshape place job) pending event → Work place job event
job_did place job pending (Reshape at does outcome own front) (here, same) = record { outcome = outcome; own = own; front = front; is = ap (λ (n : ℕ). Reshape n does outcome own front) here ∙ ap (λ (j : Job). Reshape place j outcome own front) same }
job_did place job pending event meets = absurd meets

-- jobs that have ended have one outcome
one_end : (outcome other : JobOutcome) → IsDone outcome → IsDone other → outcome ≡ other
one_end job_outcomes.Shaped job_outcomes.Shaped done done' = refl
one_end job_outcomes.Shaped (job_outcomes.Overtaken shape) done done' = absurd done'
one_end job_outcomes.Shaped (job_outcomes.Full full) done done' = absurd done'
one_end job_outcomes.Shaped job_outcomes.Refused done done' = absurd done'
one_end job_outcomes.Shaped job_outcomes.InDoubt done done' = absurd done'
one_end job_outcomes.Shaped (job_outcomes.Strayed numbers) done done' = absurd done'
one_end (job_outcomes.Overtaken shape) other done done' = absurd done
one_end (job_outcomes.Full full) other done done' = absurd done
one_end job_outcomes.Refused other done done' = absurd done
one_end job_outcomes.InDoubt other done done' = absurd done
one_end (job_outcomes.Strayed numbers) other done done' = absurd done

-- one transaction has one list of operations
same_ops : (pending : Option Txn) (ops its : List TxnOp) → pending ≡ Some (record { ops = ops }) → pending ≡ Some (record { ops = its }) → ops ≡ its
same_ops pending ops its one two =
    let a : Txn = record { ops = ops } in
    let b : Txn = record { ops = its } in
    ap (λ (txn : Txn). txn.ops) (same_Some a b (sym one ∙ two))

module _ (confs : List IndexConf) where
  -- what an event tells of the documents of the indexes, and leaves
  abbrev pub Leads : Stand → Event → Stand → Type 0
  Leads old (Configured cs) new = (cs ≡ confs) × Keeps old new
  Leads old Nothing new = Keeps old new
  Leads old NoMemory new = ⊥
  Leads old (Read place front) new = (place < length confs) × IsShown (old.of place) front × (old.chunks ≡ disk_count front ∷ new.chunks) × ((p : ℕ) → new.of p ≡ old.of p)
  Leads old (Commit place ops outcome front) new =
      (place < length confs) × Turns ops outcome (old.of place) (new.of place) × ((p : ℕ) → (place ≡ p → ⊥) → new.of p ≡ old.of p) × (new.chunks ≡ old.chunks)
  Leads old (Reshape place job outcome own front) new = IsDone outcome × Keeps old new

  module _ (quiet : Bool) where
    -- the indexes have the same documents, and as many chunks where they are still read
    abbrev pub Alike : Stand → Stand → Type 0
    Alike a b = ((p : ℕ) → p < length confs → a.of p ≡ b.of p) × SameChunks quiet a b

    alike_as : (old old' new new' : Stand) → Keeps old new → Keeps old' new' → Alike old old' → Alike new new'
    alike_as old old' new new' keeps keeps' alike = (λ p below. keeps.0 p ∙ alike.0 p below ∙ sym (keeps'.0 p), chunks_as quiet old old' new new' keeps.1 keeps'.1 alike.1)

    -- The same happened, whatever was wanted of what a line may want, and left the same documents.
    record SameHappened (event other : Event) (new left : Stand) : Type 0 where
      pub alike : (plan : Plan) → Fits quiet plan → AreAlike plan (tells event) (tells other)
      pub rows : Alike new left

    same_as : (event event' is is' : Event) (new left : Stand) → event ≡ is → event' ≡ is' → SameHappened is is' new left → SameHappened event event' new left
    same_as event event' is is' new left e e' same =
        subst (λ (x : Event). SameHappened x event' new left) (sym e) (subst (λ (x : Event). SameHappened is x new left) (sym e') same)

    read_alike : (place : ℕ) (front other : SnapshotValue) (old old' new new' : Stand) → Alike old old' → Leads old (Read place front) new → Leads old' (Read place other) new'
        → SameHappened (Read place front) (Read place other) new new'
    read_alike place front other old old' new new' alike (below, shown, counts, keeps) (below', shown', counts', keeps') =
        record {
          alike = λ plan fits. (
            shown.layers,
            shown'.layers,
            shown.rows ∙ ap (λ (plain : Plain). plain.rows) (alike.0 place below) ∙ sym shown'.rows,
            look_so quiet plan front other old old' new new' fits counts counts' alike.1,
          );
          rows = (λ p inside. keeps p ∙ alike.0 p inside ∙ sym (keeps' p), chunks_left quiet front other old old' new new' counts counts' alike.1);
        }

    commit_alike : (place : ℕ) (ops : List TxnOp) (outcome other : CommitOutcome) (front its : SnapshotValue) (old old' new new' : Stand) → Alike old old' → Leads old (Commit place ops outcome front) new
        → Leads old' (Commit place ops other its) new' → SameHappened (Commit place ops outcome front) (Commit place ops other its) new new'
    commit_alike place ops outcome other front its old old' new new' alike (below, turns, keeps, counts) (below', turns', keeps', counts') =
        let both = one_outcome ops outcome other (old.of place) (new.of place) (new'.of place) turns (subst (λ (plain : Plain). Turns ops other plain (new'.of place)) (sym (alike.0 place below)) turns') in
        record {
          alike = λ plan fits. both.0;
          rows = (
            λ p inside. ⊎_elim (λ (here : place ≡ p). subst (λ (q : ℕ). new.of q ≡ new'.of q) here both.1) (λ (apart : place ≡ p → ⊥). keeps p apart ∙ alike.0 p inside ∙ sym (keeps' p apart)) (cases_eq place p),
            chunks_as quiet old old' new new' counts counts' alike.1,
          );
        }

    job_alike : (place : ℕ) (job : Job) (outcome other : JobOutcome) (own front its_own its : SnapshotValue) (old old' new new' : Stand) → Alike old old' → Leads old (Reshape place job outcome own front) new
        → Leads old' (Reshape place job other its_own its) new' → SameHappened (Reshape place job outcome own front) (Reshape place job other its_own its) new new'
    job_alike place job outcome other own front its_own its old old' new new' alike (done, keeps) (done', keeps') =
        record { alike = λ plan fits. one_end outcome other done done'; rows = alike_as old old' new new' keeps keeps' alike }

    met_alike : (need : Need) (pending : Option Txn) (event event' : Event) (old old' new new' : Stand) → Alike old old' → Meets need pending event → Meets need pending event' → Leads old event new
        → Leads old' event' new' → SameHappened event event' new new'
    met_alike needs.Nothing pending event event' old old' new new' alike meets meets' follows follows' =
        let is : event ≡ Nothing = nothing_did pending event meets in
        let is' : event' ≡ Nothing = nothing_did pending event' meets' in
        same_as event event' Nothing Nothing new new' is is' (record {
          alike = λ plan fits. tt;
          rows = alike_as old old' new new' (subst (λ (e : Event). Leads old e new) is follows) (subst (λ (e : Event). Leads old' e new') is' follows') alike;
        })
    met_alike (needs.Read place) pending event event' old old' new new' alike meets meets' follows follows' =
        let (front, is) = read_did place pending event meets in
        let (other, is') = read_did place pending event' meets' in
        same_as event event' (Read place front) (Read place other) new new' is is'
        (read_alike place front other old old' new new' alike (subst (λ (e : Event). Leads old e new) is follows) (subst (λ (e : Event). Leads old' e new') is' follows'))
    met_alike (needs.Commit place) pending event event' old old' new new' alike meets meets' follows follows' =
        let one = commit_did place pending event meets in
        let two = commit_did place pending event' meets' in
        let ops : two.ops ≡ one.ops = same_ops pending two.ops one.ops two.of one.of in
        let is' : event' ≡ Commit place one.ops two.outcome two.front = two.is ∙ ap (λ (list : List TxnOp). Commit place list two.outcome two.front) ops in
        same_as event event' (Commit place one.ops one.outcome one.front) (Commit place one.ops two.outcome two.front) new new' one.is is'
        (commit_alike place one.ops one.outcome two.outcome one.front two.front old old' new new' alike (subst (λ (e : Event). Leads old e new) one.is follows) (subst (λ (e : Event). Leads old' e new') is' follows'))
    met_alike (needs.Reshape place job) pending event event' old old' new new' alike meets meets' follows follows' =
        let one = job_did place job pending event meets in
        let two = job_did place job pending event' meets' in
        same_as event event' (Reshape place job one.outcome one.own one.front) (Reshape place job two.outcome two.own two.front) new new' one.is two.is
        (job_alike place job one.outcome two.outcome one.own one.front two.own two.front old old' new new' alike (subst (λ (e : Event). Leads old e new) one.is follows) (subst (λ (e : Event). Leads old' e new') two.is follows'))

    -- an event of nothing leaves the documents
    kept_by_nothing : (event : Event) (old new : Stand) → event ≡ Nothing → Leads old event new → Keeps old new
    kept_by_nothing event old new is follows = subst (λ (e : Event). Leads old e new) is follows

    never_without : (event : Event) (old new : Stand) → event ≡ NoMemory → Leads old event new → ⊥
    never_without event old new is follows = subst (λ (e : Event). Leads old e new) is follows

    -- where nothing happened, the documents are as before
    left_as : (events : List Event) (old left : Stand) → events ≡ [] → FollowAll Leads old events left → Keeps old left
    left_as events old left none follow =
        let same : left ≡ old = subst (λ (list : List Event). FollowAll Leads old list left) none follow in
        (λ p. ap (λ (s : Stand). s.of p) same, ap (λ (s : Stand). s.chunks) same)

    module _
        (one_plan : (confs : List IndexConf) (state : State) (statement : Statement) (a b : Plan) → Wants confs state statement a → Wants confs state statement b → a ≡ b)
        (one_refusal : (confs : List IndexConf) (state : State) (statement : Statement) (a b : Refused) → Refuses confs state statement a → Refuses confs state statement b → a ≡ b)
        (never_both : (confs : List IndexConf) (state : State) (statement : Statement) (plan : Plan) (refusal : Refused) → Wants confs state statement plan → Refuses confs state statement refusal → ⊥)
        (one_decided : (plan : Plan) (happened other : Happened) (a b : Reply) → AreAlike plan happened other → Decides plan happened a → Decides plan other b → a ≡ b)
        (one_next : (plan : Plan) (happened other : Happened) (reply : Reply) (state : State) → AreAlike plan happened other → next_of plan happened reply state ≡ next_of plan other reply state) where
      one_reply : (indexes : List IndexConf) (state : State) (statement : Statement) (event event' : Event) (a b : Reply) (x y : State) (old old' new new' : Stand) → ((plan : Plan) → Wants indexes state statement plan → Fits quiet plan) → Alike old old'
          → RepliesTo indexes state statement event a x → RepliesTo indexes state statement event' b y → Leads old event new → Leads old' event' new' → (a ≡ b) × (x ≡ y) × Alike new new'
      one_reply indexes state statement event event' a b x y old old' new new' calm alike (inl (r, refuses, is, says, stays)) (inl (s, refuses', is', says', stays')) follows follows' = (
        says ∙ ap Fails (one_refusal indexes state statement r s refuses refuses') ∙ sym says',
        stays ∙ sym stays',
        alike_as old old' new new' (kept_by_nothing event old new is follows) (kept_by_nothing event' old' new' is' follows') alike,
      )
      one_reply indexes state statement event event' a b x y old old' new new' calm alike (inl (r, refuses, is, says, stays)) (inr (inl (plan, wants, meets, decides, next))) follows follows' =
          absurd (never_both indexes state statement plan r wants refuses)
      one_reply indexes state statement event event' a b x y old old' new new' calm alike (inr (inl (plan, wants, meets, decides, next))) (inl (r, refuses, is, says, stays)) follows follows' =
          absurd (never_both indexes state statement plan r wants refuses)
      one_reply indexes state statement event event' a b x y old old' new new' calm alike (inr (inl (plan, wants, meets, decides, next))) (inr (inl (other, wants', meets', decides', next'))) follows follows' =
          let same : other ≡ plan = one_plan indexes state statement other plan wants' wants in
          let it : Meets (need_of plan) (pending_of state plan) event' = subst (λ (p : Plan). Meets (need_of p) (pending_of state p) event') same meets' in
          let both = met_alike (need_of plan) (pending_of state plan) event event' old old' new new' alike meets it follows follows' in
          let says : a ≡ b = one_decided plan (tells event) (tells event') a b (both.alike plan (calm plan wants)) decides (subst (λ (p : Plan). Decides p (tells event') b) same decides') in (
            says,
            next ∙ one_next plan (tells event) (tells event') a state (both.alike plan (calm plan wants)) ∙ ap (λ (p : Plan). next_of p (tells event') a state) (sym same)
                ∙ ap (λ (r : Reply). next_of other (tells event') r state) says ∙ sym next',
            both.rows,
          )
      one_reply indexes state statement event event' a b x y old old' new new' calm alike (inr (inr (takes, is, says, stays))) replies follows follows' = absurd (never_without event old new is follows)
      one_reply indexes state statement event event' a b x y old old' new new' calm alike (inl refused) (inr (inr (takes, is, says, stays))) follows follows' = absurd (never_without event' old' new' is follows')
      one_reply indexes state statement event event' a b x y old old' new new' calm alike (inr (inl wanted)) (inr (inr (takes, is, says, stays))) follows follows' = absurd (never_without event' old' new' is follows')

      -- ---- a text
      one_list : (indexes : List IndexConf) (state : State) (seq : ℕ) (ended : Bool) (statements : List Statement) (events events' : List Event) (a b : List ℕ) (x y : State) (old old' left left' : Stand)
          → IsQuiet quiet statements events → Alike old old' → AnswersStatements indexes state seq ended statements events a x → AnswersStatements indexes state seq ended statements events' b y
          → FollowAll Leads old events left → FollowAll Leads old' events' left' → (a ≡ b) × (x ≡ y) × Alike left left'
      one_list indexes state seq true statements events events' a b x y old old' left left' calm alike one two follow follow' =
          (one.1 ∙ sym two.1, one.2 ∙ sym two.2, alike_as old old' left left' (left_as events old left one.0 follow) (left_as events' old' left' two.0 follow') alike)
      one_list indexes state seq false [] events events' a b x y old old' left left' calm alike one two follow follow' =
          (one.1 ∙ sym two.1, one.2 ∙ sym two.2, alike_as old old' left left' (left_as events old left one.0 follow) (left_as events' old' left' two.0 follow') alike)
      one_list indexes state seq false (statement ∷ rest) events events' a b x y old old' left left' calm alike
          (event, reply, mid, later, tail, replies, are, is, answered) (event', reply', mid', later', tail', replies', are', is', answered') follow follow' =
          let (next, here, onward) = subst (λ (list : List Event). FollowAll Leads old list left) are follow in
          let (next', here', onward') = subst (λ (list : List Event). FollowAll Leads old' list left') are' follow' in
          let still : IsQuiet quiet (statement ∷ rest) (event ∷ later) = subst (λ (list : List Event). IsQuiet quiet (statement ∷ rest) list) are calm in
          let one = one_reply indexes state statement event event' reply reply' mid mid' old old' next next' (fits_so quiet indexes state statement rest event later still) alike replies replies' here here' in
          let packets : State → Reply → List ℕ = λ s r. packets_from seq (payloads (status_of s (is_more rest)) r) in
          let number : State → Reply → ℕ = λ s r. sequence_after seq (payloads (status_of s (is_more rest)) r) in
          let by_reply : AnswersStatements indexes mid' (number mid' reply) (is_refusal reply) rest later' tail' y =
          subst (λ (r : Reply). AnswersStatements indexes mid' (number mid' r) (is_refusal r) rest later' tail' y) (sym one.0) answered' in
          let goes : AnswersStatements indexes mid (number mid reply) (is_refusal reply) rest later' tail' y =
          subst (λ (s : State). AnswersStatements indexes s (number s reply) (is_refusal reply) rest later' tail' y) (sym one.1) by_reply in
          let tails = one_list indexes mid (number mid reply) (is_refusal reply) rest later later' tail tail' x y next next' left left' (rest_false quiet statement rest event later still) one.2 answered goes onward onward' in
          let equal : packets mid reply ≡ packets mid' reply' = ap (λ (s : State). packets s reply) one.1 ∙ ap (packets mid') one.0 in
          (is ∙ ap (λ (t : List ℕ). packets mid reply ++ t) tails.0 ∙ ap (λ (p : List ℕ). p ++ tail') equal ∙ sym is', tails.1, tails.2)

      module _
          (one_statements : (text : List ℕ) (a b : List Statement) → States text a → States text b → a ≡ b)
          (one_refused_text : (text : List ℕ) (a b : Refused) → RefusesText text a → RefusesText text b → a ≡ b)
          (never_both_texts : (text : List ℕ) (statements : List Statement) (refusal : Refused) → States text statements → RefusesText text refusal → ⊥) where
        -- memory to read the text was refused
        unread : (events : List Event) (old left : Stand) → FollowAll Leads old events left → events ≡ NoMemory ∷ [] → ⊥
        unread events old left follow is = (subst (λ (list : List Event). FollowAll Leads old list left) is follow).1

        one_text : (state : State) (text : List ℕ) (events events' : List Event) (a b : List ℕ) (x y : State) (old old' left left' : Stand) → IsQuietText quiet text events → Alike old old'
            → AnswersText itself state text events a x → AnswersText itself state text events' b y → FollowAll Leads old events left → FollowAll Leads old' events' left'
            → (a ≡ b) × (x ≡ y) × Alike left left'
        one_text state text events events' a b x y old old' left left' calm alike (inr (inr (are, is, stays))) answers follow follow' = absurd (unread events old left follow are)
        one_text state text events events' a b x y old old' left left' calm alike (inl refused) (inr (inr (are, is, stays))) follow follow' = absurd (unread events' old' left' follow' are)
        one_text state text events events' a b x y old old' left left' calm alike (inr (inl run)) (inr (inr (are, is, stays))) follow follow' = absurd (unread events' old' left' follow' are)
        one_text state text events events' a b x y old old' left left' calm alike (inl (r, refuses, none, is, stays)) (inl (s, refuses', none', is', stays')) follow follow' = (
          is ∙ ap (λ (refusal : Refused). packets_from 1 (payloads 0 (Fails refusal))) (one_refused_text text r s refuses refuses') ∙ sym is',
          stays ∙ sym stays',
          alike_as old old' left left' (left_as events old left none follow) (left_as events' old' left' none' follow') alike,
        )
        one_text state text events events' a b x y old old' left left' calm alike (inl (r, refuses, none, is, stays)) (inr (inl (indexes, statements, later, states, are, answered))) follow follow' =
            absurd (never_both_texts text statements r states refuses)
        one_text state text events events' a b x y old old' left left' calm alike (inr (inl (indexes, statements, later, states, are, answered))) (inl (r, refuses, none, is, stays)) follow follow' =
            absurd (never_both_texts text statements r states refuses)
        one_text state text events events' a b x y old old' left left' calm alike (inr (inl (indexes, statements, later, states, are, answered))) (inr (inl (indexes', statements', later', states', are', answered'))) follow follow' =
            let (next, here, onward) = subst (λ (list : List Event). FollowAll Leads old list left) are follow in
            let (next', here', onward') = subst (λ (list : List Event). FollowAll Leads old' list left') are' follow' in
            let same_confs : indexes' ≡ indexes = here'.0 ∙ sym here.0 in
            let same_list : statements' ≡ statements = one_statements text statements' statements states' states in
            let by_confs : AnswersStatements indexes state 1 false statements' later' b y = subst (λ (c : List IndexConf). AnswersStatements c state 1 false statements' later' b y) same_confs answered' in
            let by_list : AnswersStatements indexes state 1 false statements later' b y = subst (λ (l : List Statement). AnswersStatements indexes state 1 false l later' b y) same_list by_confs in
            let still = text_quiet quiet text statements events later indexes states are calm in
            one_list indexes state 1 false statements later later' a b x y next next' left left' still (alike_as old old' next next' here.1 here'.1 alike) answered by_list onward onward'

        -- a command that does nothing to the documents
        plain : (a b put : List ℕ) (events events' : List Event) (state x y : State) (old old' left left' : Stand) → Alike old old'
            → (events ≡ []) × (a ≡ put) × (x ≡ state) → (events' ≡ []) × (b ≡ put) × (y ≡ state)
            → FollowAll Leads old events left → FollowAll Leads old' events' left' → (a ≡ b) × (x ≡ y) × Alike left left'
        plain a b put events events' state x y old old' left left' alike one two follow follow' =
            (one.1 ∙ sym two.1, one.2 ∙ sym two.2, alike_as old old' left left' (left_as events old left one.0 follow) (left_as events' old' left' two.0 follow') alike)

        one_command : (state : State) (asked : ClientCommand) (events events' : List Event) (a b : List ℕ) (x y : State) (old old' left left' : Stand) → Alike old old' → ⊤ → ⊤
            → QuietAnswers quiet itself state asked events a x → QuietAnswers quiet itself state asked events' b y → FollowAll Leads old events left → FollowAll Leads old' events' left'
            → (a ≡ b) × (x ≡ y) × Alike left left'
        one_command state asks_quit events events' a b x y old old' left left' alike calm calm' one two follow follow' = absurd one.0
        one_command state (Query text) events events' a b x y old old' left left' alike calm calm' one two follow follow' = one_text state text events events' a b x y old old' left left' one.1 alike one.0 two.0 follow follow'
        one_command state Ping events events' a b x y old old' left left' alike calm calm' one two follow follow' = plain a b _ events events' state x y old old' left left' alike one.0 two.0 follow follow'
        one_command state (InitDb name) events events' a b x y old old' left left' alike calm calm' one two follow follow' = plain a b _ events events' state x y old old' left left' alike one.0 two.0 follow follow'
        one_command state (SetOption option) events events' a b x y old old' left left' alike calm calm' one two follow follow' = plain a b _ events events' state x y old old' left left' alike one.0 two.0 follow follow'
        one_command state (Unknown code) events events' a b x y old old' left left' alike calm calm' one two follow follow' = plain a b _ events events' state x y old old' left left' alike one.0 two.0 follow follow'

        -- two lines
        pub same_sessions : ((expect : ℕ) (bytes : List ℕ) (a b : Front) → HasFront expect bytes a → HasFront expect bytes b → a ≡ b)
            → ((payload : List ℕ) (response : Response) (place : ℕ) → IsResponse payload response → IsBadResponse payload place → ⊥)
            → ((payload : List ℕ) (m n : ℕ) → IsBadResponse payload m → IsBadResponse payload n → m ≡ n)
            → (connection : ℕ) (before now before' now' : Meters) (end end' : LinkEnd) (read written replies : List ℕ) (events events' : List Event) (old old' left left' : Stand)
            → Ends (quiet_machine quiet itself) before now end (Opened connection new_state) [] read written events → Ends (quiet_machine quiet itself) before' now' end' (Opened connection new_state) [] read replies events'
            → EndsByClient end → EndsByClient end' → Alike old old' → FollowAll Leads old events left → FollowAll Leads old' events' left' → written ≡ replies
        same_sessions only never one_place connection before now before' now' end end' read written replies events events' old old' left left' line line' client client' alike follow follow' =
            (same_lines (quiet_machine quiet itself) Leads Alike (λ (events : List Event). ⊤) only never one_place (λ first then calm. (tt, tt)) one_command (Opened connection new_state) before now before' now' end end'
            read written replies events events' old old' left left' line line' client client' tt tt alike follow follow').0
