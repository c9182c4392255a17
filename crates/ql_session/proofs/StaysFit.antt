-- Whatever comes of a statement, what is pending afterwards fits the indexes.
use Rattle.std.proofs.Common.{◌≡◌, List, Option, None, Some, true, false, sym, ap, subst, inl, inr}
use Rattle.index_conf.specs.declared.conf.IndexConf.{IndexConf}
use Rattle.doc_types.specs.Snapshots.{SnapshotValue}
use Rattle.commit_outcomes.specs.declared.outcome.CommitOutcome.{CommitOutcome}
use Rattle.commit_outcomes.specs.declared.outcome.CommitOutcome.TheVariants as outcomes
use Rattle.ql_tree.specs.declared.statement.Statement.{Statement}
use Rattle.ql_answers.specs.declared.plan.Plan.{Plan}
use Rattle.ql_answers.specs.declared.plan.Plan.TheVariants.{Agree, Commit, Keep}
use Rattle.ql_answers.specs.declared.state.State.{State}
use Rattle.ql_answers.specs.declared.turn.Turn.{Turn}
use Rattle.ql_answers.specs.declared.turn.Turn.TheVariants.{Ends, Opens, Sets, Stays}
use Rattle.ql_answers.specs.Replies.{Reply}
use Rattle.ql_answers.specs.Sessions.{Committing, Happened, Nothing, Standing, after_plan, at_plan, next_of, told_by}
use Rattle.ql_answers.specs.States.{finished, telling, turned}
use Rattle.ql_answers.specs.declared.meta.Meta.{Meta}
use Rattle.ql_session.specs.Events.{Event}
use Rattle.ql_session.specs.Fitting.{Fits}
use Rattle.ql_session.specs.Statements.{Replies, told}
use Rattle.ql_session.specs.steps.Wanting.{IsSoundPlan}
use Rattle.ql_session.proofs.Limits.{kept_fits}
use Rattle.ql_session.proofs.Plans.{sound_plan}

fits_turned : (confs : List IndexConf) (state : State) (turn : Turn) → Fits confs state → Fits confs (turned turn state)
fits_turned confs state Stays fits = fits
fits_turned confs state Opens fits = tt
fits_turned confs state Ends fits = tt
fits_turned confs state (Sets true) fits = tt
fits_turned confs state (Sets false) fits = fits

fits_finished : (confs : List IndexConf) (state : State) (turn : Turn) (outcome : CommitOutcome) → Fits confs state → Fits confs (finished turn outcome state)
fits_finished confs state turn (outcomes.Committed removed) fits = fits_turned confs state turn fits
fits_finished confs state turn (outcomes.Duplicate id) fits = tt
fits_finished confs state turn (outcomes.Full full) fits = tt
fits_finished confs state turn outcomes.Refused fits = tt
fits_finished confs state turn (outcomes.InDoubt doubt) fits = tt
fits_finished confs state turn (outcomes.Strayed numbers) fits = tt

fits_plan : (confs : List IndexConf) (state : State) (plan : Plan) (happened : Happened) → IsSoundPlan confs state plan → Fits confs state → Fits confs (after_plan plan happened state)
fits_plan confs state (Agree turn) Nothing sound fits = fits_turned confs state turn fits
fits_plan confs state (Keep place txn affected) Nothing sound fits = kept_fits confs state place txn sound.1 fits sound.0
fits_plan confs state (Commit place turn) (Committing outcome) sound fits = fits_finished confs state turn outcome fits
fits_plan confs state plan happened sound fits = fits

-- what SHOW META tells is no part of what is pending
fits_told : (confs : List IndexConf) (state : State) (told : Option Meta) → Fits confs state → Fits confs (telling told state)
fits_told confs state None fits = fits
fits_told confs state (Some meta) fits = fits

fits_next : (confs : List IndexConf) (state : State) (plan : Plan) (happened : Happened) (reply : Reply) → IsSoundPlan confs state plan → Fits confs state → Fits confs (next_of plan happened reply state)
fits_next confs state plan happened reply sound fits = fits_told confs (after_plan plan happened state) (told_by reply) (fits_plan confs state plan happened sound fits)

fits_replies : {F : Type 0} (documents : F → SnapshotValue) (confs : List IndexConf) (old new : State) (statement : Statement) (event : Event F) (reply : Reply) → Replies documents confs old statement event reply new
    → Fits confs old → Fits confs new
fits_replies documents confs old new statement event reply (inl (refusal, refuses, is, says, stays)) fits = subst (Fits confs) (sym stays) fits
fits_replies documents confs old new statement event reply (inr (inl (plan, wants, meets, decides, next))) fits =
    subst (Fits confs) (sym next) (fits_next confs old plan (told documents event) reply (sound_plan confs old statement plan wants) fits)
fits_replies documents confs old new statement event reply (inr (inr (takes, is, says, stays))) fits = subst (Fits confs) (sym stays) fits

-- after a statement that left the indexes as they were
pub fits_after : {F : Type 0} (documents : F → SnapshotValue) (confs left : List IndexConf) (old new : State) (statement : Statement) (event : Event F) (reply : Reply) → Replies documents confs old statement event reply new
    → left ≡ confs → Fits confs old → Fits left new
fits_after documents confs left old new statement event reply replies same fits =
    subst (λ (indexes : List IndexConf). Fits indexes new) (sym same) (fits_replies documents confs old new statement event reply replies fits)

-- the session is at a statement
pub fits_at : (confs : List IndexConf) (old new : Standing) (plan : Plan) → new ≡ at_plan old.state plan → Fits confs old.state → Fits confs new.state
fits_at confs old new plan is fits = subst (Fits confs) (sym (ap (λ (standing : Standing). standing.state) is)) fits
