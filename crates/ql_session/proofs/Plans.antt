-- What holds of a plan that a statement wants: it takes memory unless nothing is asked for, and its index is there.
use Rattle.std.proofs.Common.{◌≡◌, ◌≢◌, ◌⊎◌, inl, inr, ℕ, zero, suc, List, Bool, true, false, Option, None, Some, refl, subst, sym, ◌∙◌}
use Rattle.std.proofs.lemmas.Option.{none-some, same_Some}
use Rattle.index_conf.specs.declared.conf.IndexConf.{IndexConf}
use Rattle.doc_types.specs.declared.transactions.Txn.{Txn}
use Rattle.doc_types.specs.Transactions.{IsTxnOf}
use Rattle.ql_tree.specs.declared.statement.Statement.{Statement}
use Rattle.ql_tree.specs.declared.statement.Statement.TheVariants as statements
use Rattle.ql_answers.specs.declared.event.Need.TheVariants as needs
use Rattle.ql_answers.specs.declared.plan.Counted.{Counted}
use Rattle.ql_answers.specs.declared.plan.Plan.{Plan}
use Rattle.ql_answers.specs.declared.plan.Plan.TheVariants.{Agree, Search, Show, Status}
use Rattle.ql_answers.specs.declared.state.State.{State}
use Rattle.ql_answers.specs.declared.turn.Turn.{Turn}
use Rattle.ql_answers.specs.declared.turn.Turn.TheVariants.{Ends, Opens, Sets, Stays}
use Rattle.ql_answers.specs.Pending.{PendingValue}
use Rattle.ql_answers.specs.Sessions.{need_of, reply_takes_memory}
use Rattle.ql_answers.specs.States.{is_alone}
use Rattle.ql_answers.specs.Transactions.{clearing, commit_of, killing, write_fault, written}
use Rattle.ql_select.proofs.Asked.{selection_is_asked}
use Rattle.ql_answers.specs.Plans.{HasPending, Wants, TakesMemory, autocommit_of}
use Rattle.ql_session.specs.Fitting.{CanCommit}
use Rattle.ql_session.specs.steps.Wanting.{IsSoundPlan}
use Rattle.ql_session.proofs.Limits.{clearing_of, killing_of, stored_of}

-- it needs nothing, and its reply takes no memory
abbrev pub IsFree : Plan → Type 0
IsFree plan = (need_of plan ≡ needs.Nothing) × (reply_takes_memory plan ≡ false)

-- what holds of a plan that some statement wants: it is free or of a statement that takes memory, and its index is there
abbrev pub IsGood : List IndexConf → State → Statement → Plan → Type 0
IsGood confs state statement plan = (IsFree plan ⊎ TakesMemory state statement) × IsSoundPlan confs state plan

sound_as : (confs : List IndexConf) (state : State) (plan other : Plan) → plan ≡ other → IsSoundPlan confs state other → IsSoundPlan confs state plan
sound_as confs state plan other e sound = subst (IsSoundPlan confs state) (sym e) sound

free_as : (plan other : Plan) → plan ≡ other → IsFree other → IsFree plan
free_as plan other e free = subst IsFree (sym e) free

-- operations that are written are committed by themselves, or are kept
sound_written : (alone : Bool) (confs : List IndexConf) (state : State) (place : ℕ) (txn : Txn) (counted : Counted) → is_alone state ≡ alone → CanCommit confs place txn → write_fault state place txn ≡ None
    → IsSoundPlan confs state (written state place txn counted)
sound_written true confs state place txn counted is can free = rw is can
sound_written false confs state place txn counted is can free = rw is (can, free)

-- what is pending is committed, if anything is
commit_sound : (confs : List IndexConf) (state : State) (pending : Option PendingValue) (turn : Turn) → state.pending ≡ pending → IsSoundPlan confs state (commit_of pending turn)
commit_sound confs state None turn is = tt
commit_sound confs state (Some pending) turn is = (pending, is, refl)

commit_free : (pending : Option PendingValue) (turn : Turn) → IsFree (commit_of pending turn) ⊎ HasPending pending
commit_free None turn = inl (refl, refl)
commit_free (Some pending) turn = inr tt

by_commit : (confs : List IndexConf) (state : State) (plan : Plan) (turn : Turn) → plan ≡ commit_of state.pending turn → (IsFree plan ⊎ HasPending state.pending) × IsSoundPlan confs state plan
by_commit confs state plan turn is =
    subst (λ (p : Plan). (IsFree p ⊎ HasPending state.pending) × IsSoundPlan confs state p) (sym is) (commit_free state.pending turn, commit_sound confs state state.pending turn refl)

by_autocommit : (confs : List IndexConf) (state : State) (value : ℕ) (plan : Plan) → autocommit_of state value ≡ Some plan → (IsFree plan ⊎ HasPending state.pending) × IsSoundPlan confs state plan
by_autocommit confs state zero plan wants =
    let is : plan ≡ Agree (Sets false) = sym (same_Some (Agree (Sets false)) plan wants) in
    (inl (free_as plan (Agree (Sets false)) is (refl, refl)), sound_as confs state plan (Agree (Sets false)) is tt)
by_autocommit confs state (suc zero) plan wants = by_commit confs state plan (Sets true) (sym (same_Some (commit_of state.pending (Sets true)) plan wants))
by_autocommit confs state (suc (suc value)) plan wants = absurd (none-some plan wants)

-- a plan that only agrees
agrees : (confs : List IndexConf) (state : State) (statement : Statement) (plan : Plan) (turn : Turn) → plan ≡ Agree turn → IsGood confs state statement plan
agrees confs state statement plan turn is = (inl (free_as plan (Agree turn) is (refl, refl)), sound_as confs state plan (Agree turn) is tt)

pub good : (confs : List IndexConf) (state : State) (statement : Statement) (plan : Plan) → Wants confs state statement plan → IsGood confs state statement plan
good confs state (statements.Select select) plan wants =
    (inr tt, sound_as confs state plan (Search wants.0 wants.1) wants.3 (wants.2.conf, wants.2.serves.is, λ schema. selection_is_asked wants.2.conf select wants.1 schema wants.2.selects))
good confs state (statements.SelectVar name limit) plan wants = (inr tt, sound_as confs state plan (Show _) wants tt)
good confs state statements.SelectDatabase plan wants = (inr tt, sound_as confs state plan (Show _) wants tt)
good confs state (statements.Insert replace index columns rows) plan (place, txn, wants, free, is) =
    let of = stored_of wants.conf.schema replace wants.inserted wants.makes.of in
    let can : CanCommit confs place txn = record { conf = wants.conf; is = wants.serves.is; of = subst (λ (t : Txn). IsTxnOf wants.conf.schema t) (sym wants.is) of } in
    (inr tt, sound_as confs state plan _ is (sound_written (is_alone state) confs state place txn _ refl can free))
good confs state (statements.Delete index ids) plan (place, conf, serves, free, is) =
    let can : CanCommit confs place (killing ids) = record { conf = conf; is = serves.is; of = killing_of conf.schema state place ids free } in
    (inr tt, sound_as confs state plan _ is (sound_written (is_alone state) confs state place (killing ids) _ refl can free))
good confs state statements.Begin plan wants = by_commit confs state plan Opens wants
good confs state statements.StartTransaction plan wants = by_commit confs state plan Opens wants
good confs state statements.Commit plan wants = by_commit confs state plan Ends wants
good confs state statements.Rollback plan wants = agrees confs state statements.Rollback plan Ends wants
good confs state (statements.SetAutocommit value) plan wants = by_autocommit confs state value plan wants
good confs state (statements.SetNames names) plan wants = agrees confs state (statements.SetNames names) plan Stays wants
good confs state (statements.SetOther scope target value) plan wants = agrees confs state (statements.SetOther scope target value) plan Stays wants
good confs state (statements.FlushRamchunk index) plan (place, conf, serves, is) = (inr tt, sound_as confs state plan _ is (conf, serves.is))
good confs state (statements.FlushRtindex index) plan (place, conf, serves, is) = (inr tt, sound_as confs state plan _ is (conf, serves.is))
good confs state (statements.OptimizeIndex index) plan (place, conf, serves, is) = (inr tt, sound_as confs state plan _ is (conf, serves.is))
good confs state (statements.TruncateRtindex index) plan (place, conf, serves, closed, is) =
    let can : CanCommit confs place clearing = record { conf = conf; is = serves.is; of = clearing_of conf.schema } in
    (inr tt, sound_as confs state plan _ is can)
good confs state (statements.Describe index) plan wants = (inr tt, sound_as confs state plan (Show _) wants.3 tt)
good confs state (statements.ShowIndexStatus index) plan (place, conf, serves, is) = (inr tt, sound_as confs state plan (Status place) is (conf, serves.is))
good confs state statements.ShowTables plan wants = (inr tt, sound_as confs state plan (Show _) wants tt)
good confs state statements.ShowWarnings plan wants = (inr tt, sound_as confs state plan (Show _) wants tt)
good confs state statements.ShowVariables plan wants = (inr tt, sound_as confs state plan (Show _) wants tt)
good confs state statements.ShowDatabases plan wants = (inr tt, sound_as confs state plan (Show _) wants tt)
good confs state statements.ShowMeta plan wants = (inr tt, sound_as confs state plan (Show _) wants tt)

-- such a statement takes memory where something is asked for
pub takes_by_need : (confs : List IndexConf) (state : State) (statement : Statement) (plan : Plan) → Wants confs state statement plan → need_of plan ≢ needs.Nothing → TakesMemory state statement
takes_by_need confs state statement plan wants some = elim (good confs state statement plan wants).0 [
  | inl free ↦ absurd (some free.0)
  | inr takes ↦ takes
]

-- and where the reply takes some
pub takes_by_room : (confs : List IndexConf) (state : State) (statement : Statement) (plan : Plan) → Wants confs state statement plan → reply_takes_memory plan ≡ true → TakesMemory state statement
takes_by_room confs state statement plan wants takes = elim (good confs state statement plan wants).0 [
  | inl free ↦ absurd (let clash : true ≡ false = sym takes ∙ free.1 in cc)
  | inr takes ↦ takes
]

-- a plan wants what can be had
pub sound_plan : (confs : List IndexConf) (state : State) (statement : Statement) (plan : Plan) → Wants confs state statement plan → IsSoundPlan confs state plan
sound_plan confs state statement plan wants = (good confs state statement plan wants).1
