-- How what came of a plan changes the state.
use Rattle.std.specs.Prelude.{◌≡◌, ◌≢◌, [], Bool, true, Option, Some, None, Result, Ok, Err}
use Rattle.reply_rows.specs.Written.{Written}
use Rattle.ql_answers.specs.declared.plan.Plan.{Plan}
use Rattle.ql_answers.specs.declared.plan.Plan.TheVariants.{Keep}
use Rattle.ql_answers.specs.declared.state.State.{State}
use Rattle.ql_answers.specs.Replies.{Reply, replied}
use Rattle.ql_answers.specs.Sessions.{Decides, Happened, NoMemory, Nothing, after_plan, next_of, reply_takes_memory}
use Rattle.ql_answers.specs.States.{status_of}
use Rattle.ql_answers.specs.Transactions.{write_fault}

-- Nothing forbids that the operations that a plan keeps follow those that are pending.
abbrev pub CanKeep : State → Plan → Type 0
CanKeep state (Keep place txn affected) = write_fault state place txn ≡ None
CanKeep state plan = Unit {0}

abbrev pub CanKeepAny : State → Option Plan → Type 0
CanKeepAny state None = Unit {0}
CanKeepAny state (Some plan) = CanKeep state plan

-- what is left of a plan once its operations, if it keeps any, are kept
abbrev pub left_of : Plan → Happened → Plan
left_of (Keep place txn affected) Nothing = Keep place (record { ops = [] }) affected
left_of plan happened = plan

-- The state has turned as what happened says; or memory for what is kept was refused, and nothing has changed.
abbrev pub Turned : {T E : Type 0} → Plan → Happened → Result T E → State → State → Plan → Type 0
Turned plan happened (Ok done) before after left = (after ≡ after_plan plan happened before) × (left ≡ left_of plan happened)
Turned plan happened (Err e) before after left = (reply_takes_memory plan ≡ true) × (happened ≢ NoMemory) × (after ≡ before) × (left ≡ plan)

-- The same with the reply that was written; or memory was refused, and nothing has changed.
abbrev pub Answered : {T E : Type 0} → Plan → Happened → Bool → Result T E → State → State → Plan → Written → Written → Type 0
Answered plan happened more (Ok done) before after left written now =
    (reply : Reply) × Decides plan happened reply × (after ≡ next_of plan happened reply before) × (now ≡ replied written (status_of after more) reply)
Answered plan happened more (Err e) before after left written now =
    (reply_takes_memory plan ≡ true) × (happened ≢ NoMemory) × (after ≡ before) × (left ≡ plan) × (now ≡ written)
