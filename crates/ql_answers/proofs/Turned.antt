-- What is left of a plan once the state has turned is answered as the plan is.
use Rattle.std.proofs.Common.{◌≡◌, ℕ, Bool, true, Option, None, Some, refl, sym, subst, ap, ◌∙◌}
use Rattle.std.specs.Prelude.{◌≢◌}
use Rattle.std.proofs.lemmas.Bool.{false≢true}
use Rattle.reply_rows.specs.Written.{Written}
use Rattle.ql_answers.specs.declared.plan.Plan.{Plan}
use Rattle.ql_answers.specs.declared.plan.Plan.TheVariants.{Agree, Commit, Keep, Put, Reshape, Search, Show, Status}
use Rattle.ql_answers.specs.declared.state.State.{State}
use Rattle.ql_answers.specs.Replies.{Reply, replied}
use Rattle.ql_answers.specs.Sessions.{CanHave, Committing, Decides, Happened, NoMemory, Nothing, Read, Reshaping, after_plan, next_of, reply_takes_memory, shows_rows, told_by}
use Rattle.ql_answers.specs.States.{status_of, telling}
use Rattle.ql_answers.specs.declared.meta.Meta.{Meta}
use Rattle.ql_answers.specs.steps.Answering.{Says}
use Rattle.ql_answers.specs.steps.Turning.{left_of}

pub can_left : (plan : Plan) (happened : Happened) → CanHave plan happened → CanHave (left_of plan happened) happened
can_left (Agree turn) happened can = can
can_left (Show set) happened can = can
can_left (Search place selection) happened can = can
can_left (Status place) happened can = can
can_left (Keep place txn affected) Nothing can = can
can_left (Keep place txn affected) NoMemory can = can
can_left (Keep place txn affected) (Read front) can = can
can_left (Keep place txn affected) (Committing outcome) can = can
can_left (Keep place txn affected) (Reshaping outcome) can = can
can_left (Put place txn counted) happened can = can
can_left (Commit place turn) happened can = can
can_left (Reshape place job) happened can = can

decides_left : (plan : Plan) (happened : Happened) (reply : Reply) → Decides (left_of plan happened) happened reply → Decides plan happened reply
decides_left (Agree turn) happened reply decides = decides
decides_left (Show set) happened reply decides = decides
decides_left (Search place selection) happened reply decides = decides
decides_left (Status place) happened reply decides = decides
decides_left (Keep place txn affected) Nothing reply decides = decides
decides_left (Keep place txn affected) NoMemory reply decides = decides
decides_left (Keep place txn affected) (Read front) reply decides = decides
decides_left (Keep place txn affected) (Committing outcome) reply decides = decides
decides_left (Keep place txn affected) (Reshaping outcome) reply decides = decides
decides_left (Put place txn counted) happened reply decides = decides
decides_left (Commit place turn) happened reply decides = decides
decides_left (Reshape place job) happened reply decides = decides

-- a plan that shows rows changes nothing
shows_left : (plan : Plan) (happened : Happened) (state : State) → shows_rows (left_of plan happened) ≡ true
    → (reply_takes_memory plan ≡ true) × (after_plan plan happened state ≡ state) × (left_of plan happened ≡ plan)
shows_left (Agree turn) happened state shows = absurd (false≢true shows)
shows_left (Show set) happened state shows = (refl, refl, refl)
shows_left (Search place selection) happened state shows = (refl, refl, refl)
shows_left (Status place) happened state shows = (refl, refl, refl)
shows_left (Keep place txn affected) Nothing state shows = absurd (false≢true shows)
shows_left (Keep place txn affected) NoMemory state shows = absurd (false≢true shows)
shows_left (Keep place txn affected) (Read front) state shows = absurd (false≢true shows)
shows_left (Keep place txn affected) (Committing outcome) state shows = absurd (false≢true shows)
shows_left (Keep place txn affected) (Reshaping outcome) state shows = absurd (false≢true shows)
shows_left (Put place txn counted) happened state shows = absurd (false≢true shows)
shows_left (Commit place turn) happened state shows = absurd (false≢true shows)
shows_left (Reshape place job) happened state shows = absurd (false≢true shows)

-- what SHOW META tells is no part of a status
status_told : (told : Option Meta) (state : State) (more : Bool) → status_of (telling told state) more ≡ status_of state more
status_told None state more = refl
status_told (Some meta) state more = refl

-- a reply was written
pub answered : (plan left : Plan) (happened : Happened) (more : Bool) (status : ℕ) (told : Option Meta) (before after last : State) (written now : Written)
    → after ≡ after_plan plan happened before → left ≡ left_of plan happened → status ≡ status_of after more → Says left happened status told written now → last ≡ telling told after
    → (reply : Reply) × Decides plan happened reply × (last ≡ next_of plan happened reply before) × (now ≡ replied written (status_of last more) reply)
answered plan left happened more status told before after last written now turns is has says tells =
    let Said : Plan → Type 0 = λ p. Decides p happened says.0 in (
      says.0,
      decides_left plan happened says.0 (subst Said is says.1),
      tells ∙ ap (λ (t : Option Meta). telling t after) says.3 ∙ ap (telling (told_by says.0)) turns,
      says.2 ∙ ap (λ (n : ℕ). replied written n says.0) (has ∙ sym (ap (λ (s : State). status_of s more) tells ∙ status_told told after more)),
    )

-- memory was refused to what is shown
pub unanswered : (plan left : Plan) (happened : Happened) (before after : State) (written now : Written)
    → after ≡ after_plan plan happened before → left ≡ left_of plan happened → (shows_rows left ≡ true) × (happened ≢ NoMemory) × (now ≡ written)
    → (reply_takes_memory plan ≡ true) × (happened ≢ NoMemory) × (after ≡ before) × (left ≡ plan) × (now ≡ written)
unanswered plan left happened before after written now turns is says =
    let Shows : Plan → Type 0 = λ p. shows_rows p ≡ true in
    let stays = shows_left plan happened before (subst Shows is says.0) in
    (stays.0, says.1, turns ∙ stays.1, is ∙ stays.2, says.2)
