-- How a text is read, its statements are run and their replies appended.
use Rattle.std.specs.Prelude.{◌≡◌, ◌≤◌, ◌⊎◌, ℕ, List, ◌++◌, Bool, true, false, Some, Result, Ok, Err, Vec, length}
use Rattle.srch_base.specs.declared.faults.Or.{Or}
use Rattle.srch_base.specs.declared.faults.Or.TheVariants as causes
use Rattle.reply_rows.specs.Written.{Written}
use Rattle.index_conf.specs.declared.conf.IndexConf.{IndexConf}
use Rattle.ql_lex.specs.Tokens.{Lexeme}
use Rattle.ql_tree.specs.declared.statement.Statement.{Statement}
use Rattle.ql_tree.specs.declared.statement.TheConstants.{MAX_STATEMENTS}
use Rattle.ql_grammar.specs.Packets.{IsPacket}
use Rattle.ql_answers.specs.declared.event.Need.{Need}
use Rattle.ql_answers.specs.declared.plan.Plan.{Plan}
use Rattle.ql_answers.specs.declared.state.State.{State}
use Rattle.ql_answers.specs.Plans.{Wants}
use Rattle.ql_refusals.specs.Refusals.{Refused, no_memory}
use Rattle.ql_answers.specs.Replies.{Reply, Fails, replied}
use Rattle.ql_answers.specs.Sessions.{Standing, Happened, Decides, need_of, next_of, reply_takes_memory}
use Rattle.ql_answers.specs.States.{status_of}
use Rattle.ql_session.specs.Events.{Event, StoreWords, Follows}
use Rattle.ql_session.specs.Fitting.{Fits}
use Rattle.ql_session.specs.Statements.{States, RefusesText, RefusesTokens, Replies, AreAnswered, AnswersText}
use Rattle.serve_line.specs.Machines.{FollowAll}

-- What tokens are read as: a packet of statements, or none.
abbrev pub ReadsTokens : {M : Type 0} → List Lexeme → Result (Vec Statement M) (Or Refused) → Type 0
ReadsTokens tokens (Ok statements) = IsPacket statements.items tokens × (length statements.items ≤ MAX_STATEMENTS)
ReadsTokens tokens (Err causes.NoMemory) = Unit {0}
ReadsTokens tokens (Err (causes.Fault refusal)) = RefusesTokens tokens refusal

-- What a text is read as.
abbrev pub ReadsText : {M : Type 0} → List ℕ → Result (Vec Statement M) (Or Refused) → Type 0
ReadsText text (Ok statements) = States text statements.items
ReadsText text (Err causes.NoMemory) = Unit {0}
ReadsText text (Err (causes.Fault refusal)) = RefusesText text refusal

-- The reply is what the plan decides by what happened, and so is the state then; or memory for a reply that takes some was
-- refused, and nothing changed.
abbrev pub Says : Plan → State → Happened → Reply → State → Type 0
Says plan old happened reply new =
    (Decides plan happened reply × (new ≡ next_of plan happened reply old)) ⊎ ((reply_takes_memory plan ≡ true) × (reply ≡ Fails no_memory) × (new ≡ old))

-- The session is at a statement, and this is what that needs.
pub record IsAt (confs : List IndexConf) (statement : Statement) (standing : Standing) (need : Need) : Type 0 where
  pub plan : Plan
  pub wants : Wants confs standing.state statement plan
  pub at : standing.plan ≡ Some plan
  pub is : need_of plan ≡ need

-- A plan's reply was written, by what happened.
abbrev pub RepliesPlan : Standing → Happened → Bool → State → Written → Written → Type 0
RepliesPlan old happened more new before after =
    (plan : Plan) × (reply : Reply) × (old.plan ≡ Some plan) × Says plan old.state happened reply new × (after ≡ replied before (status_of new more) reply)

-- A statement was answered, and what is pending still fits. The status of its packets is that of the session afterwards.
pub record Runs {D F : Type 0} (confs : D → List IndexConf) (words : StoreWords D F) (before : D) (old : State) (statement : Statement) (more : Bool) (after : D) (new : State) (out longer : Written) : Type 0 where
  pub event : Event F
  pub reply : Reply
  pub replies : Replies words.documents (confs before) old statement event reply new
  pub follows : Follows confs words before event after
  pub same : confs after ≡ confs before
  pub fits : Fits (confs before) old → Fits (confs after) new
  pub says : longer ≡ replied out (status_of new more) reply

-- Statements were answered one after another.
abbrev pub RunsAll : {D F : Type 0} → (D → List IndexConf) → StoreWords D F → D → State → List Statement → D → State → Written → Written → Type 0
RunsAll {D} {F} confs words before old statements after new out longer =
    (events : List (Event F)) × (bytes : List ℕ) × AreAnswered words.documents (confs before) old out.next false statements events bytes new
    × FollowAll (Follows confs words) before events after × (longer.bytes ≡ out.bytes ++ bytes)

-- A text was answered, and its events led the store from before to after.
abbrev pub RepliesText : {D F : Type 0} → (D → List IndexConf) → StoreWords D F → State → List ℕ → D → D → List ℕ → State → Type 0
RepliesText {D} {F} confs words old text before after bytes new =
    (events : List (Event F)) × AnswersText words.documents old text events bytes new × FollowAll (Follows confs words) before events after
