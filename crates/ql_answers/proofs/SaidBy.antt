-- A reply that a plan has is one that it is answered by.
use Rattle.std.proofs.Common.{◌≡◌, ◌∙◌, ℕ, Option, None, Some, false, ap, inl, inr, sym, subst, refl, rules}
use Rattle.std.specs.Prelude.{Result, Ok, Err, IfOk, OnErr, OnOk}
use Rattle.doc_types.specs.Snapshots.{SnapshotValue, all_living}
use Rattle.commit_outcomes.specs.declared.outcome.CommitOutcome.{CommitOutcome}
use Rattle.commit_outcomes.specs.declared.outcome.CommitOutcome.TheVariants as outcomes
use Rattle.commit_outcomes.specs.declared.outcome.Doubt.TheVariants as doubts
use Rattle.reply_rows.specs.ResultSets.{sets_payloads}
use Rattle.reply_rows.specs.Written.{Written, then_reply}
use Rattle.srch_base.specs.declared.faults.Or.TheVariants.{Fault}
use Rattle.table_search.specs.Tables.{AreTables, TablesOr}
use Rattle.table_search.specs.declared.found.Unfound.{Unfound}
use Rattle.table_search.specs.declared.found.Unfound.TheVariants.{NoWeight, TooManyWords}
use Rattle.table_search.specs.declared.found.Found.{Found}
use Rattle.ql_select.specs.declared.selection.Selection.{Selection}
use Rattle.ql_answers.specs.declared.meta.Meta.{Meta}
use Rattle.ql_answers.specs.declared.job_outcome.JobOutcome.{JobOutcome}
use Rattle.ql_answers.specs.declared.job_outcome.JobOutcome.TheVariants as job_outcomes
use Rattle.ql_answers.specs.declared.plan.Counted.{Counted}
use Rattle.ql_answers.specs.declared.plan.Plan.{Plan}
use Rattle.ql_answers.specs.declared.plan.Plan.TheVariants.{Agree, Commit, Keep, Put, Reshape, Search, Show, Status}
use Rattle.prefix_search.specs.Searches.{AreTooMany, IsFirstLacking}
use Rattle.ql_refusals.specs.Refusals.{Refused, no_memory, rank_out_of_range, too_many_prefix_words}
use Rattle.ql_answers.specs.Metas.{meta_of}
use Rattle.ql_answers.specs.Reading.{found_sets}
use Rattle.ql_answers.specs.Replies.{Reply, Fails, Finds, replied}
use Rattle.ql_answers.specs.Sessions.{Committing, Decides, Happened, NoMemory, Read, Reshaping, reply_to_commit, reply_to_job, told_by}
use Rattle.ql_answers.specs.steps.Answering.{Says, SaysPlan, refusal_of}

pub says_told : (plan given : Plan) (happened : Happened) (reply : Reply) (status : ℕ) (told : Option Meta) (before after : Written)
    → plan ≡ given → Decides given happened reply → after ≡ replied before status reply → told ≡ told_by reply → Says plan happened status told before after
says_told plan given happened reply status told before after is decides said tells =
    let P : Plan → Type 0 = λ p. Decides p happened reply in
    (reply, subst P (sym is) decides, said, tells)

pub says_from : (plan given : Plan) (happened : Happened) (reply : Reply) (status : ℕ) (before after : Written)
    → plan ≡ given → Decides given happened reply → after ≡ replied before status reply → Says plan happened status (told_by reply) before after
says_from plan given happened reply status before after is decides said = says_told plan given happened reply status (told_by reply) before after is decides said refl

-- what is replied to a commit tells SHOW META nothing
pub says_commit : (plan given : Plan) (counted : Counted) (rows : ℕ) (outcome : CommitOutcome) (status : ℕ) (before after : Written)
    → plan ≡ given → Decides given (Committing outcome) (reply_to_commit counted rows outcome) → after ≡ replied before status (reply_to_commit counted rows outcome) → Says plan (Committing outcome) status None before after
says_commit plan given counted rows (outcomes.Committed removed) status before after is decides said =
    says_from plan given (Committing (outcomes.Committed removed)) (reply_to_commit counted rows (outcomes.Committed removed)) status before after is decides said
says_commit plan given counted rows (outcomes.Duplicate id) status before after is decides said =
    says_from plan given (Committing (outcomes.Duplicate id)) (reply_to_commit counted rows (outcomes.Duplicate id)) status before after is decides said
says_commit plan given counted rows (outcomes.Full full) status before after is decides said =
    says_from plan given (Committing (outcomes.Full full)) (reply_to_commit counted rows (outcomes.Full full)) status before after is decides said
says_commit plan given counted rows outcomes.Refused status before after is decides said =
    says_from plan given (Committing outcomes.Refused) (reply_to_commit counted rows outcomes.Refused) status before after is decides said
says_commit plan given counted rows (outcomes.InDoubt doubts.Disk) status before after is decides said =
    says_from plan given (Committing (outcomes.InDoubt doubts.Disk)) (reply_to_commit counted rows (outcomes.InDoubt doubts.Disk)) status before after is decides said
says_commit plan given counted rows (outcomes.InDoubt doubts.Memory) status before after is decides said =
    says_from plan given (Committing (outcomes.InDoubt doubts.Memory)) (reply_to_commit counted rows (outcomes.InDoubt doubts.Memory)) status before after is decides said
says_commit plan given counted rows (outcomes.Strayed numbers) status before after is decides said =
    says_from plan given (Committing (outcomes.Strayed numbers)) (reply_to_commit counted rows (outcomes.Strayed numbers)) status before after is decides said

-- and what is replied to a job tells it nothing
pub says_job : (plan given : Plan) (outcome : JobOutcome) (status : ℕ) (before after : Written)
    → plan ≡ given → Decides given (Reshaping outcome) (reply_to_job outcome) → after ≡ replied before status (reply_to_job outcome) → Says plan (Reshaping outcome) status None before after
says_job plan given job_outcomes.Shaped status before after is decides said = says_from plan given (Reshaping job_outcomes.Shaped) (reply_to_job job_outcomes.Shaped) status before after is decides said
says_job plan given (job_outcomes.Overtaken shape) status before after is decides said =
    says_from plan given (Reshaping (job_outcomes.Overtaken shape)) (reply_to_job (job_outcomes.Overtaken shape)) status before after is decides said
says_job plan given (job_outcomes.Full full) status before after is decides said = says_from plan given (Reshaping (job_outcomes.Full full)) (reply_to_job (job_outcomes.Full full)) status before after is decides said
says_job plan given job_outcomes.Refused status before after is decides said = says_from plan given (Reshaping job_outcomes.Refused) (reply_to_job job_outcomes.Refused) status before after is decides said
says_job plan given job_outcomes.InDoubt status before after is decides said = says_from plan given (Reshaping job_outcomes.InDoubt) (reply_to_job job_outcomes.InDoubt) status before after is decides said
says_job plan given (job_outcomes.Strayed numbers) status before after is decides said =
    says_from plan given (Reshaping (job_outcomes.Strayed numbers)) (reply_to_job (job_outcomes.Strayed numbers)) status before after is decides said

-- a SELECT is answered by what was found, or memory was refused
pub says_found : {E : Type 0} (index : ℕ) (selection : Selection) (front : SnapshotValue) (found : Found) (status : ℕ) (before after : Written) (result : Result (Option Meta) E)
    → AreTables selection.asked (all_living front.layers) found → IfOk result (λ told. told ≡ Some (meta_of selection.asked found (all_living front.layers)))
    → OnOk result (after ≡ then_reply before (sets_payloads status (found_sets selection found)) false) → OnErr result (after ≡ before)
    → SaysPlan (Search index selection) (Read front) status result before after
says_found index selection front found status before after (Ok told) are tells said unsaid =
    (Finds (found_sets selection found) (meta_of selection.asked found (all_living front.layers)), inl (found, are, refl), said, tells)
says_found index selection front found status before after (Err e) are tells said unsaid = (refl, search rules, unsaid)

-- or it is refused, since a document that it finds has no weight
pub says_lacking : (index : ℕ) (selection : Selection) (front : SnapshotValue) (id : ℕ) (refusal : Refused) (status : ℕ) (before after : Written)
    → IsFirstLacking selection.asked.question (all_living front.layers) id → refusal ≡ rank_out_of_range id → after ≡ replied before 0 (Fails refusal)
    → Says (Search index selection) (Read front) status None before after
says_lacking index selection front id refusal status before after lacks is said =
    (Fails (rank_out_of_range id), inr (inl (id, lacks, refl)), said ∙ ap (λ (r : Refused). replied before 0 (Fails r)) is, refl)

-- or since the prefixes of its query have too many words
pub says_too_many : (index : ℕ) (selection : Selection) (front : SnapshotValue) (count : ℕ) (refusal : Refused) (status : ℕ) (before after : Written)
    → AreTooMany selection.asked.question.query (all_living front.layers) count → refusal ≡ too_many_prefix_words count → after ≡ replied before 0 (Fails refusal)
    → Says (Search index selection) (Read front) status None before after
says_too_many index selection front count refusal status before after many is said =
    (Fails (too_many_prefix_words count), inr (inr (count, many, refl)), said ∙ ap (λ (r : Refused). replied before 0 (Fails r)) is, refl)

-- by which of both it is
pub says_unfound : (index : ℕ) (selection : Selection) (front : SnapshotValue) (unfound : Unfound) (refusal : Refused) (status : ℕ) (before after : Written)
    → TablesOr selection.asked (all_living front.layers) (Err (Fault unfound)) → refusal ≡ refusal_of unfound → after ≡ replied before 0 (Fails refusal)
    → Says (Search index selection) (Read front) status None before after
says_unfound index selection front (TooManyWords count) refusal status before after many is said = says_too_many index selection front count refusal status before after many is said
says_unfound index selection front (NoWeight id) refusal status before after lacks is said = says_lacking index selection front id refusal status before after lacks is said

-- want of memory is told whatever the plan is
pub no_memory_decides : (plan : Plan) → Decides plan NoMemory (Fails no_memory)
no_memory_decides (Agree turn) = refl
no_memory_decides (Show set) = refl
no_memory_decides (Search place selection) = refl
no_memory_decides (Status place) = refl
no_memory_decides (Keep place txn affected) = refl
no_memory_decides (Put place txn counted) = refl
no_memory_decides (Commit place turn) = refl
no_memory_decides (Reshape place job) = refl
