-- What is replied to a plan.
use Rattle.std.specs.Prelude.{◌≡◌, ◌≢◌, ℕ, true, Option, Result, Ok, Err}
use Rattle.reply_rows.specs.Written.{Written}
use Rattle.ql_answers.specs.declared.meta.Meta.{Meta}
use Rattle.ql_answers.specs.declared.plan.Plan.{Plan}
use Rattle.ql_refusals.specs.Refusals.{Refused, rank_out_of_range, too_many_prefix_words}
use Rattle.table_search.specs.declared.found.Unfound.{Unfound}
use Rattle.table_search.specs.declared.found.Unfound.TheVariants.{NoWeight, TooManyWords}
use Rattle.ql_answers.specs.Replies.{Reply, replied}
use Rattle.ql_answers.specs.Sessions.{Happened, Decides, NoMemory, shows_rows, told_by}

-- how a SELECT is refused by the documents of its index
abbrev pub refusal_of : Unfound → Refused
refusal_of (TooManyWords count) = too_many_prefix_words count
refusal_of (NoWeight id) = rank_out_of_range id

-- A reply to the plan, by what happened, was written, and SHOW META tells this anew.
abbrev pub Says : Plan → Happened → ℕ → Option Meta → Written → Written → Type 0
Says plan happened status told before after =
    (reply : Reply) × Decides plan happened reply × (after ≡ replied before status reply) × (told ≡ told_by reply)

-- The same, or memory for result sets was refused and nothing was written.
abbrev pub SaysPlan : {E : Type 0} → Plan → Happened → ℕ → Result (Option Meta) E → Written → Written → Type 0
SaysPlan plan happened status (Ok told) before after = Says plan happened status told before after
SaysPlan plan happened status (Err e) before after = (shows_rows plan ≡ true) × (happened ≢ NoMemory) × (after ≡ before)
