use Rattle.std.proofs.Common.{refl, length, ap, ◌∙◌, ℕ}
use Rattle.ql_answers.specs.declared.plan.Counted.TheVariants as counting
use Rattle.ql_answers.specs.declared.plan.Plan.TheVariants.{Commit, Put}
use Rattle.ql_answers.specs.Replies.{replied}
use Rattle.ql_answers.specs.Sessions.{reply_to_commit}
use Rattle.ql_answers.proofs.SaidBy.{says_commit}
use Rattle.ql_answers.proofs.saying.say_commit.Goals as goal

pub returns-in-Put : goal.returns-in-Put
returns-in-Put c =
    says_commit c.args.plan.now (Put c.in-Put.index c.in-Put.txn c.in-Put.counted) c.in-Put.counted (length c.in-Put.txn.ops) c.args.outcome c.args.status c.args.replies.now c.reply_to_commit.new.replies
    c.in-Put.is refl (c.reply_to_commit.ensures ∙ ap (λ (n : ℕ). replied c.args.replies.now c.args.status (reply_to_commit c.in-Put.counted n c.args.outcome)) c.len.ensures)

pub returns-in-Commit : goal.returns-in-Commit
returns-in-Commit c =
    says_commit c.args.plan.now (Commit c.in-Commit.index c.in-Commit.turn) counting.Nothing 0 c.args.outcome c.args.status c.args.replies.now c.reply_to_commit-in-Commit.new.replies
    c.in-Commit.is refl c.reply_to_commit-in-Commit.ensures
