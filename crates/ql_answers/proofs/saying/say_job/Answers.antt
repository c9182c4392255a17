use Rattle.std.proofs.Common.{refl}
use Rattle.ql_answers.specs.declared.plan.Plan.TheVariants.{Reshape}
use Rattle.ql_answers.proofs.SaidBy.{says_job}
use Rattle.ql_answers.proofs.saying.say_job.Goals as goal

pub returns : goal.returns
returns c = says_job c.args.plan.now (Reshape c.in-Reshape.index c.in-Reshape.job) c.args.outcome c.args.status c.args.replies.now c.reply_to_job.new.replies c.in-Reshape.is refl c.reply_to_job.ensures
