use Rattle.std.proofs.Common.{refl, subst, sym}
use Rattle.std.specs.FinMap as finite
use Rattle.doc_types.specs.Snapshots.{live}
use Rattle.ql_answers.specs.declared.plan.Plan.{Plan}
use Rattle.ql_answers.specs.declared.plan.Plan.TheVariants.{Status}
use Rattle.ql_answers.specs.Replies.{Shows}
use Rattle.ql_answers.specs.Sessions.{Read, disk_count}
use Rattle.ql_answers.specs.Showing.{index_status}
use Rattle.ql_answers.specs.steps.Answering.{SaysPlan}
use Rattle.ql_answers.proofs.SaidBy.{says_from}
use Rattle.ql_answers.proofs.saying.say_read.Goals as goal

pub returns-in-Search-clause-says : goal.returns-in-Search-clause-says
returns-in-Search-clause-says g c =
    let Of : Plan → Type 0 = λ p. SaysPlan p (Read c.args.snapshot.now) c.args.status c.say_search.result c.args.replies.now c.say_search.new.replies in
    subst Of (sym c.in-Search.is) (c.say_search.ensures.says c.in-Search.index)

pub returns-in_ok-say_status-in-Status-clause-says : goal.returns-in_ok-say_status-in-Status-clause-says
returns-in_ok-say_status-in-Status-clause-says g c =
    says_from c.args.plan.now (Status c.in-Status.index) (Read c.args.snapshot.now) (Shows (index_status (finite.len (live c.args.snapshot.now)) (disk_count c.args.snapshot.now))) c.args.status c.args.replies.now c.say_status.new.replies
    c.in-Status.is refl c.in_ok-say_status-in-Status.ensures.ok
