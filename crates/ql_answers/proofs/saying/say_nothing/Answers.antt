use Rattle.std.proofs.Common.{refl}
use Rattle.ql_answers.specs.declared.plan.Plan.TheVariants.{Agree, Keep, Show}
use Rattle.ql_answers.specs.Replies.{Done, Shows}
use Rattle.ql_answers.specs.Sessions.{Nothing}
use Rattle.ql_answers.proofs.SaidBy.{says_from}
use Rattle.ql_answers.proofs.saying.say_nothing.Goals as goal

pub returns-in-Agree : goal.returns-in-Agree
returns-in-Agree c = says_from c.args.plan.now (Agree c.in-Agree.field-0) Nothing (Done 0) c.args.status c.args.replies.now c.put_ok.new.self c.in-Agree.is refl c.put_ok.ensures

pub returns-in_ok-put_set-in-Show : goal.returns-in_ok-put_set-in-Show
returns-in_ok-put_set-in-Show c =
    says_from c.args.plan.now (Show c.in-Show.set) Nothing (Shows c.in-Show.set) c.args.status c.args.replies.now c.put_set.new.self c.in-Show.is refl c.in_ok-put_set-in-Show.ensures.ok

pub returns-in-Keep : goal.returns-in-Keep
returns-in-Keep c =
    says_from c.args.plan.now (Keep c.in-Keep.index c.in-Keep.txn c.in-Keep.affected) Nothing (Done c.in-Keep.affected) c.args.status c.args.replies.now c.put_ok-in-Keep.new.self c.in-Keep.is refl c.put_ok-in-Keep.ensures
