use Rattle.query_read.proofs.FirstFaults.{choose_wrong, choose_refused, choose_only, choose_none}
use Rattle.query_read.proofs.faults.first_within.Goals as goal

pub returns-then-wrong-place : goal.returns-then-wrong-place
returns-then-wrong-place c =
    choose_wrong c.args.read.now c.in_ok-negated.negated c.in-Some.place c.in_ok-wrong.wrong c.in-Some-wrong.wrong c.requires c.in_ok-negated.ensures c.in_ok-wrong.ensures c.in-Some.is c.in-Some-wrong.is c.if-wrong-place.true

pub returns-else-wrong-place : goal.returns-else-wrong-place
returns-else-wrong-place c =
    choose_refused c.args.read.now c.in_ok-negated.negated c.in-Some.place c.in_ok-wrong.wrong c.in-Some-wrong.wrong c.nameless.result c.requires c.in_ok-negated.ensures c.in_ok-wrong.ensures c.in-Some.is c.in-Some-wrong.is c.if-wrong-place.false c.nameless.ensures

pub returns-in-None-wrong : goal.returns-in-None-wrong
returns-in-None-wrong c =
    choose_only c.args.read.now c.in_ok-negated.negated c.in-Some.place c.in_ok-wrong.wrong c.nameless-in-None-wrong.result c.requires c.in_ok-negated.ensures c.in_ok-wrong.ensures c.in-Some.is c.in-None-wrong.is c.nameless-in-None-wrong.ensures

pub returns-in-None : goal.returns-in-None
returns-in-None c = choose_none c.args.read.now c.in_ok-negated.negated c.in_ok-wrong.wrong c.requires c.in_ok-negated.ensures c.in_ok-wrong.ensures c.in-None.is
