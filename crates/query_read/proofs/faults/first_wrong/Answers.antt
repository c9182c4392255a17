use Rattle.std.proofs.Common.{refl}
use Rattle.query_read.proofs.FirstWrong.{wrong_here, clean_more, clean_all}
use Rattle.query_read.proofs.faults.first_wrong.Goals as goal

pub returns-in-Some : goal.returns-in-Some
returns-in-Some c =
    wrong_here c.args.marks.now c.loop-mark.mark-index c.mark-item.result c.in-Some.wrong c.get-wrong.result.now (record { place = c.mark-item.result.at; kind = c.get-wrong.result.now.kind; name = c.in_ok-clone.field-0 }) c.loop-mark-test.true c.mark-item.is c.loop-mark.invariant c.in-Some.is c.get-wrong.ensures refl refl c.in_ok-clone.ensures.cases

pub loop-mark-preserved : goal.loop-mark-preserved
loop-mark-preserved c = clean_more c.args.marks.now c.loop-mark.mark-index c.mark-item.result c.loop-mark-test.true c.mark-item.is c.loop-mark.invariant c.in_default.is

pub returns : goal.returns
returns c = clean_all c.args.marks.now c.loop-mark.mark-index c.loop-mark-test.false c.loop-mark.auto.mark-index-end c.loop-mark.invariant
