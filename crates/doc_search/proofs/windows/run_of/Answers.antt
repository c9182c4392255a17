use Rattle.std.proofs.Common.{◌+◌, arith, sym, subst}
use Rattle.doc_search.specs.steps.Windows.{IsRun}
use Rattle.doc_search.proofs.ManyRows.{at_place, told_first, told_on, told_past}
use Rattle.doc_search.proofs.windows.run_of.Goals as goal
use Rattle.doc_search.proofs.windows.run_of.Goals.{then-its+else-not-weighs_no_more, else-its}

pub run-init : goal.run-init
run-init c = record {
  on = omega arith;
  within = omega arith;
  few = omega arith;
  run = λ docs dead from asked told weighs.
      let there = at_place c.args.told.now c.args.index c.requires.index in
      told_first c.args.asked.now docs dead from c.args.told.now told c.args.most c.args.index there.0 c.requires.index there.1 (c.requires.found there.0 there.1) weighs;
}

pub run-preserved : goal.run-preserved
run-preserved c = record {
  on = omega (arith, c.run.invariant.on);
  within = omega (arith, c.run-test.true);
  few = elim c.if-its.branch [ then-its+else-not-weighs_no_more w ↦ omega (arith, w.rows-is, c.run.invariant.few) | else-its w ↦ omega (arith, w.rows-is, c.run.invariant.few) ];
  run = λ docs dead from asked told weighs.
      let run = c.run.invariant.run docs dead from asked told weighs in
      elim c.if-its.branch [
        | then-its+else-not-weighs_no_more w ↦
            subst (IsRun c.args.asked.now docs dead (from + c.args.index) (from + (c.run.next + 1)) c.args.most) (sym w.rows-is)
            (told_on c.args.asked.now docs dead from c.args.told.now told c.args.most (from + c.args.index) c.run.next c.run.rows c.told_at-its.result (omega (arith, c.run.invariant.on)) c.run-test.true c.told_at-its.ensures w.if-its.true
            (λ doc here its. w.weighs_no_more.ensures w.if-not-weighs_no_more.false docs dead (from + c.run.next) doc asked here its w.if-its.true) run)
        | else-its w ↦
            subst (IsRun c.args.asked.now docs dead (from + c.args.index) (from + (c.run.next + 1)) c.args.most) (sym w.rows-is)
            (told_past c.args.asked.now docs dead from c.args.told.now told c.args.most (from + c.args.index) c.run.next c.run.rows c.told_at-its.result c.run-test.true c.told_at-its.ensures w.if-its.false run)
      ];
}
