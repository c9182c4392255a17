use Rattle.std.proofs.Common.{below_more, arith}
use Rattle.mark_scan.proofs.Fronts.{rules_next}
use Rattle.mark_scan.proofs.markup.next_markup.Goals as goal

-- no markup begins at this place either
pub loop-place-preserved : goal.loop-place-preserved
loop-place-preserved c = record {
  none = below_more _ _ c.loop-place.invariant.none c.in-None.ensures.none;
  rules = rules_next _ c.args.bytes.now c.loop-place.place c.in-None.ensures.ends;
}

pub returns-clause-none : goal.returns-clause-none
returns-clause-none c = λ k below. c.loop-place.invariant.none k (omega arith)
