use Rattle.std.proofs.Common.{arith, ap, sym, ◌∙◌}
use Rattle.occ_lists.specs.steps.Wanted.{is_upto}
use Rattle.occ_lists.proofs.Reaching.{end_more, end_never}
use Rattle.occ_lists.proofs.wanted.least_end.Goals as goal

pub returns-in_err-reached : goal.returns-in_err-reached
returns-in_err-reached c last =
    end_never c.args.words.now c.loop-wanted.wanted-index c.wanted-item.result c.args.from (omega arith) c.wanted-item.is c.in_err-reached.ensures last
    ∙ sym (ap (λ result. is_upto result last) c.from_residual.ensures)

pub loop-wanted-preserved : goal.loop-wanted-preserved
loop-wanted-preserved c = end_more c.args.words.now c.loop-wanted.wanted-index c.wanted-item.result c.args.from c.loop-wanted.end c.in_ok-reached.field-0 c.max-end.result (omega arith) c.wanted-item.is c.max-end.ensures c.loop-wanted.invariant c.in_ok-reached.ensures
