use Rattle.query_write.specs.steps.Writes.{separator}
use Rattle.query_write.proofs.Writings.{part_failed, part_failed_after}
use Rattle.query_write.proofs.tokens.put_zone_names.Goals as goal

pub returns-in_err-put_separator : goal.returns-in_err-put_separator
returns-in_err-put_separator c =
    part_failed _ c.args.out.now.items c.loop-zone.out.items c.put_separator.new.out.items _ _ c.from_residual.result c.loop-zone.invariant c.from_residual.ensures.0 c.in_err-put_separator.ensures

pub returns-in_err-put_zone : goal.returns-in_err-put_zone
returns-in_err-put_zone c =
    part_failed_after _ (separator c.loop-zone.first 44) c.args.out.now.items c.loop-zone.out.items c.put_separator.new.out.items c.put_zone.new.out.items _ _ c.from_residual-in_err-put_zone.result
    c.loop-zone.invariant c.in_ok-put_separator.ensures c.from_residual-in_err-put_zone.ensures.0 c.in_err-put_zone.ensures
