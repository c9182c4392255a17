use Rattle.query_write.specs.steps.Writes.{separator}
use Rattle.query_write.proofs.Writings.{part_failed, part_failed_after}
use Rattle.query_write.proofs.tokens.put_keys.Goals as goal

pub returns-in_err-put_separator : goal.returns-in_err-put_separator
returns-in_err-put_separator c =
    part_failed _ c.args.out.now.items c.loop-key.out.items c.put_separator.new.out.items _ _ c.from_residual.result c.loop-key.invariant c.from_residual.ensures.0 c.in_err-put_separator.ensures

pub returns-in_err-put_key : goal.returns-in_err-put_key
returns-in_err-put_key c =
    part_failed_after _ (separator c.loop-key.first 32) c.args.out.now.items c.loop-key.out.items c.put_separator.new.out.items c.put_key.new.out.items _ _ c.from_residual-in_err-put_key.result
    c.loop-key.invariant c.in_ok-put_separator.ensures c.from_residual-in_err-put_key.ensures.0 c.in_err-put_key.ensures
