use Rattle.query_write.specs.Spelling.{spelled}
use Rattle.query_write.proofs.Writings.{part_failed}
use Rattle.query_write.proofs.spelling.put_word.Goals as goal

pub returns-in_err-put_byte : goal.returns-in_err-put_byte
returns-in_err-put_byte c =
    part_failed (spelled c.args.word.now) c.args.out.now.items c.loop-k.out.items c.put_byte.new.out.items _ _ c.from_residual.result c.loop-k.invariant c.from_residual.ensures.0 c.in_err-put_byte.ensures.kept
