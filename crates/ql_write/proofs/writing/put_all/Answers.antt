use Rattle.std.proofs.Common.{map, take}
use Rattle.ql_write.specs.steps.Writing.{piece_of, with_spaces, Keeps}
use Rattle.ql_write.proofs.Writings.{failed, kept, kept_all}
use Rattle.ql_write.proofs.writing.put_all.Goals as goal

pub returns-in_err-put_one : goal.returns-in_err-put_one
returns-in_err-put_one c =
    let k : Keeps c.args.out.now.items c.loop-token.out.items = kept_all _ (with_spaces (map piece_of (take c.loop-token.token-index c.args.tokens.now))) _ c.loop-token.invariant in
    failed (with_spaces (map piece_of c.args.tokens.now)) c.args.out.now.items c.put_one.new.out.items c.from_residual.result c.from_residual.ensures.0 (kept _ c.loop-token.out.items _ k c.in_err-put_one.ensures)
