use Rattle.std.proofs.Common.{◌≡◌, get_or, sym, subst, arith, rules}
use Rattle.doc_bytes.specs.RoundTrip.{OpNumbers}
use Rattle.store_keep.proofs.Fitting.{all_more}
use Rattle.store_keep.proofs.numbers.ops_fit.Goals as goal

pub loop-op-preserved : goal.loop-op-preserved
loop-op-preserved c =
    let at : get_or c.args.ops.now c.loop-op.op-index c.op-item.result ≡ c.op-item.result = search rules in
    all_more OpNumbers c.args.ops.now c.loop-op.op-index c.op-item.result (omega arith) (subst OpNumbers (sym at) c.op_fits.ensures) c.loop-op.invariant

pub returns : goal.returns
returns c = λ k d h. c.loop-op.invariant d k (omega (arith, h))
