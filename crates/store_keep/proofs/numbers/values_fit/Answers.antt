use Rattle.std.proofs.Common.{arith}
use Rattle.doc_bytes.specs.RoundTrip.{IsNumber}
use Rattle.store_keep.proofs.Fitting.{all_more}
use Rattle.store_keep.proofs.numbers.values_fit.Goals as goal

pub loop-value-preserved : goal.loop-value-preserved
loop-value-preserved c = all_more IsNumber c.args.values.now c.loop-value.value-index _ (omega arith) c.value_fits.ensures c.loop-value.invariant

pub returns : goal.returns
returns c = λ k d h. c.loop-value.invariant d k (omega (arith, h))
