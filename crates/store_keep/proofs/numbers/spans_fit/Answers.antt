use Rattle.std.proofs.Common.{◌<◌, ◌^◌, arith}
use Rattle.doc_types.specs.declared.tokens.ZoneSpan.{ZoneSpan}
use Rattle.store_keep.proofs.Fitting.{all_more}
use Rattle.store_keep.proofs.numbers.spans_fit.Goals as goal

pub loop-span-preserved : goal.loop-span-preserved
loop-span-preserved c = all_more (λ (span : ZoneSpan). span.zone < 2 ^ 16) c.args.spans.now c.loop-span.span-index _ (omega arith) c.span_fits.ensures c.loop-span.invariant

pub returns : goal.returns
returns c = λ k d h. c.loop-span.invariant d k (omega (arith, h))
