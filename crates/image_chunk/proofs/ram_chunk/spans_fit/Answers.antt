use Rattle.std.proofs.Common.{◌<◌, ◌^◌, arith}
use Rattle.doc_types.specs.declared.tokens.ZoneSpan.{ZoneSpan}
use Rattle.image_chunk.proofs.Building.{all_at, all_taken}
use Rattle.image_chunk.proofs.ram_chunk.spans_fit.Goals as goal

pub loop-span-preserved : goal.loop-span-preserved
loop-span-preserved c = all_at (λ (span : ZoneSpan). span.zone < 2 ^ 16) c.args.spans.now c.loop-span.span-index _ (omega arith) c.loop-span.invariant c.zone_fits.ensures

pub returns : goal.returns
returns c = all_taken (λ (span : ZoneSpan). span.zone < 2 ^ 16) c.args.spans.now c.loop-span.span-index (omega arith) c.loop-span.invariant
