use Rattle.std.proofs.Common.{◌<◌, ◌^◌, All, take}
use Rattle.doc_types.specs.declared.tokens.ZoneSpan.{ZoneSpan}
use Rattle.image_chunk.proofs.ram_chunk.spans_fit.Given as goal

abbrev pub invariant-loop-span : goal.invariant-loop-span
invariant-loop-span l = All (λ (span : ZoneSpan). span.zone < 2 ^ 16) (take l.span-index l.spans)
