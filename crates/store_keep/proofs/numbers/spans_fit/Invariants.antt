use Rattle.std.proofs.Common.{ℕ, ◌<◌, ◌^◌, get_or}
use Rattle.doc_types.specs.declared.tokens.ZoneSpan.{ZoneSpan}
use Rattle.store_keep.proofs.numbers.spans_fit.Given as goal

abbrev pub invariant-loop-span : goal.invariant-loop-span
invariant-loop-span l = (d : ZoneSpan) (k : ℕ) → k < l.span-index → (λ (span : ZoneSpan). span.zone < 2 ^ 16) (get_or l.spans k d)
