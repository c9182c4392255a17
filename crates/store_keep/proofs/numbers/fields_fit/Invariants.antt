use Rattle.std.proofs.Common.{ℕ, ◌<◌, ◌^◌, All, get_or}
use Rattle.doc_types.specs.declared.tokens.FieldTokens.{FieldTokens}
use Rattle.doc_types.specs.declared.tokens.ZoneSpan.{ZoneSpan}
use Rattle.store_keep.proofs.numbers.fields_fit.Given as goal

abbrev pub invariant-loop-field : goal.invariant-loop-field
invariant-loop-field l = (d : FieldTokens) (k : ℕ) → k < l.field-index → (λ (tokens : FieldTokens). All (λ (span : ZoneSpan). span.zone < 2 ^ 16) tokens.spans) (get_or l.fields k d)
