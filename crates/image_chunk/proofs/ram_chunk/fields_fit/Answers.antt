use Rattle.std.proofs.Common.{◌<◌, ◌^◌, All, arith, rules, subst}
use Rattle.doc_types.specs.declared.tokens.FieldTokens.{FieldTokens}
use Rattle.doc_types.specs.declared.tokens.ZoneSpan.{ZoneSpan}
use Rattle.image_chunk.proofs.Building.{all_more, all_taken}
use Rattle.image_chunk.proofs.ram_chunk.fields_fit.Goals as goal

pub loop-tokens-preserved : goal.loop-tokens-preserved
loop-tokens-preserved c = all_more (λ (tokens : FieldTokens). All (λ span. span.zone < 2 ^ 16) tokens.spans) c.args.fields.now c.loop-tokens.tokens-index c.tokens-item.result (omega arith) (search rules) c.loop-tokens.invariant (subst (All (λ (span : ZoneSpan). span.zone < 2 ^ 16)) c.as_slice.ensures c.spans_fit.ensures)

pub returns : goal.returns
returns c = all_taken (λ (tokens : FieldTokens). All (λ span. span.zone < 2 ^ 16) tokens.spans) c.args.fields.now c.loop-tokens.tokens-index (omega arith) c.loop-tokens.invariant
