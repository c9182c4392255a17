use Rattle.std.proofs.Common.{◌<◌, ◌^◌, All, take}
use Rattle.doc_types.specs.declared.tokens.FieldTokens.{FieldTokens}
use Rattle.image_chunk.proofs.ram_chunk.fields_fit.Given as goal

abbrev pub invariant-loop-tokens : goal.invariant-loop-tokens
invariant-loop-tokens l = All (λ (tokens : FieldTokens). All (λ span. span.zone < 2 ^ 16) tokens.spans) (take l.tokens-index l.fields)
