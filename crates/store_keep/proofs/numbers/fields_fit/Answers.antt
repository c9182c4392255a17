use Rattle.std.proofs.Common.{◌≡◌, ◌<◌, ◌^◌, All, get_or, sym, subst, arith, rules}
use Rattle.doc_types.specs.declared.tokens.FieldTokens.{FieldTokens}
use Rattle.doc_types.specs.declared.tokens.ZoneSpan.{ZoneSpan}
use Rattle.store_keep.proofs.Fitting.{all_more}
use Rattle.store_keep.proofs.numbers.fields_fit.Goals as goal

pub loop-field-preserved : goal.loop-field-preserved
loop-field-preserved c =
    let at : get_or c.args.fields.now c.loop-field.field-index c.field-item.result ≡ c.field-item.result = search rules in
    all_more (λ (tokens : FieldTokens). All (λ (span : ZoneSpan). span.zone < 2 ^ 16) tokens.spans) c.args.fields.now c.loop-field.field-index c.field-item.result (omega arith) (subst (λ (tokens : FieldTokens). All (λ (span : ZoneSpan). span.zone < 2 ^ 16) tokens.spans) (sym at) c.field_fits.ensures) c.loop-field.invariant

pub returns : goal.returns
returns c = λ k d h. c.loop-field.invariant d k (omega (arith, h))
