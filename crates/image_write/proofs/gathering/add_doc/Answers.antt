use Rattle.std.proofs.Common.{◌++◌, rules, arith, refl, ap, subst, ◌∙◌, All}
use Rattle.doc_types.specs.declared.tokens.FieldTokens.{FieldTokens}
use Rattle.image_write.specs.Heads.{IsRead}
use Rattle.image_write.specs.steps.Places.{doc_places}
use Rattle.image_write.proofs.Columned.{all_more}
use Rattle.image_write.proofs.Meeting.{all_met, all_taken, field_more}
use Rattle.image_write.proofs.gathering.add_doc.Goals as goal

pub loop-field-preserved : goal.loop-field-preserved
loop-field-preserved c =
    let fields = c.as_slice-tokens-items.result.now in
    let i = c.loop-field.field in
    let f = c.tokens-item.result in
    record {
      places = field_more c.args.row i fields f c.loop-field.places.items c.add_field.new.places.items _ (omega arith) (search rules) c.loop-field.invariant.places (search rules);
      bytes = all_more (λ (tokens : FieldTokens). All (λ token. IsRead token.word) tokens.words) fields i f (omega arith) (search rules) c.loop-field.invariant.bytes (search rules);
    }

pub returns-clause-places : goal.returns-clause-places
returns-clause-places c =
    all_met (doc_places c.args.row c.loop-field.field) c.as_slice-tokens-items.result.now c.loop-field.field c.loop-field.places.items _ refl (omega arith) c.loop-field.invariant.places
    ∙ ap (λ fs. c.args.places.now.items ++ doc_places c.args.row 0 fs) c.as_slice-tokens-items.ensures

pub returns-clause-bytes : goal.returns-clause-bytes
returns-clause-bytes c =
    subst (All (λ (tokens : FieldTokens). All (λ token. IsRead token.word) tokens.words)) c.as_slice-tokens-items.ensures
    (all_taken (λ (tokens : FieldTokens). All (λ token. IsRead token.word) tokens.words) c.as_slice-tokens-items.result.now c.loop-field.field (omega arith) c.loop-field.invariant.bytes)
