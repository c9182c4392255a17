use Rattle.std.proofs.Common.{◌++◌, rules, arith, refl, ap, subst, ◌∙◌, All}
use Rattle.doc_types.specs.declared.tokens.TokenWord.{TokenWord}
use Rattle.image_write.specs.Heads.{IsRead}
use Rattle.image_write.specs.steps.Places.{field_places}
use Rattle.image_write.proofs.Columned.{all_more}
use Rattle.image_write.proofs.Meeting.{all_met, all_taken, word_more}
use Rattle.image_write.proofs.gathering.add_field.Goals as goal

pub loop-number-preserved : goal.loop-number-preserved
loop-number-preserved c =
    let words = c.as_slice-token-items.result.now in
    let i = c.loop-number.number in
    let t = c.token-item.result in
    record {
      places = word_more c.args.row c.args.field i words t c.loop-number.places.items c.push.new.self.items _ (omega arith) (search rules) c.loop-number.invariant.places (search rules);
      bytes = all_more (λ (token : TokenWord). IsRead token.word) words i t (omega arith) (search rules) c.loop-number.invariant.bytes (search rules);
    }

pub returns-clause-places : goal.returns-clause-places
returns-clause-places c =
    all_met (field_places c.args.row c.args.field c.loop-number.number) c.as_slice-token-items.result.now c.loop-number.number c.loop-number.places.items _ refl (omega arith) c.loop-number.invariant.places
    ∙ ap (λ ts. c.args.places.now.items ++ field_places c.args.row c.args.field 0 ts) c.as_slice-token-items.ensures

pub returns-clause-bytes : goal.returns-clause-bytes
returns-clause-bytes c =
    subst (All (λ (token : TokenWord). IsRead token.word)) c.as_slice-token-items.ensures (all_taken (λ (token : TokenWord). IsRead token.word) c.as_slice-token-items.result.now c.loop-number.number (omega arith) c.loop-number.invariant.bytes)
