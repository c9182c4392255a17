use Rattle.std.proofs.Common.{rules, arith, refl, sym, subst, All, map}
use Rattle.doc_types.specs.declared.documents.Doc.{Doc}
use Rattle.image_write.specs.Heads.{IsRead}
use Rattle.image_write.specs.steps.Places.{AreFew, docs_places}
use Rattle.image_write.proofs.Columned.{all_more}
use Rattle.image_write.proofs.Meeting.{all_lent, all_met, doc_more, lent_at}
use Rattle.image_write.proofs.gathering.add_rows.Goals as goal

pub add_doc-requires-clause-few : goal.add_doc-requires-clause-few
add_doc-requires-clause-few g c = subst AreFew (sym c.doc.ensures) (lent_at AreFew g.R.LendsDoc.lent c.args.rows.now c.loop-number.number c.index-rows-number.result (omega arith) (search rules) c.requires.fields)

pub loop-number-preserved : goal.loop-number-preserved
loop-number-preserved g c =
    let rows = c.args.rows.now in
    let i = c.loop-number.number in
    record {
      places = doc_more g.R.LendsDoc.lent i rows c.index-rows-number.result c.loop-number.places.items c.add_doc.new.places.items _ (omega arith) (search rules) c.loop-number.invariant.places (search rules);
      bytes = all_more (λ row. All (λ tokens. All (λ token. IsRead token.word) tokens.words) (g.R.LendsDoc.lent row).fields) rows i c.index-rows-number.result (omega arith) (search rules) c.loop-number.invariant.bytes (search rules);
    }

pub returns-clause-places : goal.returns-clause-places
returns-clause-places g c =
    all_met (λ rows. docs_places c.loop-number.number (map g.R.LendsDoc.lent rows)) c.args.rows.now c.loop-number.number c.loop-number.places.items _ refl (omega arith) c.loop-number.invariant.places

pub returns-clause-bytes : goal.returns-clause-bytes
returns-clause-bytes g c = all_lent (λ (doc : Doc). All (λ tokens. All (λ token. IsRead token.word) tokens.words) doc.fields) g.R.LendsDoc.lent c.args.rows.now c.loop-number.number (omega arith) c.loop-number.invariant.bytes
