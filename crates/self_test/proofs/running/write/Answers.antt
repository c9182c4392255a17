use Rattle.std.proofs.Common.{◌≡◌, ◌∷◌, List, rules, length, subst, ◌∙◌}
use Rattle.self_test.specs.declared.generator.Document.{Document}
use Rattle.self_test.proofs.Conversing.{AreWritten, one_more_written, written_astray}
use Rattle.self_test.proofs.Leading.{leads_then}
use Rattle.self_test.proofs.running.write.Goals as goal

pub returns-in-Err-clause-told : goal.returns-in-Err-clause-told
returns-in-Err-clause-told g c =
    let confs = g.T.Catalog.confs in
    let words = g.T.TableStore.words in
    let start = c.args.tables.now in
    let last = length c.args.documents.now in
    let split : c.documents.rest.now ≡ c.in-Some.document.now ∷ c.in-Some.more.now = search rules in
    written_astray confs words c.in-Err.fault c.args.before last c.args.documents.now c.documents.number c.in-Some.document.now c.in-Some.more.now
    c.args.client.now.session c.documents.client.session c.write_next.new.client.session start c.documents.tables c.write_next.new.tables
    (subst (λ (rest : List Document). AreWritten confs words c.args.before last c.args.documents.now c.documents.number rest c.args.client.now.session start c.documents.client.session c.documents.tables) split c.documents.invariant.written)
    c.in-Err.ensures.told

pub documents-preserved : goal.documents-preserved
documents-preserved g c =
    let confs = g.T.Catalog.confs in
    let words = g.T.TableStore.words in
    let start = c.args.tables.now in
    let last = length c.args.documents.now in
    let split : c.documents.rest.now ≡ c.in-Some.document.now ∷ c.in-Some.more.now = search rules in
    record {
      fits = c.write_next.ensures.fits;
      confs = c.write_next.ensures.confs ∙ c.documents.invariant.confs;
      leads = leads_then confs words start c.documents.tables c.write_next.new.tables c.documents.invariant.leads c.write_next.ensures.leads;
      left = search rules;
      written = one_more_written confs words c.args.before last c.args.documents.now c.documents.number c.in-Some.document.now c.in-Some.more.now
          c.args.client.now.session c.documents.client.session c.write_next.new.client.session start c.documents.tables c.write_next.new.tables
          (subst (λ (rest : List Document). AreWritten confs words c.args.before last c.args.documents.now c.documents.number rest c.args.client.now.session start c.documents.client.session c.documents.tables) split c.documents.invariant.written)
          c.in-Ok.ensures.told;
    }
