use Rattle.std.proofs.Common.{◌≡◌, List, subst, ◌∙◌}
use Rattle.self_test.specs.Conversations.{ConversesOr}
use Rattle.self_test.specs.Documents.{documents_from}
use Rattle.self_test.specs.declared.generator.Document.{Document}
use Rattle.self_test.proofs.running.run.Goals as goal

pub returns-in-Ok-clause-comes : goal.returns-in-Ok-clause-comes
returns-in-Ok-clause-comes g c =
    let asked : c.deref.result.now ≡ documents_from c.args.number c.args.docs = c.deref.ensures.value ∙ c.in-Ok.ensures.are in
    subst (λ (documents : List Document). ConversesOr g.T.Catalog.confs g.T.TableStore.words documents c.found.result c.args.tables.now c.found.new.tables) asked c.found.ensures.converses
