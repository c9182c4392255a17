use Rattle.std.proofs.Common.{ℕ, List, subst}
use Rattle.self_test.specs.Asking.{Asks}
use Rattle.self_test.proofs.Leading.{asked_leads}
use Rattle.self_test.proofs.Talking.{query_answered}
use Rattle.self_test.proofs.asking.Client.ask.Goals as goal

pub returns-clause-asks : goal.returns-clause-asks
returns-clause-asks g c =
    let after = c.step-end in
    subst (λ (text : List ℕ). Asks g.T.Catalog.confs g.T.TableStore.words text after.new.replies.bytes c.args.self.now.session c.args.tables.now after.new.self after.new.tables)
    c.as_bytes.ensures.value
    (query_answered g.T.Catalog.confs g.T.TableStore.words after.result c.as_bytes.result.now after.new.replies.bytes c.args.self.now.session after.new.self
    c.args.tables.now after.new.tables after.ensures.steps)

pub returns-clause-leads : goal.returns-clause-leads
returns-clause-leads g c =
    let after = c.step-end in
    asked_leads g.T.Catalog.confs g.T.TableStore.words c.as_bytes.result.now after.new.replies.bytes c.args.self.now.session after.new.self c.args.tables.now after.new.tables
    (query_answered g.T.Catalog.confs g.T.TableStore.words after.result c.as_bytes.result.now after.new.replies.bytes c.args.self.now.session after.new.self
    c.args.tables.now after.new.tables after.ensures.steps)
