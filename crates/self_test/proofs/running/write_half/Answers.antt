use Rattle.std.proofs.Common.{[], ◌∷◌}
use Rattle.self_test.specs.Conversations.{job, transactions}
use Rattle.self_test.proofs.Conversing.{told_first, told_then}
use Rattle.self_test.proofs.running.write_half.Goals as goal

pub returns-in-Ok-clause-told : goal.returns-in-Ok-clause-told
returns-in-Ok-clause-told g c = λ statement is states.
    told_then g.T.Catalog.confs g.T.TableStore.words c.tell.result (transactions c.args.before c.args.documents.now) (job statement ∷ []) c.args.client.now.session c.write.new.client.session c.tell.new.self.session
    c.args.tables.now c.write.new.tables c.tell.new.tables c.in-Ok.ensures.told (c.tell.ensures.told statement is states)

pub returns-in-Err-clause-told : goal.returns-in-Err-clause-told
returns-in-Err-clause-told g c = λ statement is states.
    told_first g.T.Catalog.confs g.T.TableStore.words c.in-Err.fault (transactions c.args.before c.args.documents.now) (job statement ∷ []) c.args.client.now.session c.write.new.client.session
    c.args.tables.now c.write.new.tables c.in-Err.ensures.told
