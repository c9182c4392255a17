use Rattle.std.proofs.Common.{subst}
use Rattle.ql_answers.specs.declared.state.State.{State}
use Rattle.self_test.specs.Asking.{AreDone}
use Rattle.self_test.specs.Conversations.{loading}
use Rattle.self_test.proofs.Conversing.{comes_then}
use Rattle.self_test.proofs.running.converse.Goals as goal

pub returns-in-Ok-clause-converses : goal.returns-in-Ok-clause-converses
returns-in-Ok-clause-converses g c =
    let confs = g.T.Catalog.confs in
    let words = g.T.TableStore.words in
    comes_then confs words c.count_all.result c.args.documents.now c.load.new.client.session c.args.tables.now c.load.new.tables c.count_all.new.tables
    (subst (λ (state : State). AreDone confs words (loading c.args.documents.now) state c.args.tables.now c.load.new.client.session c.load.new.tables) c.requires.begins c.in-Ok.ensures.told)
    c.count_all.ensures.sums
