use Rattle.ql_session.proofs.Replying.{runs_nothing}
use Rattle.ql_session.proofs.running.acknowledge.Goals as goal

pub returns : goal.returns
returns g c =
    runs_nothing g.T.Catalog.confs g.T.TableStore.words c.args._tables.now c.args.machine.now c.reply.new.machine.state c.args.statement.now c.args.more c.args.replies.now c.reply.new.replies
    (g.met.T.TableStore.may_stay c.args._tables.now) c.requires.at c.reply.ensures
