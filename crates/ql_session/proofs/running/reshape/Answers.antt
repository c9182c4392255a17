use Rattle.ql_session.proofs.Replying.{runs_job}
use Rattle.ql_session.proofs.running.reshape.Goals as goal

pub returns-in-Ok : goal.returns-in-Ok
returns-in-Ok g c =
    runs_job g.T.Catalog.confs g.T.TableStore.words c.args.tables.now c.reshape.new.self c.args.machine.now c.reply.new.machine.state c.args.statement.now c.args.place c.args.job c.in-Ok.outcome c.args.more c.args.replies.now c.reply.new.replies
    c.requires.at c.in-Ok.ensures.reshapes c.in-Ok.ensures.confs c.reply.ensures
