use Rattle.ql_session.proofs.Replying.{can_be_committed, runs_commit}
use Rattle.ql_session.proofs.running.commit.Goals as goal

pub commit-requires : goal.commit-requires
commit-requires g c =
    can_be_committed (g.T.Catalog.confs c.args.tables.now) c.args.statement.now c.args.machine.now c.args.place c.pending.result.now c.requires.at c.pending.ensures c.requires.fits

pub returns-in-Ok : goal.returns-in-Ok
returns-in-Ok g c =
    runs_commit g.T.Catalog.confs g.T.TableStore.words c.args.tables.now c.commit.new.self c.args.machine.now c.reply.new.machine.state c.args.statement.now c.args.place c.pending.result.now c.in-Ok.outcome c.args.more c.args.replies.now c.reply.new.replies
    c.requires.at c.pending.ensures c.in-Ok.ensures.commits c.in-Ok.ensures.confs c.reply.ensures
