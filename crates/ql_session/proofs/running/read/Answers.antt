use Rattle.std.specs.Arc.{arc_value}
use Rattle.ql_session.proofs.Replying.{runs_read, told_read}
use Rattle.ql_session.proofs.running.read.Goals as goal

pub reply-requires-clause-can : goal.reply-requires-clause-can
reply-requires-clause-can g c =
    told_read (g.T.Catalog.confs c.args.tables.now) c.args.statement.now c.args.machine.now c.args.place (arc_value c.in-Ok.front) c.deref.result.now c.requires.at c.deref.ensures c.in-Ok.ensures.rows

pub returns-in-Ok : goal.returns-in-Ok
returns-in-Ok g c =
    runs_read g.T.Catalog.confs g.T.TableStore.words c.args.tables.now c.front.new.self c.args.machine.now c.reply.new.machine.state c.args.statement.now c.args.place (arc_value c.in-Ok.front) c.deref.result.now c.args.more c.args.replies.now c.reply.new.replies
    c.requires.at c.deref.ensures c.in-Ok.ensures.reads c.in-Ok.ensures.confs c.reply.ensures
