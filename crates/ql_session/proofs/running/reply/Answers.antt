use Rattle.ql_answers.specs.Sessions.{happened_by}
use Rattle.ql_session.proofs.MemoryWants.{says_want}
use Rattle.ql_session.proofs.running.reply.Goals as goal

pub returns-in-Err : goal.returns-in-Err
returns-in-Err g c =
    says_want c.in-Err.field-0 c.args.machine.now c.reply.new.self (happened_by c.args.event.now) c.args.more c.no_memory.result c.args.replies.now c.reply.new.replies c.put_refusal.new.replies c.in-Err.ensures c.no_memory.ensures c.put_refusal.ensures
