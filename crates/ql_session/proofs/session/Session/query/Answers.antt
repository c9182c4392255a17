use Rattle.std.proofs.Common.{◌∙◌, ap, rules}
use Rattle.ql_answers.specs.Replies.{Fails, replied}
use Rattle.ql_refusals.specs.Refusals.{Refused}
use Rattle.ql_session.specs.Statements.{RefusesText}
use Rattle.ql_session.proofs.Several.{text_refused, text_runs, text_unread}
use Rattle.ql_session.proofs.session.Session.query.Goals as goal

pub returns-in-Ok-clause-replies : goal.returns-in-Ok-clause-replies
returns-in-Ok-clause-replies g c =
    text_runs g.T.Catalog.confs g.T.TableStore.words c.args.tables.now c.run_all.new.tables c.args.self.now c.self.inside.machine.state c.run_all.new.machine.state c.args.text.now c.in-Ok.list.items c.deref.result.now c.args.replies.now c.run_all.new.replies
    c.self.view_is c.deref.ensures.value c.requires.begun c.in-Ok.ensures c.run_all.ensures.runs

pub returns-in-Err-NoMemory-clause-replies : goal.returns-in-Err-NoMemory-clause-replies
returns-in-Err-NoMemory-clause-replies g c =
    text_unread g.T.Catalog.confs g.T.TableStore.words c.args.tables.now c.args.self.now c.args.text.now c.no_memory.result c.args.replies.now c.put_refusal.new.replies
    (g.met.T.TableStore.may_stay c.args.tables.now) c.no_memory.ensures c.requires.begun c.put_refusal.ensures

pub returns-in-Err-Fault-clause-replies : goal.returns-in-Err-Fault-clause-replies
returns-in-Err-Fault-clause-replies g c =
    let refuses : RefusesText c.args.text.now c.in-Err-Fault.refusal = search rules in
    text_refused g.T.Catalog.confs g.T.TableStore.words c.args.tables.now c.args.self.now c.args.text.now c.in-Err-Fault.refusal c.args.replies.now c.put_refusal-in-Err-Fault.new.replies refuses c.requires.begun
    (c.put_refusal-in-Err-Fault.ensures ∙ ap (λ (r : Refused). replied c.args.replies.now 0 (Fails r)) c.in-Err-Fault.refusal-is)
