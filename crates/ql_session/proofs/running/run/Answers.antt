use Rattle.std.proofs.Common.{ap, inl, refl, ◌∙◌}
use Rattle.ql_refusals.specs.Refusals.{Refused, no_memory}
use Rattle.ql_answers.specs.Replies.{Fails, replied}
use Rattle.ql_session.specs.Events.{Nothing}
use Rattle.ql_session.proofs.Replying.{needs_memory, needs_none, runs_want}
use Rattle.ql_session.proofs.StaysFit.{fits_after}
use Rattle.ql_session.proofs.running.run.Goals as goal

pub returns-in-Err-NoMemory : goal.returns-in-Err-NoMemory
returns-in-Err-NoMemory g c =
    let told = needs_memory (g.T.Catalog.confs c.args.tables.now) c.args.machine.now c.args.statement.now c.in-Err-NoMemory.field-0 c.need.new.self c.in-Err-NoMemory.field-0-is c.in-Err-NoMemory.ensures in
    runs_want g.T.Catalog.confs g.T.TableStore.words c.args.tables.now c.args.tables.now c.args.machine.now.state c.need.new.self.state c.args.statement.now (Fails no_memory) c.args.more c.args.replies.now c.put_refusal.new.replies
    told.0 refl told.1 (g.met.T.TableStore.may_stay c.args.tables.now) refl (c.put_refusal.ensures ∙ ap (λ (r : Refused). replied c.args.replies.now 0 (Fails r)) c.no_memory.ensures)

pub returns-in-Err-Fault : goal.returns-in-Err-Fault
returns-in-Err-Fault g c =
    let told = needs_none (g.T.Catalog.confs c.args.tables.now) c.args.machine.now c.args.statement.now c.in-Err-Fault.field-0 c.in-Err-Fault.refusal c.need.new.self c.in-Err-Fault.field-0-is c.in-Err-Fault.ensures in
    record {
      event = Nothing;
      reply = Fails c.in-Err-Fault.refusal;
      replies = inl (c.in-Err-Fault.refusal, told.0, refl, refl, told.1);
      follows = refl;
      same = refl;
      fits = λ fits. fits_after g.T.TableStore.words.documents (g.T.Catalog.confs c.args.tables.now) (g.T.Catalog.confs c.args.tables.now) c.args.machine.now.state c.need.new.self.state c.args.statement.now Nothing (Fails c.in-Err-Fault.refusal)
          (inl (c.in-Err-Fault.refusal, told.0, refl, refl, told.1)) refl fits;
      says = c.put_refusal-in-Err-Fault.ensures ∙ ap (λ (r : Refused). replied c.args.replies.now 0 (Fails r)) c.in-Err-Fault.refusal-is;
    }
