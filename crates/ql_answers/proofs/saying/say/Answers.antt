use Rattle.std.proofs.Common.{None, ap, refl, sym, subst, ◌∙◌}
use Rattle.ql_refusals.specs.Refusals.{Refused, no_memory}
use Rattle.ql_answers.specs.Replies.{Fails, replied}
use Rattle.ql_answers.specs.Sessions.{Happened, happened_by}
use Rattle.ql_answers.specs.steps.Answering.{Says}
use Rattle.ql_answers.proofs.SaidBy.{no_memory_decides}
use Rattle.ql_answers.proofs.saying.say.Goals as goal

pub returns-in-NoMemory-clause-says : goal.returns-in-NoMemory-clause-says
returns-in-NoMemory-clause-says g c =
    let Of : Happened → Type 0 = λ h. Says c.args.plan.now h c.args.status None c.args.replies.now c.put_refusal.new.replies in
    subst Of (sym (ap happened_by c.in-NoMemory.is)) (
      Fails no_memory,
      no_memory_decides c.args.plan.now,
      c.put_refusal.ensures ∙ ap (λ (r : Refused). replied c.args.replies.now c.args.status (Fails r)) c.no_memory.ensures,
      refl,
    )
