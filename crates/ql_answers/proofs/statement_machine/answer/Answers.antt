use Rattle.std.proofs.Common.{subst, sym}
use Rattle.ql_answers.specs.declared.plan.Plan.{Plan}
use Rattle.ql_answers.specs.Sessions.{CanHave, happened_by}
use Rattle.ql_answers.proofs.Turned.{answered, can_left}
use Rattle.ql_answers.proofs.statement_machine.answer.Goals as goal

pub say-requires-clause-can : goal.say-requires-clause-can
say-requires-clause-can g c =
    let happened = happened_by c.args.event.now in
    let Can : Plan → Type 0 = λ p. CanHave p happened in
    subst Can (sym c.in_ok-turn.ensures.1) (can_left c.args.plan.now happened c.requires.can)

pub returns : goal.returns
returns g c =
    answered c.args.plan.now c.turn.new.plan (happened_by c.args.event.now) c.args.more c.status.result c.in_ok-told.told c.args.state.now c.turn.new.state c.tell.new.self c.args.replies.now c.say.new.replies
    c.in_ok-turn.ensures.0 c.in_ok-turn.ensures.1 c.status.ensures c.in_ok-told.ensures.says c.tell.ensures
