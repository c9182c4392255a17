use Rattle.std.proofs.Common.{rules}
use Rattle.ql_answers.proofs.statement_machine.StatementMachine.need.Goals as goal

pub returns : goal.returns
returns g c = (c.in_ok-plan.plan, search rules, search rules, search rules)
