use Rattle.std.proofs.Common.{sym, ◌∙◌}
use Rattle.query_read.proofs.StopNames.{unclosed_called, joined_called, nesting_called, other_called}
use Rattle.query_read.proofs.faults.stop_kind.Goals as goal

pub returns-in-Unclosed : goal.returns-in-Unclosed
returns-in-Unclosed c = unclosed_called c.args.front.now c.args.stop.now c.in-Unclosed.is

pub returns-then-ends_joined : goal.returns-then-ends_joined
returns-then-ends_joined c = joined_called c.args.front.now c.args.stop.now c.requires c.in-Open.is (sym c.ends_joined.ensures ∙ c.if-ends_joined.true)

pub returns-else-ends_joined : goal.returns-else-ends_joined
returns-else-ends_joined c = nesting_called c.args.front.now c.args.stop.now c.requires c.in-Open.is (sym c.ends_joined.ensures ∙ c.if-ends_joined.false)

pub returns-in_default : goal.returns-in_default
returns-in_default c = other_called c.args.front.now c.args.stop.now c.requires c.in_default.not-Unclosed c.in_default.not-Open
