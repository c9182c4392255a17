use Rattle.std.proofs.Common.{◌∙◌, ap, sym}
use Rattle.row_plans.specs.Plans.{holds}
use Rattle.row_plans.proofs.HowFar.{holds_any}
use Rattle.op_eval.proofs.parts.choices_of.Goals as goal

pub returns-in-Any : goal.returns-in-Any
returns-in-Any c = λ has. sym (ap (holds has) c.in-Any.is ∙ holds_any has c.in-Any.choices)
