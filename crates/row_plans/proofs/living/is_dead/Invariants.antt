use Rattle.std.proofs.Common.{◌-◌, length}
use Rattle.row_plans.specs.Living.{HasGone}
use Rattle.row_plans.proofs.living.is_dead.Given as goal

abbrev pub invariant-gone_over : goal.invariant-gone_over
invariant-gone_over l = HasGone l.dead l.gone l.row

abbrev pub decreases-gone_over : goal.decreases-gone_over
decreases-gone_over l = length l.dead - l.gone
