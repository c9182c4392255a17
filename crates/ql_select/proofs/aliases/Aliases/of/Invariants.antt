use Rattle.std.proofs.Common.{take}
use Rattle.ql_select.specs.steps.Aliases.{HasAliases}
use Rattle.ql_select.proofs.aliases.Aliases.of.Given as goal

abbrev pub invariant-items : goal.invariant-items
invariant-items l = HasAliases l.rows l.places (take l.place l.items)
