use Rattle.std.proofs.Common.{◌≡◌, drop}
use Rattle.ql_select.specs.Options.{weight_for}
use Rattle.ql_select.proofs.options.weight_for.Given as goal

abbrev pub invariant-given : goal.invariant-given
invariant-given l = weight_for l.given l.field ≡ weight_for (drop l.one-index l.given) l.field
