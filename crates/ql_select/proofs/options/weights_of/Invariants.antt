use Rattle.std.proofs.Common.{◌≡◌, take, map}
use Rattle.ql_select.specs.Options.{weight_for}
use Rattle.ql_select.proofs.options.weights_of.Given as goal

abbrev pub invariant-fields : goal.invariant-fields
invariant-fields l = l.list.items ≡ map (weight_for l.given) (take l.field-index l.schema.fields)
