use Rattle.std.proofs.Common.{◌≡◌, refl, rules, ap}
use Rattle.self_test.proofs.Own.{own_servable}
use Rattle.self_test.proofs.index.own_index.Goals as goal

pub returns-clause-servable : goal.returns-clause-servable
returns-clause-servable c = own_servable _ c.in_ok-columns.ensures (search rules)
