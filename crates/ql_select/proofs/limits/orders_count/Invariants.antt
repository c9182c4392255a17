use Rattle.std.proofs.Common.{◌≡◌, drop}
use Rattle.std.specs.List.{list_any}
use Rattle.ql_select.specs.Facets.{is_count}
use Rattle.ql_select.proofs.limits.orders_count.Given as goal

abbrev pub invariant-keys : goal.invariant-keys
invariant-keys l = list_any (λ key. is_count key.by) l.keys ≡ list_any (λ key. is_count key.by) (drop l.key-index l.keys)
