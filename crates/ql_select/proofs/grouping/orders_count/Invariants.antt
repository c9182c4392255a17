use Rattle.std.proofs.Common.{◌≡◌, drop}
use Rattle.std.specs.List.{list_any}
use Rattle.ql_select.specs.Groups.{is_count}
use Rattle.ql_select.proofs.grouping.orders_count.Given as goal

abbrev pub invariant-order : goal.invariant-order
invariant-order l = list_any (λ key. is_count key.0) l.order ≡ list_any (λ key. is_count key.0) (drop l.key-index l.order)
