use Rattle.std.proofs.Common.{◌≡◌, ◌++◌, map, take}
use Rattle.std.specs.Borrow.{Bor}
use Rattle.std.specs.List.{flat_map}
use Rattle.query_tree.specs.declared.key.Key.{Key}
use Rattle.query_tree.specs.declared.query.Item.{Item}
use Rattle.query_tree.specs.TreeKeys.{node_keys}
use Rattle.query_tree.proofs.listing.+keys.Given as goal

abbrev pub invariant-put_items-loop-item : goal.invariant-put_items-loop-item
invariant-put_items-loop-item l =
    map (λ (key : Bor Key). key.now) l.keys.items ≡ map (λ (key : Bor Key). key.now) l.initial.keys.items ++ flat_map (λ (item : Item). node_keys item.node) (take l.item-index l.items)
