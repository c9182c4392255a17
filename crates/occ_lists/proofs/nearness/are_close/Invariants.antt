use Rattle.std.proofs.Common.{◌≡◌, false, take}
use Rattle.std.specs.List.{list_any}
use Rattle.occ_lists.specs.Close.{is_close}
use Rattle.occ_lists.proofs.nearness.are_close.Given as goal

abbrev pub invariant-loop-x : goal.invariant-loop-x
invariant-loop-x l = list_any (λ x. list_any (is_close l.n x) l.ys) (take l.x-index l.xs) ≡ false
