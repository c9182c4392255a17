use Rattle.std.proofs.Common.{List, ◌++◌, ◌∙◌, take_all, ap, arith}
use Rattle.occ_lists.specs.declared.occ.Occ.{Occ}
use Rattle.occ_lists.specs.Joined.{hull, pairs}
use Rattle.occ_lists.specs.steps.Beside.{goes_soon}
use Rattle.occ_lists.proofs.NearPairs.{passed_twice}
use Rattle.occ_lists.proofs.joins.put_near.Goals as goal

pub returns : goal.returns
returns c =
    let xs = c.args.xs.now in
    let ys = c.args.ys.now in
    let first = c.args.out.now.items ++ pairs (goes_soon c.args.n) hull xs ys in
    passed_twice c.args.n xs ys c.args.out.now.items c.loop-y.out.items
    (c.loop-y.invariant ∙ ap (λ (list : List Occ). first ++ pairs (goes_soon c.args.n) hull list xs) (take_all c.loop-y.y-index ys (omega arith)))
