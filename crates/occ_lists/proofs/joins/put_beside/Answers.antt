use Rattle.std.proofs.Common.{List, ◌++◌, ◌∙◌, map, take_all, ap, arith}
use Rattle.std.specs.Prelude.{not}
use Rattle.std.specs.List.{filter}
use Rattle.occ_lists.specs.declared.occ.Occ.{Occ}
use Rattle.occ_lists.specs.Joined.{crosses, hull}
use Rattle.occ_lists.proofs.Together.{stays_inside}
use Rattle.occ_lists.proofs.joins.put_beside.Goals as goal

pub returns : goal.returns
returns c =
    let x = c.args.x in
    let places = c.args.boundaries.now in
    let before = c.args.out.now.items in
    c.loop-y.invariant
    ∙ ap (λ (list : List Occ). before ++ map (hull x) (filter (λ y. not (crosses places (hull x y))) list)) (take_all c.loop-y.y-index c.beginning-y-items.result.now (omega arith) ∙ c.beginning-y-items.ensures)
    ∙ ap (λ (list : List Occ). before ++ list) (stays_inside places x c.args.ys.now c.last_boundary-first.result c.next_boundary-last.result c.requires.ys c.last_boundary-first.ensures c.next_boundary-last.ensures)
