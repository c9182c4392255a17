use Rattle.std.proofs.Common.{◌≡◌, true, [], ◌∷◌, ◌++◌, rules, subst, sym}
use Rattle.row_select.proofs.Selected.{precedes}
use Rattle.group_facet.specs.Groups.{IsFirst}
use Rattle.group_facet.proofs.Firsts.{first_taken}
use Rattle.group_facet.proofs.part.keep_first.Goals as goal

pub returns-in_ok-first : goal.returns-in_ok-first
returns-in_ok-first g c = λ rows its.
    let before : precedes c.args.within.now (g.R.FoundRow.as_row c.args.row.now) c.args.first.now ≡ true = search rules in
    subst (IsFirst c.args.within.now.keys (rows ++ g.R.FoundRow.as_row c.args.row.now ∷ [])) (sym c.in_ok-first.ensures) (first_taken c.args.within.now rows c.args.first.now (g.R.FoundRow.as_row c.args.row.now) before its)
