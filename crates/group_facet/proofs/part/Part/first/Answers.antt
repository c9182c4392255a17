use Rattle.std.proofs.Common.{[], ◌∷◌, rules, subst, sym}
use Rattle.group_facet.specs.Groups.{IsFirst}
use Rattle.group_facet.proofs.Firsts.{first_alone}
use Rattle.group_facet.proofs.part.Part.first.Goals as goal

pub returns : goal.returns
returns g c = record {
  best = subst (IsFirst c.args.group.now.within.keys (g.R.FoundRow.as_row c.args.row.now ∷ [])) (sym c.in_ok-best.ensures) (first_alone c.args.group.now.within (g.R.FoundRow.as_row c.args.row.now));
  folds = search rules;
}
