use Rattle.std.proofs.Common.{Bor, List, ℕ, ◌+◌, ◌∙◌, take, sym, ap, subst, option_copied}
use Rattle.std.specs.BTreeMap.{BTreeMap}
use Rattle.ql_select.specs.steps.Aliases.{HasAliases}
use Rattle.ql_select.proofs.Aliased.{aliases_kept, aliases_more}
use Rattle.ql_select.proofs.aliases.Aliases.of.Goals as goal
use Rattle.ql_select.proofs.aliases.Aliases.of.Goals.{in-Some+in_ok-put_first, in_default}

pub items-preserved : goal.items-preserved
items-preserved c =
    let items = c.args.items.now in
    let place = c.items.place in
    let Has : BTreeMap (Bor (List ℕ)) ℕ → Type 0 = λ places. HasAliases c.args.rows places (take (place + 1) items) in
    elim c.match-alias_of.branch [
      | in-Some+in_ok-put_first w ↦ subst Has (sym w.places-is)
          (aliases_more c.args.rows c.items.places w.put_first.new.places items place c.index-items-place.result w.in-Some.alias.now c.items-test.true c.index-items-place.is
          (sym c.alias_of.ensures ∙ ap option_copied w.in-Some.is) c.items.invariant w.in_ok-put_first.ensures)
      | in_default w ↦ subst Has (sym w.places-is)
          (aliases_kept c.args.rows c.items.places items place c.index-items-place.result c.items-test.true c.index-items-place.is
          (sym c.alias_of.ensures ∙ ap option_copied w.in_default.is) c.items.invariant)
    ]
