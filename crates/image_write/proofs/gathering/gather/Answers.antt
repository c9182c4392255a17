use Rattle.std.proofs.Common.{◌≡◌, ◌++◌, List, rules, ap, subst, map, ◌∙◌}
use Rattle.std.specs.List.Sorted.{IsPermutation, IsStableBy}
use Rattle.std.proofs.lemmas.Fn.{always_returns_same}
use Rattle.image_write.specs.declared.gathering.Occurrence.{Occurrence}
use Rattle.image_write.specs.steps.Places.{docs_places}
use Rattle.image_write.proofs.Occurring.{heads_all}
use Rattle.image_write.proofs.Ordered.{goes_before, in_order, ranks}
use Rattle.image_write.proofs.gathering.gather.Goals as goal

pub returns : goal.returns
returns g c =
    let docs = map g.R.LendsDoc.lent c.args.rows.now in
    let sorted = c.sort_by.new.self.items in
    let met : c.add_rows.new.places.items ≡ docs_places 0 docs = c.in_ok-add_rows.ensures.places ∙ ap (λ (l : List Occurrence). l ++ docs_places 0 docs) c.in_ok-places.ensures.items in
    in_order docs sorted
    (subst (λ (l : List Occurrence). IsPermutation l sorted) met c.sort_by.ensures.permutation)
    (subst (λ (l : List Occurrence). IsStableBy (goes_before docs) l sorted) met (c.sort_by.ensures.stable (goes_before docs) (ranks docs) (always_returns_same _ _ _ (λ a r f k. search rules))))
    (c.in_ok-sort_by.ensures.sorted (goes_before docs) (ranks docs) (always_returns_same _ _ _ (λ a r f k. search rules)))
    c.requires (heads_all docs c.requires c.in_ok-add_rows.ensures.bytes)
