use Rattle.std.proofs.Common.{◌≡◌, ◌∙◌, ℤ, List, [], ◌∷◌, ◌++◌, None, Some, ap, position, rules, slice_get, subst, to_z, of_z}
use mir.Syntax.{w128}
use Rattle.std.specs.Map.{keys_of, lookup, values_of}
use Rattle.std.specs.Ordering.{int_eq}
use Rattle.indexmap.specs.IndexMap.{insert_entry, with_value_at}
use Rattle.indexmap.proofs.CallerLemmas.{insert_entry-new, keys-with_value_at}
use Rattle.row_select.specs.declared.row.Row.{Row}
use Rattle.group_facet.specs.Gathering.{IsPart}
use Rattle.group_facet.specs.Groups.{group_key}
use Rattle.group_facet.specs.declared.grouping.Group.{Group}
use Rattle.group_facet.proofs.Dividing.{new_row, old_row}
use Rattle.group_facet.proofs.KeyPlaces.{found_at, none_at, set_at}
use Rattle.group_facet.proofs.groups.Groups.offer.Goals as goal

pub returns-in_ok-add-in-Some : goal.returns-in_ok-add-in-Some
returns-in_ok-add-in-Some g c = λ group offered so.
    let row = g.R.FoundRow.as_row c.args.row.now in
    let held : ℤ = to_z w128 (of_z w128 c.key-key.result) in
    let back : held ≡ c.key-key.result = search rules in
    let es = c.args.self.now.parts.entries in
    let v = c.index_mut.result.now in
    let w = c.add.new.self in
    let at : position (int_eq held) (keys_of es) ≡ Some c.in-Some.place = search rules in
    let there : slice_get (values_of es) c.in-Some.place ≡ Some v = c.index_mut.ensures.value in
    let its = old_row (group_key group.by) (IsPart group) offered row es (with_value_at c.args.self.now.parts c.in-Some.place w).entries held v w
    (back ∙ c.key-key.ensures ∙ ap (λ (its : Group). group_key its.by row) so.asked) c.place_of.ensures.unique so.keys (found_at es c.in-Some.place held at v there)
    (set_at es c.in-Some.place held at v w there) (keys-with_value_at c.args.self.now.parts c.in-Some.place w)
    (subst (λ (its : Group). (own : List Row) → IsPart its own v → IsPart its (own ++ row ∷ []) w) so.asked c.in_ok-add-in-Some.ensures) so.parts in
    record { asked = so.asked; keys = its.0; parts = its.1 }

pub returns-in_ok-insert-in-None : goal.returns-in_ok-insert-in-None
returns-in_ok-insert-in-None g c = λ group offered so.
    let row = g.R.FoundRow.as_row c.args.row.now in
    let held : ℤ = to_z w128 (of_z w128 c.key-key.result) in
    let back : held ≡ c.key-key.result = search rules in
    let es = c.args.self.now.parts.entries in
    let v = c.in_ok-part-in-None.part in
    let missing : position (int_eq held) (keys_of es) ≡ None = search rules in
    let none : lookup (int_eq held) es ≡ None = none_at es held missing in
    let entered : c.insert.new.self.entries ≡ insert_entry int_eq es held v = search rules in
    let its = new_row (group_key group.by) (IsPart group) offered row es c.insert.new.self.entries held v
    (back ∙ c.key-key.ensures ∙ ap (λ (its : Group). group_key its.by row) so.asked) so.keys none (entered ∙ insert_entry-new int_eq c.args.self.now.parts held v none)
    (subst (λ (its : Group). IsPart its (row ∷ []) v) so.asked c.in_ok-part-in-None.ensures) so.parts in
    record { asked = so.asked; keys = its.0; parts = its.1 }
