use Rattle.std.proofs.Common.{◌≡◌, ◌∙◌, ◌+◌, ℕ, ℤ, List, [], ◌∷◌, ◌++◌, Some, None, ap, arith, length, position, rules, slice_get, to_z, of_z}
use mir.Syntax.{w128}
use Rattle.std.proofs.lemmas.List.{length-append}
use Rattle.std.specs.Map.{keys_of, lookup, values_of}
use Rattle.std.specs.Ordering.{int_eq}
use Rattle.indexmap.specs.IndexMap.{insert_entry, with_value_at}
use Rattle.indexmap.proofs.CallerLemmas.{insert_entry-new, keys-with_value_at}
use Rattle.row_select.specs.Columns.{column_value}
use Rattle.row_select.specs.declared.row.Row.{Row}
use Rattle.group_facet.specs.Groups.{group_key}
use Rattle.group_facet.specs.declared.facets.Facet.{Facet}
use Rattle.group_facet.proofs.Dividing.{new_row, old_row}
use Rattle.group_facet.proofs.KeyPlaces.{found_at, none_at, set_at}
use Rattle.group_facet.proofs.facet_counts.FacetCounts.offer.Goals as goal

one_more : (own : List Row) (row : Row) (n m : ℕ) → m ≡ n + 1 → n ≡ length own → m ≡ length (own ++ row ∷ [])
one_more own row n m more is = omega (arith, more, is, length-append own (row ∷ []))

pub returns-in_ok-count-in-Some : goal.returns-in_ok-count-in-Some
returns-in_ok-count-in-Some g c = λ facet offered so.
    let row = g.R.FoundRow.as_row c.args.row.now in
    let w = c.in_ok-count-in-Some.field-0 in
    let held : ℤ = to_z w128 (of_z w128 c.value-value.result) in
    let back : held ≡ c.value-value.result = search rules in
    let es = c.args.self.now.counts.entries in
    let v = c.index_mut-count.result.now in
    let more : w ≡ v + 1 = search rules in
    let at : position (int_eq held) (keys_of es) ≡ Some c.in-Some.place = search rules in
    let there : slice_get (values_of es) c.in-Some.place ≡ Some v = c.index_mut-count.ensures.value in
    let its = old_row (group_key (Some facet.column)) (λ rows n. n ≡ length rows) offered row es (with_value_at c.args.self.now.counts c.in-Some.place w).entries held v w
    (back ∙ c.value-value.ensures ∙ ap (λ (f : Facet). column_value f.column row) so.asked) c.place_of.ensures.unique so.keys (found_at es c.in-Some.place held at v there)
    (set_at es c.in-Some.place held at v w there) (keys-with_value_at c.args.self.now.counts c.in-Some.place w)
    (λ own. one_more own row v w more) so.counts in
    record { asked = so.asked; keys = its.0; counts = its.1 }

pub returns-in_ok-insert-in-None : goal.returns-in_ok-insert-in-None
returns-in_ok-insert-in-None g c = λ facet offered so.
    let row = g.R.FoundRow.as_row c.args.row.now in
    let held : ℤ = to_z w128 (of_z w128 c.value-value.result) in
    let back : held ≡ c.value-value.result = search rules in
    let es = c.args.self.now.counts.entries in
    let missing : position (int_eq held) (keys_of es) ≡ None = search rules in
    let none : lookup (int_eq held) es ≡ None = none_at es held missing in
    let entered : c.insert.new.self.entries ≡ insert_entry int_eq es held 1 = search rules in
    let its = new_row (group_key (Some facet.column)) (λ rows n. n ≡ length rows) offered row es c.insert.new.self.entries held 1
    (back ∙ c.value-value.ensures ∙ ap (λ (f : Facet). column_value f.column row) so.asked) so.keys none (entered ∙ insert_entry-new int_eq c.args.self.now.counts held 1 none)
    (omega arith) so.counts in
    record { asked = so.asked; keys = its.0; counts = its.1 }
