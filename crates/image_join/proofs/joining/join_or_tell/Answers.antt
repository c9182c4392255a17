use Rattle.std.proofs.Common.{◌≡◌, List, length, map, ap, subst, arith}
use Rattle.std.specs.List.Sorted.{IsPermutation}
use Rattle.std.proofs.lemmas.List.{length-map}
use Rattle.std.proofs.lemmas.List.Sorted.{length_permutation}
use Rattle.doc_types.specs.declared.documents.DocRow.{DocRow}
use Rattle.doc_types.specs.Documents.{AreRowsOf}
use Rattle.doc_types.specs.Snapshots.{all_living}
use Rattle.image_join.specs.steps.Numbering.{all_living_in, row_in}
use Rattle.image_join.specs.steps.Parts.{PartValue}
use Rattle.image_join.proofs.Joined.{moved_rows, rows_ascend, rows_of, there}
use Rattle.image_join.proofs.Told.{told}
use Rattle.image_join.proofs.joining.join_or_tell.Goals as goal

pub image_of-requires-clause-there : goal.image_of-requires-clause-there
image_of-requires-clause-there g c =
    let are = there c.in_ok-parts.parts.items c.in_ok-order.order.items (subst (λ ps. IsPermutation (all_living_in ps) c.in_ok-order.order.items) c.deref.ensures.value c.in_ok-order.ensures.moved) in
    rw (c.deref-2.ensures.value, c.deref-3.ensures.value) are

pub image_of-requires-clause-some : goal.image_of-requires-clause-some
image_of-requires-clause-some g c =
    let parts : List PartValue = c.in_ok-parts.parts.items in
    let order = c.in_ok-order.order.items in
    let rows = all_living c.args.layers.now in
    let listed : IsPermutation (all_living_in parts) order = subst (λ ps. IsPermutation (all_living_in ps) order) c.deref.ensures.value c.in_ok-order.ensures.moved in
    let moved = moved_rows parts order rows c.in_ok-parts.ensures.living listed in
    omega (arith, ap length c.deref-3.ensures.value, length-map order (row_in parts), length_permutation rows (map (row_in parts) order) moved, c.requires.some)

pub image_of-requires-clause-of : goal.image_of-requires-clause-of
image_of-requires-clause-of g c =
    let parts : List PartValue = c.in_ok-parts.parts.items in
    let order = c.in_ok-order.order.items in
    let rows = all_living c.args.layers.now in
    let listed : IsPermutation (all_living_in parts) order = subst (λ ps. IsPermutation (all_living_in ps) order) c.deref.ensures.value c.in_ok-order.ensures.moved in
    let moved = moved_rows parts order rows c.in_ok-parts.ensures.living listed in
    let up = rows_ascend parts order rows c.requires.apart moved (there parts order listed) c.in_ok-order.ensures.ascend in
    let are : AreRowsOf c.requires.of.schema (map (row_in parts) order) = rows_of c.requires.of.schema rows (map (row_in parts) order) c.requires.of.docs moved up in
    rw (c.deref-2.ensures.value, c.deref-3.ensures.value) (c.requires.of.schema, c.requires.of.limits, are)

pub returns : goal.returns
returns g c =
    let parts : List PartValue = c.in_ok-parts.parts.items in
    let order = c.in_ok-order.order.items in
    let rows = all_living c.args.layers.now in
    let joined : List DocRow = map (row_in parts) order in
    let listed : IsPermutation (all_living_in parts) order = subst (λ ps. IsPermutation (all_living_in ps) order) c.deref.ensures.value c.in_ok-order.ensures.moved in
    let moved = moved_rows parts order rows c.in_ok-parts.ensures.living listed in
    let up = rows_ascend parts order rows c.requires.apart moved (there parts order listed) c.in_ok-order.ensures.ascend in
    let same : map (row_in c.deref-2.result.now) c.deref-3.result.now ≡ joined = λ i. map (row_in (c.deref-2.ensures.value i)) (c.deref-3.ensures.value i) in
    told rows (map (row_in c.deref-2.result.now) c.deref-3.result.now) joined c.requires.of moved up same c.image_of.result c.image_of.ensures
