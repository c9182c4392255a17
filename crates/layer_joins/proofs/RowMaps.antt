-- Rows by their ids, as a map.
use Rattle.std.proofs.Common.{◌≡◌, ℕ, List, [], ◌∷◌, cond, Option, Some, None, map, refl, sym, ap, subst, ◌∙◌}
use Rattle.std.specs.FinMap as finite
use Rattle.std.specs.List.{IsDistinct}
use Rattle.std.specs.List.Sorted.{IsPermutation}
use Rattle.std.specs.Map.{lookup, keys_of}
use Rattle.std.specs.Ordering.{nat_cmp}
use Rattle.std.proofs.lemmas.Cmp.{eq_by_cmp_equiv, nat_cmp_total}
use Rattle.std.proofs.lemmas.List.Sorted.{IsPermutation-map, IsPermutation-sym, Contains-permutation}
use Rattle.std.proofs.lemmas.Map.Lookups.{exact_unsigned}
use Rattle.std.proofs.lemmas.Map.Views.{tells_apart, Contains-from_lookup, lookup-from_Contains}
use Rattle.doc_types.specs.declared.documents.DocRow.{DocRow}
use Rattle.doc_types.specs.Rows.{rows_of}
use Rattle.layer_joins.specs.Joins.{AreApart}
use Rattle.layer_joins.proofs.Ids.{ids, same_id, to_distinct, apart_permutation}

-- a row with its id
abbrev pub entry_of : DocRow → ℕ × DocRow
entry_of row = (row.doc.id, row)

keys_are : (rows : List DocRow) → keys_of (map entry_of rows) ≡ ids rows
keys_are [] = refl
keys_are (row ∷ rows) = ap (λ keys. row.doc.id ∷ keys) (keys_are rows)

found : (id : ℕ) (entries : List (ℕ × DocRow)) → finite.find nat_cmp id entries ≡ lookup (same_id id) entries
found id [] = refl
found id (e ∷ es) = ap (cond (same_id id e.0) (Some e.1)) (found id es)

one_way : (xs ys : List DocRow) → IsPermutation xs ys → AreApart ys → (id : ℕ) (row : DocRow) → lookup (same_id id) (map entry_of xs) ≡ Some row → lookup (same_id id) (map entry_of ys) ≡ Some row
one_way xs ys moved apart id row hit =
    lookup-from_Contains (eq_by_cmp_equiv nat_cmp_total) id row (map entry_of ys)
    (subst (IsDistinct same_id) (sym (keys_are ys)) (to_distinct ys apart))
    (Contains-permutation (map entry_of xs) (map entry_of ys) (id, row) (IsPermutation-map entry_of xs ys moved)
    (Contains-from_lookup (tells_apart exact_unsigned) id row (map entry_of xs) hit))

alike : {X : Type 0} (a b : Option X) → ((x : X) → a ≡ Some x → b ≡ Some x) → ((x : X) → b ≡ Some x → a ≡ Some x) → a ≡ b
alike None None forth back = refl
alike None (Some x) forth back = back x refl
alike (Some x) b forth back = sym (forth x refl)

-- rows in another order are the same map
pub rows_of_permutation : (xs ys : List DocRow) → IsPermutation xs ys → AreApart xs → rows_of xs ≡ rows_of ys
rows_of_permutation xs ys moved apart =
    let apart_then : AreApart ys = apart_permutation xs ys moved apart in
    finite.same_map nat_cmp_total finite.nat_cmp-IsAntisymmetric (rows_of xs) (rows_of ys) (λ id.
    finite.get-from_entries nat_cmp_total (map entry_of xs) id
    ∙ found id (map entry_of xs)
    ∙ alike (lookup (same_id id) (map entry_of xs)) (lookup (same_id id) (map entry_of ys)) (one_way xs ys moved apart_then id) (one_way ys xs (IsPermutation-sym xs ys moved) apart id)
    ∙ sym (found id (map entry_of ys))
    ∙ sym (finite.get-from_entries nat_cmp_total (map entry_of ys) id))
