-- Rows by their ids, as a map.
use Rattle.std.proofs.Common.{◌≡◌, ℕ, List, [], ◌∷◌, true, false, cond, ◌||◌, Option, Some, None, map, refl, sym, ap, subst, ◌∙◌, arith, zero}
use Rattle.std.specs.FinMap as finite
use Rattle.std.specs.List.{IsDistinct, Contains}
use Rattle.std.specs.List.Sorted.{IsPermutation}
use Rattle.std.specs.Map.{lookup, keys_of}
use Rattle.std.specs.Option.{is_some}
use Rattle.std.specs.Ordering.{nat_cmp}
use Rattle.std.specs.Cmp.{unsigned_tied}
use Rattle.std.proofs.lemmas.Cmp.{eq_by_cmp_equiv, nat_cmp_total}
use Rattle.std.proofs.lemmas.List.{length-map}
use Rattle.std.proofs.Math.ListN.{get_or-map}
use Rattle.std.proofs.lemmas.List.Elements.{Contains-append_right}
use Rattle.std.proofs.lemmas.List.Sorted.{IsPermutation-map, IsPermutation-sym, Contains-permutation}
use Rattle.std.proofs.lemmas.Map.Lookups.{exact_unsigned}
use Rattle.std.proofs.lemmas.Map.Views.{tells_apart, Contains-from_lookup, lookup-from_Contains}
use Rattle.doc_types.specs.declared.documents.DocRow.{DocRow}
use Rattle.doc_types.specs.Rows.{rows_of}
use Rattle.reshape_laws.specs.Rebasing.{has_id}
use Rattle.layer_joins.specs.Joins.{AreApart}
use Rattle.reshape_laws.proofs.Ids.{ids, same_id, to_distinct, apart_permutation, flipped}

-- a row with its id
abbrev pub entry_of : DocRow → ℕ × DocRow
entry_of row = (row.doc.id, row)

keys_are : (rows : List DocRow) → keys_of (map entry_of rows) ≡ ids rows
keys_are [] = refl
keys_are (row ∷ rows) = ap (λ keys. row.doc.id ∷ keys) (keys_are rows)

found : (id : ℕ) (entries : List (ℕ × DocRow)) → finite.find nat_cmp id entries ≡ lookup (same_id id) entries
found id [] = refl
found id (e ∷ es) = ap (cond (same_id id e.0) (Some e.1)) (found id es)

mapped : (rows : List DocRow) (row : DocRow) → Contains rows row → Contains (map entry_of rows) (entry_of row)
mapped rows row has = (
  has.0,
  (let l = length-map rows entry_of in let h = has.1 in omega (arith, l, h)),
  get_or-map entry_of rows has.0 row ∙ ap entry_of has.2,
)

in_list : (rows : List DocRow) (id : ℕ) (row : DocRow) → lookup (same_id id) (map entry_of rows) ≡ Some row → Contains rows row
in_list [] id row e = cc
in_list (r ∷ rows) id row e =
    elim (same_id id r.doc.id) as (λ b. cond b (Some r) (lookup (same_id id) (map entry_of rows)) ≡ Some row → Contains (r ∷ rows) row) [
      | true ↦ λ (e : Some r ≡ Some row). (let is : r ≡ row = cc e in (zero, omega arith, is))
      | false ↦ λ e. Contains-append_right (r ∷ []) rows row (in_list rows id row e)
    ] e

one_way : (xs ys : List DocRow) → IsPermutation xs ys → AreApart ys → (id : ℕ) (row : DocRow) → lookup (same_id id) (map entry_of xs) ≡ Some row → lookup (same_id id) (map entry_of ys) ≡ Some row
one_way xs ys moved apart id row hit =
    lookup-from_Contains (eq_by_cmp_equiv nat_cmp_total) id row (map entry_of ys)
    (subst (IsDistinct same_id) (sym (keys_are ys)) (to_distinct ys apart))
    (Contains-permutation (map entry_of xs) (map entry_of ys) (id, row) (IsPermutation-map entry_of xs ys moved)
    (Contains-from_lookup (tells_apart exact_unsigned) id row (map entry_of xs) hit))

alike : {X : Type 0} (a b : Option X) → ((x : X) → a ≡ Some x → b ≡ Some x) → ((x : X) → b ≡ Some x → a ≡ Some x) → a ≡ b
alike None None forth back = refl
alike None (Some x) forth back = back x refl
alike (Some x) b forth back = sym (forth x refl)

-- rows in another order are the same map
-- a row of the list is what the map has at its id
pub get_of : (rows : List DocRow) → AreApart rows → (row : DocRow) → Contains rows row → finite.get (rows_of rows) row.doc.id ≡ Some row
get_of rows apart row has =
    finite.get-from_entries nat_cmp_total (map entry_of rows) row.doc.id
    ∙ found row.doc.id (map entry_of rows)
    ∙ lookup-from_Contains (eq_by_cmp_equiv nat_cmp_total) row.doc.id row (map entry_of rows)
    (subst (IsDistinct same_id) (sym (keys_are rows)) (to_distinct rows apart))
    (mapped rows row has)

its_id : (rows : List DocRow) (id : ℕ) (row : DocRow) → lookup (same_id id) (map entry_of rows) ≡ Some row → row.doc.id ≡ id
its_id [] id row e = cc
its_id (r ∷ rows) id row e =
    elim (same_id id r.doc.id) as (λ b. same_id id r.doc.id ≡ b → cond b (Some r) (lookup (same_id id) (map entry_of rows)) ≡ Some row → row.doc.id ≡ id) [
      | true ↦ λ h (e : Some r ≡ Some row). (let is : r ≡ row = cc e in ap (λ (r : DocRow). r.doc.id) (sym is) ∙ sym (tells_apart exact_unsigned id r.doc.id h))
      | false ↦ λ h e. its_id rows id row e
    ] refl e

pub got_id : (rows : List DocRow) (id : ℕ) (row : DocRow) → finite.get (rows_of rows) id ≡ Some row → row.doc.id ≡ id
got_id rows id row e = its_id rows id row (sym (found id (map entry_of rows)) ∙ (sym (finite.get-from_entries nat_cmp_total (map entry_of rows) id) ∙ e))

-- and what the map has is a row of the list
pub has_got : (rows : List DocRow) (id : ℕ) (row : DocRow) → finite.get (rows_of rows) id ≡ Some row → Contains rows row
has_got rows id row e = in_list rows id row (sym (found id (map entry_of rows)) ∙ (sym (finite.get-from_entries nat_cmp_total (map entry_of rows) id) ∙ e))

pub rows_of_permutation : (xs ys : List DocRow) → IsPermutation xs ys → AreApart xs → rows_of xs ≡ rows_of ys
rows_of_permutation xs ys moved apart =
    let apart_then : AreApart ys = apart_permutation xs ys moved apart in
    finite.same_map nat_cmp_total finite.nat_cmp-IsAntisymmetric (rows_of xs) (rows_of ys) (λ id.
    finite.get-from_entries nat_cmp_total (map entry_of xs) id
    ∙ found id (map entry_of xs)
    ∙ alike (lookup (same_id id) (map entry_of xs)) (lookup (same_id id) (map entry_of ys)) (one_way xs ys moved apart_then id) (one_way ys xs (IsPermutation-sym xs ys moved) apart id)
    ∙ sym (found id (map entry_of ys))
    ∙ sym (finite.get-from_entries nat_cmp_total (map entry_of ys) id))

some_found : (rows : List DocRow) (id : ℕ) → is_some (finite.find nat_cmp id (map entry_of rows)) ≡ has_id rows id
some_found [] id = refl
some_found (row ∷ rows) id =
    elim (same_id id row.doc.id) as (λ b. is_some (cond b (Some row) (finite.find nat_cmp id (map entry_of rows))) ≡ (b || has_id rows id)) [ true ↦ refl | false ↦ some_found rows id ]
    ∙ ap (λ b. b || has_id rows id) (unsigned_tied id row.doc.id ∙ flipped id row.doc.id)

-- the ids that are there are those of the rows
pub there : (rows : List DocRow) (id : ℕ) → finite.contains_key (rows_of rows) id ≡ has_id rows id
there rows id = ap is_some (finite.get-from_entries nat_cmp_total (map entry_of rows) id) ∙ some_found rows id

none_from : {X : Type 0} (o : Option X) → is_some o ≡ false → o ≡ None
none_from None e = refl
none_from (Some x) e = cc
