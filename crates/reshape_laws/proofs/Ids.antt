-- Rows of which no two have one id.
use Rattle.std.proofs.Common.{◌≡◌, ◌≢◌, ℕ, ◌+◌, ◌<◌, ◌≤◌, List, [], ◌∷◌, ◌++◌, Bool, true, false, ◌==◌, ◌||◌, map, length, get_or, refl, sym, subst, ◌∙◌, arith, AllPairs, length-append}
use Rattle.std.specs.Bool.{Decides}
use Rattle.std.specs.List.{IsDistinct}
use Rattle.std.specs.List.Sorted.{IsPermutation, IsNonDecreasingBy}
use Rattle.std.specs.Ordering.{eq_by_cmp, nat_cmp}
use Rattle.std.specs.Cmp.{unsigned_ties, unsigned_tied}
use Rattle.std.proofs.Math.ListN.{get_or-map}
use Rattle.std.proofs.lemmas.Bool.Decides.{nat_tests}
use Rattle.std.proofs.lemmas.Cmp.{eq_by_cmp_equiv, nat_cmp_total}
use Rattle.std.proofs.lemmas.List.{length-map, get_or_at, get_or_append_left, get_or-append-add}
use Rattle.std.proofs.lemmas.List.Folds.{list_any_none, list_any-append}
use Rattle.std.proofs.lemmas.List.Sorted.{IsPermutation-map}
use Rattle.std.proofs.lemmas.Map.Keys.{IsDistinct-IsPermutation}
use Rattle.std.proofs.lemmas.Map.Lookups.{exact_unsigned}
use Rattle.std.proofs.lemmas.Map.Made.{AllPairs-from_IsDistinct, IsDistinct-from_AllPairs}
use Rattle.std.proofs.lemmas.Map.Views.{tells_apart}
use Rattle.doc_types.specs.declared.documents.DocRow.{DocRow}
use Rattle.reshape_laws.specs.Rebasing.{has_id}
use Rattle.layer_joins.specs.Joins.{AreApart}

-- the ids of rows
abbrev pub ids : List DocRow → List ℕ
ids rows = map (λ row. row.doc.id) rows

-- two ids are one
abbrev pub same_id : ℕ → ℕ → Bool
same_id = eq_by_cmp nat_cmp

decides : (a b : ℕ) → Decides (same_id a b) (a ≡ b)
decides a b = (tells_apart exact_unsigned a b, λ e. subst (λ x. same_id a x ≡ true) e ((eq_by_cmp_equiv nat_cmp_total).refl a))

-- a row by its id alone, as what an index past the end gives
abbrev blank : ℕ → DocRow
blank id = record { doc = record { id = id; fields = []; values = [] }; born = 0 }

id_at : (rows : List DocRow) (k d : ℕ) → get_or (ids rows) k d ≡ (get_or rows k (blank d)).doc.id
id_at rows k d = get_or-map (λ (row : DocRow). row.doc.id) rows k (blank d)

id_of : (rows : List DocRow) (k : ℕ) (d : DocRow) → get_or (ids rows) k d.doc.id ≡ (get_or rows k d).doc.id
id_of rows k d = get_or-map (λ (row : DocRow). row.doc.id) rows k d

pub to_distinct : (rows : List DocRow) → AreApart rows → IsDistinct same_id (ids rows)
to_distinct rows apart =
    IsDistinct-from_AllPairs decides (ids rows) (λ i j d l h.
    let low : j < length rows = omega (arith, length-map rows (λ (row : DocRow). row.doc.id), h) in
    rw (id_at rows i d, id_at rows j d) (apart i j (blank d) l low))

pub from_distinct : (rows : List DocRow) → IsDistinct same_id (ids rows) → AreApart rows
from_distinct rows distinct i j d l h =
    let low : j < length (ids rows) = omega (arith, length-map rows (λ (row : DocRow). row.doc.id), h) in
    rw (← id_of rows i d, ← id_of rows j d) (AllPairs-from_IsDistinct decides (ids rows) distinct i j d.doc.id l low)

-- in another order they stay apart
pub apart_permutation : (xs ys : List DocRow) → IsPermutation xs ys → AreApart xs → AreApart ys
apart_permutation xs ys moved apart =
    from_distinct ys (IsDistinct-IsPermutation same_id (eq_by_cmp_equiv nat_cmp_total).symm (ids xs) (ids ys) (IsPermutation-map (λ (row : DocRow). row.doc.id) xs ys moved) (to_distinct xs apart))

differ : (a b : ℕ) → a ≢ b → (a == b) ≡ false
differ a b h = grind (arith, nat_tests)

-- the id of a row that is apart from those before it isn't theirs
pub apart_here : (old : List DocRow) (row : DocRow) (rows : List DocRow) → AreApart (old ++ row ∷ rows) → has_id old row.doc.id ≡ false
apart_here old row rows apart =
    list_any_none (λ other. other.doc.id == row.doc.id) old (λ k d h.
    let long : length old < length (old ++ row ∷ rows) = omega (arith, length-append old (row ∷ rows)) in
    let here : get_or (old ++ row ∷ rows) k d ≡ get_or old k d = get_or_append_left old (row ∷ rows) d k h in
    let there : get_or (old ++ row ∷ rows) (length old) d ≡ row = get_or_at old row rows d (length old) refl in
    let ne : (get_or old k d).doc.id ≢ row.doc.id = rw (here, there) at (apart k (length old) d h long) in
    differ (get_or old k d).doc.id row.doc.id ne)

-- the rows before a place stay apart
pub apart_front : (xs ys : List DocRow) → AreApart (xs ++ ys) → AreApart xs
apart_front xs ys apart i j d l h =
    let low : i < length xs = omega (arith, l, h) in
    let long : j < length (xs ++ ys) = omega (arith, length-append xs ys, h) in
    rw (← get_or_append_left xs ys d i low, ← get_or_append_left xs ys d j h) (apart i j d l long)

-- and those from a place on
pub apart_back : (xs ys : List DocRow) → AreApart (xs ++ ys) → AreApart ys
apart_back xs ys apart i j d l h =
    let long : length xs + j < length (xs ++ ys) = omega (arith, length-append xs ys, h) in
    let up : length xs + i < length xs + j = omega (arith, l) in
    rw (← get_or-append-add xs ys i d, ← get_or-append-add xs ys j d) (apart (length xs + i) (length xs + j) d up long)

-- rows that don't fall by their ids ascend
pub ascending : (rows : List DocRow) → IsNonDecreasingBy (λ row. row.doc.id) rows → AreApart rows → AllPairs (λ row later. row.doc.id < later.doc.id) rows
ascending rows up apart i j d l h =
    let below : i ≤ j = omega (arith, l) in
    let le : (get_or rows i d).doc.id ≤ (get_or rows j d).doc.id = up i j d below h in
    let ne : (get_or rows i d).doc.id ≢ (get_or rows j d).doc.id = apart i j d l h in
    omega arith

pub flipped : (a b : ℕ) → (a == b) ≡ (b == a)
flipped a b = unsigned_ties a b ∙ (eq_by_cmp_equiv nat_cmp_total).symm a b ∙ unsigned_tied b a

one_later : (a b c : Bool) → a ≡ b → (a || c) ≡ (c || (b || false))
one_later true b c e = rw (← e) (elim c as (λ c. true ≡ (c || true)) [ true ↦ refl | false ↦ refl ])
one_later false b c e = rw (← e) (elim c as (λ c. c ≡ (c || false)) [ true ↦ refl | false ↦ refl ])

-- the ids of one row more
pub has_id_push : (rows : List DocRow) (row : DocRow) (id : ℕ) → ((id == row.doc.id) || has_id rows id) ≡ has_id (rows ++ row ∷ []) id
has_id_push rows row id =
    one_later (id == row.doc.id) (row.doc.id == id) (has_id rows id) (flipped id row.doc.id)
    ∙ sym (list_any-append (λ (other : DocRow). other.doc.id == id) rows (row ∷ []))
