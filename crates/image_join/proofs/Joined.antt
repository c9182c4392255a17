-- The rows of all parts that live, and their order.
use Rattle.std.proofs.Common.{◌≡◌, ℕ, zero, suc, ◌+◌, ◌<◌, List, [], ◌∷◌, ◌++◌, not, ◌==◌, length, map, get_or, refl, sym, ap, subst, ◌∙◌, arith, All, AllPairs}
use Rattle.std.specs.List.{filter, flat_map, list_any, enumerate_from}
use Rattle.std.specs.List.Sorted.{IsNonDecreasingBy, IsPermutation}
use Rattle.std.proofs.Math.ListN.{get_or-map}
use Rattle.std.proofs.lemmas.List.{length-map, map-append}
use Rattle.std.proofs.lemmas.List.Elements.{All-append, All-cons, All-filter, All-head, All-nil, All-tail}
use Rattle.std.proofs.lemmas.List.Sorted.{All-permutation, IsNonDecreasingBy-from_default, IsPermutation-map}
use Rattle.doc_types.specs.declared.documents.DocRow.{DocRow}
use Rattle.doc_types.specs.declared.schema.Schema.{Schema}
use Rattle.doc_types.specs.Documents.{AreRowsOf, IsDocOf}
use Rattle.layer_joins.specs.Joins.{AreApart}
use Rattle.layer_joins.proofs.Ids.{apart_permutation, ascending}
use Rattle.image_join.specs.declared.ordering.Living.{Living}
use Rattle.image_join.specs.steps.Numbering.{IsThere, all_living_in, living_in, row_in}
use Rattle.image_join.specs.steps.Parts.{PartValue, blank_row, living_of, part_at, row_at}
use Rattle.image_join.proofs.Livings.{living_as}
use Rattle.image_join.proofs.Numbers.{blank}

-- a row stands at its number
record IsRowAt (rows : List DocRow) (e : ℕ × DocRow) : Type 0 where
  low : e.0 < length rows
  is : get_or rows e.0 blank_row ≡ e.1

rows_at : (n : ℕ) (rows all : List DocRow) → n + length rows ≡ length all → ((k : ℕ) → k < length rows → get_or all (n + k) blank_row ≡ get_or rows k blank_row) → All (IsRowAt all) (enumerate_from n rows)
rows_at n [] all long same = All-nil (IsRowAt all)
rows_at n (r ∷ rs) all long same =
    All-cons (IsRowAt all) (n, r) (enumerate_from (n + 1) rs)
    (record { low = omega (arith, long); is = ap (λ k. get_or all k blank_row) (omega arith) ∙ same zero (omega arith) })
    (rows_at (n + 1) rs all (omega (arith, long)) (λ k low. ap (λ m. get_or all m blank_row) (omega arith) ∙ same (suc k) (omega (arith, low))))

listed : (part : PartValue) → All (IsRowAt part.rows) (filter (λ e. not (list_any (λ d. d == e.0) part.dead)) (enumerate_from 0 part.rows))
listed part = All-filter (λ (e : ℕ × DocRow). not (list_any (λ d. d == e.0) part.dead)) (IsRowAt part.rows) (enumerate_from 0 part.rows) (rows_at 0 part.rows part.rows (omega arith) (λ k low. ap (λ m. get_or part.rows m blank_row) (omega arith)))

all_mapped : {A B : Type 0} (P : B → Type 0) (Q : A → Type 0) (f : A → B) (xs : List A) → ((x : A) → Q x → P (f x)) → All Q xs → All P (map f xs)
all_mapped P Q f [] each all = All-nil P
all_mapped P Q f (x ∷ xs) each all = All-cons P (f x) (map f xs) (each x (All-head Q x xs all)) (all_mapped P Q f xs each (All-tail Q x xs all))

-- the rows of one part
there_in : (parts : List PartValue) (n : ℕ) (part : PartValue) → n < length parts → part_at parts n ≡ part → All (IsThere parts) (living_in n part)
there_in parts n part low is =
    all_mapped (IsThere parts) (IsRowAt part.rows) (living_as n) (filter (λ e. not (list_any (λ d. d == e.0) part.dead)) (enumerate_from 0 part.rows))
    (λ e at. record {
      part = low;
      row = rw is at.low;
      id = ap (λ (row : DocRow). row.doc.id) (sym (ap (λ p. row_at p e.0) is ∙ at.is));
    }) (listed part)

told_in : (parts : List PartValue) (n : ℕ) (part : PartValue) (es : List (ℕ × DocRow)) → part_at parts n ≡ part → All (IsRowAt part.rows) es → map (row_in parts) (map (living_as n) es) ≡ map (λ e. e.1) es
told_in parts n part [] is all = refl
told_in parts n part (e ∷ es) is all =
    let here : row_in parts (living_as n e) ≡ e.1 = ap (λ p. row_at p e.0) is ∙ (All-head (IsRowAt part.rows) e es all).is in
    let rest : map (row_in parts) (map (living_as n) es) ≡ map (λ (e : ℕ × DocRow). e.1) es = told_in parts n part es is (All-tail (IsRowAt part.rows) e es all) in
    cc

abbrev Same : List PartValue → ℕ → List PartValue → Type 0
Same parts n rest = (k : ℕ) → k < length rest → part_at parts (n + k) ≡ part_at rest k

same_tail : (parts : List PartValue) (n : ℕ) (part : PartValue) (rest : List PartValue) → Same parts n (part ∷ rest) → Same parts (n + 1) rest
same_tail parts n part rest same k low = ap (part_at parts) (omega arith) ∙ same (suc k) (omega (arith, low))

same_head : (parts : List PartValue) (n : ℕ) (part : PartValue) (rest : List PartValue) → Same parts n (part ∷ rest) → part_at parts n ≡ part
same_head parts n part rest same = ap (part_at parts) (omega arith) ∙ same zero (omega arith)

abbrev listing : ℕ → List PartValue → List Living
listing n rest = flat_map (λ (e : ℕ × PartValue). living_in e.0 e.1) (enumerate_from n rest)

all_there : (parts : List PartValue) (n : ℕ) (rest : List PartValue) → n + length rest ≡ length parts → Same parts n rest → All (IsThere parts) (listing n rest)
all_there parts n [] long same = All-nil (IsThere parts)
all_there parts n (p ∷ ps) long same =
    All-append (IsThere parts) (living_in n p) (listing (n + 1) ps) (there_in parts n p (omega (arith, long)) (same_head parts n p ps same))
    (all_there parts (n + 1) ps (omega (arith, long)) (same_tail parts n p ps same))

all_told : (parts : List PartValue) (n : ℕ) (rest : List PartValue) → Same parts n rest → map (row_in parts) (listing n rest) ≡ flat_map living_of rest
all_told parts n [] same = refl
all_told parts n (p ∷ ps) same =
    map-append (row_in parts) (living_in n p) (listing (n + 1) ps)
    ∙ ap (λ l. l ++ map (row_in parts) (listing (n + 1) ps)) (told_in parts n p (filter (λ e. not (list_any (λ d. d == e.0) p.dead)) (enumerate_from 0 p.rows)) (same_head parts n p ps same) (listed p))
    ∙ ap (λ l. living_of p ++ l) (all_told parts (n + 1) ps (same_tail parts n p ps same))

same_all : (parts : List PartValue) → Same parts 0 parts
same_all parts k low = ap (part_at parts) (omega arith)

-- the rows in an order of them
pub there : (parts : List PartValue) (order : List Living) → IsPermutation (all_living_in parts) order → All (IsThere parts) order
there parts order moved = All-permutation (IsThere parts) (all_living_in parts) order moved (all_there parts 0 parts (omega arith) (same_all parts))

pub moved_rows : (parts : List PartValue) (order : List Living) (rows : List DocRow) → flat_map living_of parts ≡ rows → IsPermutation (all_living_in parts) order → IsPermutation rows (map (row_in parts) order)
moved_rows parts order rows is moved = subst (λ l. IsPermutation l (map (row_in parts) order)) (all_told parts 0 parts (same_all parts) ∙ is) (IsPermutation-map (row_in parts) (all_living_in parts) order moved)

rises : (parts : List PartValue) (order : List Living) → All (IsThere parts) order → IsNonDecreasingBy (λ living. living.id) order → IsNonDecreasingBy (λ (row : DocRow). row.doc.id) (map (row_in parts) order)
rises parts order are up =
    IsNonDecreasingBy-from_default (λ (row : DocRow). row.doc.id) (map (row_in parts) order) (row_in parts blank) (λ i j le low.
    let size = length-map order (row_in parts) in
    let j_low : j < length order = omega (arith, low, size) in
    let i_low : i < length order = omega (arith, le, j_low) in
    let one : (get_or (map (row_in parts) order) i (row_in parts blank)).doc.id ≡ (get_or order i blank).id = ap (λ (row : DocRow). row.doc.id) (get_or-map (row_in parts) order i blank) ∙ sym (are i blank i_low).id in
    let two : (get_or (map (row_in parts) order) j (row_in parts blank)).doc.id ≡ (get_or order j blank).id = ap (λ (row : DocRow). row.doc.id) (get_or-map (row_in parts) order j blank) ∙ sym (are j blank j_low).id in
    omega (arith, one, two, up i j blank le j_low))

-- by ascending id
pub rows_ascend : (parts : List PartValue) (order : List Living) (rows : List DocRow) → AreApart rows → IsPermutation rows (map (row_in parts) order) → All (IsThere parts) order → IsNonDecreasingBy (λ living. living.id) order
    → AllPairs (λ row later. row.doc.id < later.doc.id) (map (row_in parts) order)
rows_ascend parts order rows apart moved are up = ascending (map (row_in parts) order) (rises parts order are up) (apart_permutation rows (map (row_in parts) order) moved apart)

-- of the schema
pub rows_of : (schema : Schema) (rows joined : List DocRow) → All (λ row. IsDocOf schema row.doc) rows → IsPermutation rows joined → AllPairs (λ row later. row.doc.id < later.doc.id) joined → AreRowsOf schema joined
rows_of schema rows joined docs moved up = record { ids = up; docs = All-permutation (λ (row : DocRow). IsDocOf schema row.doc) rows joined moved docs }

unmapped : (P : DocRow → Type 0) (f : Living → DocRow) (order : List Living) → All P (map f order) → All (λ living. P (f living)) order
unmapped P f [] all = All-nil (λ (living : Living). P (f living))
unmapped P f (o ∷ os) all = All-cons (λ (living : Living). P (f living)) o os (All-head P (f o) (map f os) all) (unmapped P f os (All-tail P (f o) (map f os) all))

-- as many fields and values as the schema has
pub fields_of : (schema : Schema) (parts : List PartValue) (order : List Living) → AreRowsOf schema (map (row_in parts) order) → All (λ living. length (row_in parts living).doc.fields ≡ length schema.fields) order
fields_of schema parts order are = unmapped (λ (row : DocRow). length row.doc.fields ≡ length schema.fields) (row_in parts) order (λ k d h. (are.docs k d h).fields)

pub values_of : (schema : Schema) (parts : List PartValue) (order : List Living) → AreRowsOf schema (map (row_in parts) order) → All (λ living. length (row_in parts living).doc.values ≡ length schema.attrs) order
values_of schema parts order are = unmapped (λ (row : DocRow). length row.doc.values ≡ length schema.attrs) (row_in parts) order (λ k d h. (are.docs k d h).values)
