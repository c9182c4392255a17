-- Halving rows by their ids.
use Rattle.std.proofs.Common.{◌≡◌, ℕ, ◌+◌, ◌<◌, ◌≤◌, ◌==◌, List, length, slice_get, Some, None, get_or, ap, ◌∙◌, arith, AllPairs}
use Rattle.std.specs.Prelude.{IsTrue, nat_lt}
use Rattle.std.specs.List.{position}
use Rattle.std.specs.Option.{option_map}
use Rattle.std.specs.Ordering.{nat_cmp}
use Rattle.std.specs.declared.cmp.Ordering.TheVariants.{Less}
use Rattle.std.proofs.lemmas.Bool.Decides.{nat_tests}
use Rattle.std.proofs.lemmas.Cmp.{nat_cmp_total}
use Rattle.doc_types.specs.declared.documents.DocRow.{DocRow}
use Rattle.image_parts.specs.Images.{HaveImage}
use Rattle.image_parts.proofs.Halving.{Halved, halved_all, halved_down, halved_found, halved_none, halved_up, is_equal, is_greater, is_less, same_number}
use Rattle.image_parts.proofs.RowPlaces.{id_there, ids_ascend}

abbrev key : DocRow → ℕ
key row = row.doc.id

module _ (rows : List DocRow) (words : List (List ℕ)) (bytes : List ℕ) (have : HaveImage rows words bytes) (id low high : ℕ) (h : Halved nat_cmp (λ (row : DocRow). row.doc.id) id rows low high) where
  ascend : AllPairs (λ (row later : DocRow). nat_cmp row.doc.id later.doc.id ≡ Less) rows
  ascend i j d l in_rows = is_less _ _ (ids_ascend rows words bytes have i j d l in_rows)

  pub nowhere : high ≤ low → low ≤ high → None ≡ position (λ (row : DocRow). row.doc.id == id) rows
  nowhere left order = halved_none nat_cmp_total key id rows ascend low high low h (λ row. row.doc.id == id) (λ row. same_number row.doc.id id) left (omega (arith, order, h.within))

  module _ (m number : ℕ) (before : m < high) (read : option_map (λ (found : DocRow). found.doc.id) (slice_get rows m) ≡ Some number) where
    there : (d : DocRow) → (get_or rows m d).doc.id ≡ number
    there d = id_there rows m number read (omega (arith, before, h.within)) d

    pub smaller : number < id → Halved nat_cmp (λ (row : DocRow). row.doc.id) id rows (m + 1) high
    smaller less = halved_up nat_cmp_total key id rows ascend low high m h before (λ d. ap (λ n. nat_cmp n id) (there d) ∙ is_less number id less)

    pub greater : id ≤ number → (number ≡ id → ⊥) → Halved nat_cmp (λ (row : DocRow). row.doc.id) id rows low m
    greater more other = halved_down nat_cmp_total key id rows ascend low high m h before (λ d. ap (λ n. nat_cmp n id) (there d) ∙ is_greater number id (omega (arith, more, other)))

    pub here : number ≡ id → Some m ≡ position (λ (row : DocRow). row.doc.id == id) rows
    here same = halved_found nat_cmp_total key id rows ascend low high m h (λ row. row.doc.id == id) (λ row. same_number row.doc.id id) before (λ d. ap (λ n. nat_cmp n id) (there d) ∙ is_equal number id same)

is_low : (number id : ℕ) → IsTrue (nat_lt number id) → number < id
is_low number id less = grind (arith, nat_tests)

-- an id behind the last row's
pub past : (rows : List DocRow) (words : List (List ℕ)) (bytes : List ℕ) (id last number : ℕ) → HaveImage rows words bytes → last + 1 ≡ length rows → option_map (λ (found : DocRow). found.doc.id) (slice_get rows last) ≡ Some number → IsTrue (nat_lt number id) → None ≡ position (λ (row : DocRow). row.doc.id == id) rows
past rows words bytes id last number have all read less =
    let whole : Halved nat_cmp (λ (row : DocRow). row.doc.id) id rows 0 (last + 1) = halved_all nat_cmp (λ (row : DocRow). row.doc.id) id rows (last + 1) all in
    nowhere rows words bytes have id (last + 1) (last + 1) (smaller rows words bytes have id 0 (last + 1) whole last number (omega arith) read (is_low number id less)) (omega arith) (omega arith)
