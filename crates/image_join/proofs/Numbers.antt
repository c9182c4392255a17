-- The table of new numbers, one row more at a time.
use Rattle.std.proofs.Common.{◌≡◌, ◌≢◌, ℕ, ◌+◌, ◌<◌, List, Some, slice_index, length, map, get_or, set, replicate, refl, sym, ap, subst, ◌∙◌, arith, All, ◌⊎◌, inl, inr, ⊎_elim, true, false, ◌==◌}
use Rattle.std.proofs.Math.ListN.{get_or-map}
use Rattle.std.proofs.lemmas.Bool.Decides.{nat_tests}
use Rattle.std.proofs.lemmas.List.{get_or-set_other, get_or-set_same, get_or-replicate, get_or_default, length-map, length-replicate, length-set}
use Rattle.std.proofs.lemmas.Option.{slice_get-get_or}
use Rattle.doc_types.specs.declared.cursor.TheConstants.{NO_ROW}
use Rattle.image_join.specs.declared.ordering.Living.{Living}
use Rattle.image_join.specs.steps.Numbering.{AreNumbered, IsNumbered, IsThere, number_in, place_in, row_in}
use Rattle.image_join.specs.steps.Parts.{AreLaid, PartValue, all_rows, blank_part, blank_row, part_at, row_at}
use Rattle.image_join.proofs.Laid.{laid_at, laid_within}

abbrev pub blank : Living
blank = record { id = 0; part = 0; row = 0 }

-- the first rows in the order have their numbers, and no other row has one
pub record AreSet (parts : List PartValue) (order : List Living) (count : ℕ) (numbers : List ℕ) : Type 0 where
  pub long : length numbers ≡ length (all_rows parts)
  pub to : (n : ℕ) → n < count → slice_index numbers (place_in parts (get_or order n blank)) ≡ n
  pub from : (p : ℕ) → p < length numbers → slice_index numbers p ≢ NO_ROW → (slice_index numbers p < count) × (place_in parts (get_or order (slice_index numbers p) blank) ≡ p)

same_or_not : (a b : ℕ) → (a ≡ b) ⊎ (a ≢ b)
same_or_not a b =
    elim (a == b) as (λ t. (a == b) ≡ t → (a ≡ b) ⊎ (a ≢ b)) [
      | true ↦ λ e. inl (grind (arith, nat_tests))
      | false ↦ λ e. inr (λ same. grind (arith, nat_tests))
    ] refl

pub set_none : (parts : List PartValue) (order : List Living) (count : ℕ) (numbers : List ℕ) → count ≡ length (all_rows parts) → numbers ≡ replicate count NO_ROW → AreSet parts order 0 numbers
set_none parts order count numbers size all = record {
  long = ap length all ∙ length-replicate count NO_ROW ∙ size;
  to = λ n low. absurd (omega (arith, low));
  from = λ p low other. absurd (other (ap (λ (l : List ℕ). slice_index l p) all ∙ get_or-replicate count p NO_ROW 0 (omega (arith, low, ap length all, length-replicate count NO_ROW))));
}

pub set_more : (parts : List PartValue) (order : List Living) (count place : ℕ) (numbers after : List ℕ) → count < length order → count < NO_ROW → place ≡ place_in parts (get_or order count blank) → place < length numbers
    → slice_index numbers place ≡ NO_ROW → after ≡ set numbers place count → AreSet parts order count numbers → AreSet parts order (count + 1) after
set_more parts order count place numbers after within few at low none put was =
    let here : slice_index after place ≡ count = ap (λ (l : List ℕ). slice_index l place) put ∙ get_or-set_same numbers place count 0 low in
    let others : (p : ℕ) → p ≢ place → slice_index after p ≡ slice_index numbers p = λ p other. ap (λ (l : List ℕ). slice_index l p) put ∙ get_or-set_other numbers place p count 0 other in
    let size : length after ≡ length numbers = ap length put ∙ length-set numbers place count in
    record {
      long = size ∙ was.long;
      to = λ n h. to_here n h here others;
      from = λ p h other. from_here p (omega (arith, h, size)) other here others;
    }
  where
    Others : Type 0
    Others = (p : ℕ) → p ≢ place → slice_index after p ≡ slice_index numbers p

    to_here : (n : ℕ) → n < count + 1 → slice_index after place ≡ count → Others → slice_index after (place_in parts (get_or order n blank)) ≡ n
    to_here n h here others =
        ⊎_elim
        (λ same. ap (λ k. slice_index after (place_in parts (get_or order k blank))) same ∙ ap (slice_index after) (sym at) ∙ here ∙ sym same)
        (λ differ.
        let n_low : n < count = omega (arith, h, differ) in
        let value = was.to n n_low in
        let apart : place_in parts (get_or order n blank) ≢ place = λ same. omega (arith, sym value ∙ ap (slice_index numbers) same ∙ none, n_low, few) in
        others (place_in parts (get_or order n blank)) apart ∙ value)
        (same_or_not n count)

    from_here : (p : ℕ) → p < length numbers → slice_index after p ≢ NO_ROW → slice_index after place ≡ count → Others → (slice_index after p < count + 1) × (place_in parts (get_or order (slice_index after p) blank) ≡ p)
    from_here p h other here others =
        ⊎_elim
        (λ same.
        let value : slice_index after p ≡ count = ap (slice_index after) same ∙ here in
        (omega (arith, value), ap (λ k. place_in parts (get_or order k blank)) value ∙ sym at ∙ sym same))
        (λ differ.
        let value : slice_index after p ≡ slice_index numbers p = others p differ in
        let its = was.from p h (λ e. other (value ∙ e)) in
        (omega (arith, value, its.0), ap (λ k. place_in parts (get_or order k blank)) value ∙ its.1))
        (same_or_not p place)

-- all rows have their numbers
pub numbered : (parts : List PartValue) (order : List Living) (numbers : List ℕ) → AreLaid 0 parts → All (IsThere parts) order → length order < NO_ROW → AreSet parts order (length order) numbers → AreNumbered parts numbers (map (row_in parts) order)
numbered parts order numbers laid there few is = record {
  few = omega (arith, few, length-map order (row_in parts));
  each = λ k d h. subst (IsNumbered numbers (map (row_in parts) order)) (get_or_default parts k blank_part d h) (of_part k h);
  to = λ n h.
      let low : n < length order = omega (arith, h, length-map order (row_in parts)) in
      let its = there n blank low in
      ((get_or order n blank).part, (get_or order n blank).row, its.part, its.row, is.to n low);
}
  where
    row_told : (n : ℕ) → n < length order → get_or (map (row_in parts) order) n blank_row ≡ get_or (all_rows parts) (place_in parts (get_or order n blank)) blank_row
    row_told n low =
        let its = there n blank low in
        get_or_default (map (row_in parts) order) n blank_row (row_in parts blank) (omega (arith, low, length-map order (row_in parts)))
        ∙ get_or-map (row_in parts) order n blank
        ∙ sym (laid_at 0 parts (get_or order n blank).part (get_or order n blank).row (place_in parts (get_or order n blank)) laid its.part its.row (omega arith)).1

    of_part : (k : ℕ) → k < length parts → IsNumbered numbers (map (row_in parts) order) (part_at parts k)
    of_part k h = record {
      within = let all = laid_within 0 parts k laid h in omega (arith, all, is.long);
      from = λ row low other.
          let part = part_at parts k in
          let n = number_in numbers part row in
          let at = laid_at 0 parts k row (part.first + row) laid h low (omega arith) in
          let its = is.from (part.first + row) (omega (arith, at.0, is.long)) other in
          let same : get_or (map (row_in parts) order) n blank_row ≡ row_at part row = row_told n its.0 ∙ ap (λ p. get_or (all_rows parts) p blank_row) its.1 ∙ at.1 in
          slice_get-get_or (map (row_in parts) order) n blank_row (omega (arith, its.0, length-map order (row_in parts))) ∙ ap Some same ∙ sym (slice_get-get_or part.rows row blank_row low);
    }
