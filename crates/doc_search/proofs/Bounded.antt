-- Rows before the least id that a condition allows, and behind the greatest.
use Rattle.std.proofs.Common.{◌≡◌, ℕ, ℤ, pos, ◌+◌, ◌<◌, ◌≤◌, Bool, true, false, List, Some, slice_get, length, refl, sym, subst, ◌∙◌, arith}
use Rattle.std.specs.Prelude.{int_lt, AllPairs}
use Rattle.std.specs.Ordering.{int_eq}
use Rattle.std.proofs.lemmas.Int.{ints}
use Rattle.std.proofs.lemmas.Option.{slice_get_within}
use Rattle.doc_types.specs.declared.documents.DocRow.{DocRow}
use Rattle.word_rows.proofs.Opening.{row_there}
use Rattle.row_select.specs.Filters.{IsHighOf}
use Rattle.row_select.specs.declared.filter.Filter.{Filter}
use Rattle.doc_search.specs.declared.question.Question.{Question}
use Rattle.doc_search.specs.steps.Gathering.{unweighed}
use Rattle.doc_search.specs.steps.ListedRows.{IsEndOf, IsFirstFrom, holds_of}
use Rattle.doc_search.proofs.ListedIds.{ids_below, ids_to}

-- what doesn't hold where it would tell otherwise
refuted : (b holding : Bool) → holding ≡ b → (holding ≡ true → false ≡ true) → b ≡ false
refuted true holding is tells = sym (tells is)
refuted false holding is tells = refl

module _ (question : Question) (docs : List DocRow) (conditions : List Filter) (same : conditions ≡ question.filters) where
  above : (x y : ℕ) (high : ℤ) → x < y → int_eq (pos x) high ≡ true → int_lt high (pos y) ≡ true
  above x y high before at = grind (arith, ints)

  above_other : (x y : ℕ) (high : ℤ) → x ≤ y → int_lt (pos x) high ≡ false → int_eq (pos x) high ≡ false → int_lt high (pos y) ≡ true
  above_other x y high up on other = grind (arith, ints)

  fails_above : (high : ℤ) (doc : DocRow) → IsHighOf conditions high → int_lt high (pos doc.doc.id) ≡ true → holds_of question doc ≡ false
  fails_above high doc is over =
      refuted (holds_of question doc) (holds_of question doc) refl
      (λ holding. sym (subst (λ (filters : List Filter). IsHighOf filters high) same is (unweighed doc) holding) ∙ over)

  module _ (ascend : AllPairs (λ row later. row.doc.id < later.doc.id) docs) (high : ℤ) (row : ℕ) (is : IsHighOf conditions high) (first : IsFirstFrom docs 0 high row) where
    pub end_at : (told : Bool) → row < length docs → ((doc : DocRow) → slice_get docs row ≡ Some doc → told ≡ int_eq (pos doc.doc.id) high) → told ≡ true → IsEndOf question docs (row + 1)
    end_at told within tells met k doc behind here =
        let its = row_there docs row within in
        fails_above high doc is (above its.0.doc.id doc.doc.id high (ids_below docs ascend row k its.0 doc (omega (arith, behind)) its.1 here) (sym (tells its.0 its.1) ∙ met))

    pub end_before : (told : Bool) → ((doc : DocRow) → slice_get docs row ≡ Some doc → told ≡ int_eq (pos doc.doc.id) high) → told ≡ false → IsEndOf question docs row
    end_before told tells no_row k doc behind here =
        let its = row_there docs row (omega (arith, behind, slice_get_within docs k doc here)) in
        fails_above high doc is
        (above_other its.0.doc.id doc.doc.id high (ids_to docs ascend row k its.0 doc behind its.1 here) (first.rest row its.0 (omega arith) its.1) (sym (tells its.0 its.1) ∙ no_row))
