-- Rows that are asked of the conditions one after the other.
use Rattle.std.proofs.Common.{◌≡◌, ℕ, ◌+◌, ◌<◌, ◌≤◌, Bool, false, List, Some, slice_get, length, sym, ap, ◌∙◌, inl, inr, arith}
use Rattle.std.proofs.lemmas.Bool.{cases_lt}
use Rattle.doc_types.specs.declared.documents.DocRow.{DocRow}
use Rattle.doc_search.specs.declared.listed_rows.ListedRows.{ListedRows}
use Rattle.doc_search.specs.declared.question.Question.{Question}
use Rattle.doc_search.specs.steps.ListedRows.{GoBy, Leaves, holds_of}
use Rattle.doc_search.proofs.Leading.{leaves_later}

module _ (question : Question) (docs : List DocRow) where
  -- no row
  pub by_none : (from : ℕ) → from ≤ length docs → GoBy question docs from from
  by_none from within = record { on = omega arith; within = within; fail = λ k doc on before here. absurd (omega (arith, on, before)) }

  -- one stretch after another
  pub by_both : (at from to : ℕ) → GoBy question docs at from → GoBy question docs from to → GoBy question docs at to
  by_both at from to first rest = record {
    on = omega (arith, first.on, rest.on);
    within = rest.within;
    fail = λ k doc on before here. elim (cases_lt k from) [
      | inl earlier ↦ first.fail k doc on earlier here
      | inr after ↦ rest.fail k doc after before here
    ];
  }

  -- one row more, of which they don't hold
  pub by_one_more : (from row : ℕ) (told : Bool) → GoBy question docs from row → row < length docs → ((doc : DocRow) → slice_get docs row ≡ Some doc → told ≡ holds_of question doc) → told ≡ false → GoBy question docs from (row + 1)
  by_one_more from row told by within tells fails = record {
    on = omega (arith, by.on);
    within = omega (arith, within);
    fail = λ k doc on before here. elim (cases_lt k row) [
      | inl earlier ↦ by.fail k doc on earlier here
      | inr after ↦
          let same : k ≡ row = omega (arith, after, before) in
          sym (tells doc (ap (slice_get docs) (sym same) ∙ here)) ∙ fails
    ];
  }

  -- what is left behind the first stretch is left behind the second
  pub passed : (at from to : ℕ) (rows : ListedRows) → (GoBy question docs at from × Leaves question docs (from + 1) rows) → GoBy question docs from to → GoBy question docs at to × Leaves question docs (to + 1) rows
  passed at from to rows first rest = (by_both at from to first.0 rest, leaves_later question docs (from + 1) (to + 1) rows (omega (arith, rest.on)) first.1)
