-- How many rows pass, by their flags.
use Rattle.std.proofs.Common.{◌≡◌, ℕ, ◌+◌, ◌<◌, ◌≤◌, suc, Bool, true, false, cond, ◌&&◌, List, [], ◌∷◌, ◌++◌, Some, length, get_or, drop, slice_get, sym, ap, ◌∙◌, arith}
use Rattle.std.specs.Prelude.{count_by, not}
use Rattle.std.specs.List.{enumerate_from, filter}
use Rattle.std.proofs.lemmas.List.{length-drop, length-map}
use Rattle.std.proofs.lemmas.List.FromFn.{length-enumerate_from}
use Rattle.std.proofs.lemmas.List.Sums.{count_by-le-length, length-filter, sum_by-cons}
use Rattle.std.proofs.lemmas.Option.{get_or_from_slice_get}
use Rattle.doc_types.specs.declared.documents.DocRow.{DocRow}
use Rattle.query_tree.specs.declared.query.Node.{Node}
use Rattle.word_rows.proofs.Opening.{row_there}
use Rattle.op_eval.specs.steps.Searching.{node_found}
use Rattle.op_eval.specs.steps.Wanted.{is_wanted, numbers_from}
use Rattle.op_eval.proofs.RowsAhead.{row_ahead}
use Rattle.row_flags.specs.steps.Flags.{AreFlags, is_dead}

module _ (passes : ℕ × DocRow → Bool) (rows : List DocRow) where
  one_more : (b : Bool) (n : ℕ) (ns : List ℕ) → length (cond b (n ∷ []) [] ++ ns) ≡ cond b 1 0 + length ns
  one_more true n ns = omega arith
  one_more false n ns = omega arith

  pub counted : (from : ℕ) (flags : List Bool) → from + length flags ≤ length rows
      → ((i : ℕ) (row : DocRow) (d : Bool) → i < length flags → slice_get rows (from + i) ≡ Some row → get_or flags i d ≡ passes (from + i, row))
      → count_by (λ (flag : Bool). flag) flags + length (numbers_from passes (from + length flags) rows) ≡ length (numbers_from passes from rows)
  counted from [] within are = let zeroth : from + 0 ≡ from = omega arith in omega (arith, ap (λ n. length (numbers_from passes n rows)) zeroth)
  counted from (flag ∷ flags) within are =
      let there = row_there rows from (omega (arith, within)) in
      let found : DocRow = there.0 in
      let zeroth : from + 0 ≡ from = omega arith in
      let here : get_or rows from found ≡ found = get_or_from_slice_get rows from found found there.1 in
      let flagged : passes (from, get_or rows from found) ≡ flag =
      ap (λ row. passes (from, row)) here
      ∙ ap (λ n. passes (n, found)) (sym zeroth)
      ∙ sym (are 0 found flag (omega arith) (ap (slice_get rows) zeroth ∙ there.1)) in
      let step = row_ahead passes rows from found flag (omega (arith, within)) flagged in
      let rest = counted (from + 1) flags (omega (arith, within))
      (λ i row d less at.
      let next : from + suc i ≡ from + 1 + i = omega arith in
      are (suc i) row d (omega (arith, less)) (ap (slice_get rows) next ∙ at) ∙ ap (λ n. passes (n, row)) next) in
      let far : from + 1 + length flags ≡ from + length (flag ∷ flags) = omega arith in
      omega (
        arith,
        sum_by-cons (λ (b : Bool). cond b 1 0) flag flags,
        ap length step,
        one_more flag from (numbers_from passes (from + 1) rows),
        rest,
        ap (λ n. length (numbers_from passes n rows)) far,
      )

  pub few_numbers : (n : ℕ) → length (numbers_from passes n rows) ≤ length rows
  few_numbers n =
      omega (
        arith,
        length-map (filter passes (drop n (enumerate_from 0 rows))) (λ (e : ℕ × DocRow). e.0),
        length-filter passes (drop n (enumerate_from 0 rows)),
        count_by-le-length passes (drop n (enumerate_from 0 rows)),
        length-drop n (enumerate_from 0 rows),
        length-enumerate_from 0 rows,
      )

-- the flags of a tree, without those of dead rows
pub buried : (root : Node) (dead : List ℕ) (rows : List DocRow) (from : ℕ) (flags after : List Bool) → AreFlags (λ row. (node_found root row).matches) rows from flags → length after ≡ length flags
    → ((i : ℕ) (d : Bool) → i < length flags → get_or after i d ≡ (get_or flags i d && not (is_dead dead (from + i))))
    → (i : ℕ) (row : DocRow) (d : Bool) → i < length after → slice_get rows (from + i) ≡ Some row → get_or after i d ≡ is_wanted root dead (from + i, row)
buried root dead rows from flags after are long each i row d less at =
    each i d (omega (arith, less, long)) ∙ ap (λ b. b && not (is_dead dead (from + i))) (are i row d (omega (arith, less, long)) at)
