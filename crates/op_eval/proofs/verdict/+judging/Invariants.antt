use Rattle.std.proofs.Common.{ℕ, List}
use Rattle.doc_types.specs.declared.documents.DocRow.{DocRow}
use Rattle.word_rows.specs.Terms.{AreSeenIn}
use Rattle.op_eval.specs.steps.Verdicts.{AreApart}
use Rattle.op_eval.proofs.NodeVerdicts.{ToldSo}
use Rattle.op_eval.proofs.TermParts.{items_keys}
use Rattle.op_eval.proofs.verdict.+judging.Given as goal

abbrev pub invariant-of_items-loop-item : goal.invariant-of_items-loop-item
invariant-of_items-loop-item l =
    (row : DocRow) (number : List ℕ → ℕ) → AreApart number (items_keys l.items) → AreSeenIn row (items_keys l.items) l.terms → ToldSo row number l.spanned l.items l.item-index l.rest l.all
