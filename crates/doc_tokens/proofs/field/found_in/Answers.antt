use Rattle.std.proofs.Common.{◌≡◌, false, sym, ◌∙◌, subst}
use Rattle.std.proofs.lemmas.Bool.{false≢true}
use Rattle.charset_map.specs.Spans.{folded}
use Rattle.doc_tokens.specs.steps.TokenReader.{Ordered}
use Rattle.doc_tokens.proofs.MarkOrder.{marks_ordered}
use Rattle.doc_tokens.proofs.PlainSigns.{finds_plain}
use Rattle.doc_tokens.proofs.field.found_in.Goals as goal
use Rattle.doc_tokens.proofs.field.found_in.Goals.{then-rules, else-rules}

pub read_text-requires-clause-order : goal.read_text-requires-clause-order
read_text-requires-clause-order c =
    subst (Ordered 0) (sym c.as_slice.ensures.value)
    (marks_ordered (folded c.args.charset.now) c.args.rules.now c.args.text.now c.in_ok-marks.marks.items c.utf8.text c.in_ok-marks.ensures)

pub returns-else-rules-2 : goal.returns-else-rules-2
returns-else-rules-2 c =
    let rules = c.args.rules.now in
    let neither : (rules.strip ≡ false) × (rules.sp ≡ false) =
    elim c.if-rules.branch [
      | then-rules w ↦ absurd (false≢true (sym c.if-rules-2.false ∙ w.value-is ∙ w.if-rules.true))
      | else-rules w ↦ (w.if-rules.false, sym w.value-is ∙ c.if-rules-2.false)
    ] in
    finds_plain (folded c.args.charset.now) rules c.args.text.now c.read_plain.result neither.0 neither.1 c.utf8.text c.read_plain.ensures
