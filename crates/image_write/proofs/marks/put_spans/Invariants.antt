use Rattle.std.proofs.Common.{◌≡◌, ◌++◌, take}
use Rattle.std.specs.List.{flat_map}
use Rattle.doc_types.proofs.FieldParts.{parts}
use Rattle.image_write.specs.steps.Marking.{span_marks}
use Rattle.image_write.proofs.marks.put_spans.Given as goal

abbrev pub invariant-loop-number : goal.invariant-loop-number
invariant-loop-number l = l.out.items ≡ l.initial.out.items ++ flat_map span_marks (parts 0 (λ field. field.spans) (take l.number l.doc.fields))
