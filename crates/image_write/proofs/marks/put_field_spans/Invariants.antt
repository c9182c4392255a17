use Rattle.std.proofs.Common.{◌≡◌, ◌++◌, take}
use Rattle.std.specs.List.{flat_map}
use Rattle.image_write.specs.steps.Marking.{marks_in}
use Rattle.image_write.proofs.marks.put_field_spans.Given as goal

abbrev pub invariant-loop-span : goal.invariant-loop-span
invariant-loop-span l = l.out.items ≡ l.fn.out.items ++ flat_map (marks_in l.field) (take l.span-index l.spans)
