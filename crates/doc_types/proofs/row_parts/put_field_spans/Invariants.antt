use Rattle.std.proofs.Common.{◌≡◌, ◌++◌, map, take}
use Rattle.doc_types.proofs.row_parts.put_field_spans.Given as goal

abbrev pub invariant-loop-span : goal.invariant-loop-span
invariant-loop-span l = l.into.items ≡ l.initial.into.items ++ map (λ x. (l.number, x)) (take l.span-index l.span-items)
