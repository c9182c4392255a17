use Rattle.std.proofs.Common.{◌≡◌, ◌++◌, ◌-◌, map, take}
use Rattle.std.specs.List.{filter}
use Rattle.doc_types.specs.Chunks.{is_boundary}
use Rattle.doc_types.proofs.row_parts.put_field_gaps.Given as goal

abbrev pub invariant-loop-token : goal.invariant-loop-token
invariant-loop-token l = l.into.items ≡ l.initial.into.items ++ map (λ x. (l.number, x)) (map (λ token. (token.position - 1, token.gap)) (filter (λ token. is_boundary token.gap) (take l.token-index l.token-items)))
