use Rattle.std.proofs.Common.{◌≡◌, ◌++◌, map, take}
use Rattle.std.specs.List.{flat_map, enumerate_from}
use Rattle.doc_types.specs.Chunks.{gaps_of}
use Rattle.doc_types.proofs.row_parts.put_gaps.Given as goal

abbrev pub invariant-loop-number : goal.invariant-loop-number
invariant-loop-number l = l.into.items ≡ l.initial.into.items ++ flat_map (λ e. map (λ x. (e.0, x)) (gaps_of e.1)) (enumerate_from 0 (take l.number l.row.doc.fields))
