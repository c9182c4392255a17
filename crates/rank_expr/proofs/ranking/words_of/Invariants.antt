use Rattle.std.proofs.Common.{◌≡◌, ◌≤◌, nat_eq, take, map}
use Rattle.std.specs.Set.{distinct_count}
use Rattle.doc_types.specs.declared.hits.Hit.{Hit}
use Rattle.rank_expr.proofs.ranking.words_of.Given as goal

abbrev pub invariant-loop-place : goal.invariant-loop-place
invariant-loop-place l = (l.count ≡ distinct_count nat_eq (map (λ (hit : Hit). hit.word) (take l.place l.hits))) × (l.count ≤ l.place)
