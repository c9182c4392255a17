use Rattle.layer_commit.specs.Commits.{row_at}
use Rattle.std.proofs.Common.{◌≡◌, map, take}
use Rattle.layer_commit.proofs.making.rows_of.Given as goal

abbrev pub invariant-loop-doc : goal.invariant-loop-doc
invariant-loop-doc l = l.rows.items ≡ map (λ doc. row_at l.number doc.now) (take l.doc-index l.docs)
