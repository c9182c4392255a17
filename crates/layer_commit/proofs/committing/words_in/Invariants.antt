use Rattle.layer_commit.specs.Commits.{row_at}
use Rattle.std.proofs.Common.{◌≡◌, take}
use Rattle.std.specs.List.{sum_by}
use Rattle.doc_types.specs.Documents.{word_count}
use Rattle.layer_commit.proofs.committing.words_in.Given as goal

abbrev pub invariant-loop-doc : goal.invariant-loop-doc
invariant-loop-doc l = l.words ≡ sum_by (λ doc. word_count (row_at 0 doc.now)) (take l.doc-index l.docs)
