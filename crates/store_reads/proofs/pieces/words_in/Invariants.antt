use Rattle.std.proofs.Common.{◌≡◌, take}
use Rattle.std.specs.List.{sum_by}
use Rattle.doc_types.specs.Documents.{word_count}
use Rattle.store_reads.proofs.pieces.words_in.Given as goal

abbrev pub invariant-loop-row : goal.invariant-loop-row
invariant-loop-row l = l.words ≡ sum_by word_count (take l.row-index l.rows)
