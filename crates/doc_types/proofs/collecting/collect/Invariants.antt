use Rattle.std.proofs.Common.{◌≡◌, ◌≤◌, ℕ, List, take}
use Rattle.std.specs.BTreeMap.{btree_map_len}
use Rattle.std.specs.List.{sum_by}
use Rattle.doc_types.specs.Documents.{word_count}
use Rattle.doc_types.specs.Chunks.{rows_with}
use Rattle.doc_types.specs.steps.Collecting.{rows_in, some_of}
use Rattle.doc_types.proofs.collecting.collect.Given as goal

abbrev pub invariant-loop-number : goal.invariant-loop-number
invariant-loop-number l = record { size : btree_map_len l.collected ≤ sum_by word_count (take l.number l.rows); rows : (w : List ℕ) → rows_in l.collected w ≡ some_of (rows_with w (take l.number l.rows)) }
