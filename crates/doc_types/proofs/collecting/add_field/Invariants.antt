use Rattle.std.proofs.Common.{◌≡◌, ◌≤◌, ◌+◌, ℕ, List, take}
use Rattle.std.specs.BTreeMap.{btree_map_len}
use Rattle.std.specs.List.{list_any}
use Rattle.doc_types.specs.Chunks.{is_word}
use Rattle.doc_types.specs.steps.Collecting.{rows_in, with_row}
use Rattle.doc_types.proofs.collecting.add_field.Given as goal

abbrev pub invariant-loop-token : goal.invariant-loop-token
invariant-loop-token l = record { grows : btree_map_len l.collected ≤ btree_map_len l.initial.collected + l.token-index; rows : (w : List ℕ) → rows_in l.collected w ≡ with_row l.row (list_any (is_word w) (take l.token-index l.token-items)) (rows_in l.initial.collected w) }
