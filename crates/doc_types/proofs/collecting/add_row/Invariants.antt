use Rattle.std.proofs.Common.{◌≡◌, ◌≤◌, ◌+◌, ℕ, List, take, length}
use Rattle.std.specs.BTreeMap.{btree_map_len}
use Rattle.std.specs.List.{list_any, sum_by}
use Rattle.doc_types.specs.Chunks.{is_word}
use Rattle.doc_types.specs.steps.Collecting.{rows_in, with_row}
use Rattle.doc_types.proofs.collecting.add_row.Given as goal

abbrev pub invariant-loop-field : goal.invariant-loop-field
invariant-loop-field l = record { grows : btree_map_len l.collected ≤ btree_map_len l.initial.collected + sum_by (λ tokens. length tokens.words) (take l.field-index l.field-items); rows : (w : List ℕ) → rows_in l.collected w ≡ with_row l.number (list_any (λ field. list_any (is_word w) field.words) (take l.field-index l.field-items)) (rows_in l.initial.collected w) }
