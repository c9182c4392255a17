use Rattle.std.proofs.Common.{◌≡◌, ℕ, ◌+◌, ◌*◌, max, List, map, take, drop}
use Rattle.query_tree.specs.declared.query.Node.{size-Node}
use Rattle.std.specs.List.{All}
use Rattle.doc_types.specs.declared.documents.DocRow.{DocRow}
use Rattle.query_tree.specs.declared.query.Item.{Item}
use Rattle.query_tree.specs.TreeKeys.{node_keys}
use Rattle.occ_lists.specs.Sound.{IsForward}
use Rattle.occ_lists.specs.Terms.{IsPlaced}
use Rattle.op_eval.specs.Finding.{any_of}
use Rattle.word_rows.specs.RowMarks.{Knows}
use Rattle.op_eval.specs.steps.Evaluating.{Finds, founds_in, items_keys, part_in}
use Rattle.word_rows.specs.Terms.{AreTermsOf, IsShort}
use Rattle.op_eval.proofs.Appending.{Passed}
use Rattle.op_eval.proofs.finding.+finding.Given as goal

abbrev pub invariant-find_all-loop-item : goal.invariant-find_all-loop-item
invariant-find_all-loop-item l = record {
  placed : All IsPlaced l.rest;
  spans : l.work.spans.items ≡ l.initial.work.spans.items;
  forward : All IsForward l.out.occs.items;
  found : (row : DocRow) (number : List ℕ → ℕ) → AreTermsOf row number (items_keys l.items) l.terms → All (λ (item : Item). Knows row item.node l.marks) l.items
      → AreTermsOf row number (items_keys (drop l.item-index l.items)) l.rest × Passed (IsShort number) (map (part_in row number l.initial.work.spans.items) (take l.item-index l.items)) l.initial.out l.out;
}

abbrev pub invariant-find_span-loop-span : goal.invariant-find_span-loop-span
invariant-find_span-loop-span l = record {
  spans : l.work.spans.items ≡ l.initial.work.spans.items;
  forward : All IsForward l.out.occs.items;
  found : (row : DocRow) (number : List ℕ → ℕ) → AreTermsOf row number (node_keys l.node) l.terms → Knows row l.node l.marks
      → Finds (IsShort number) (any_of (founds_in row number l.node l.initial.work.spans.items l.zones (take l.span-index l.span-items))) l.initial.out l.out l.some;
}

abbrev pub decreases-find : goal.decreases-find
decreases-find l = 4 * goal.size-find l

abbrev pub decreases-find_either : goal.decreases-find_either
decreases-find_either l = 4 * max (size-Node l.a.now) (size-Node l.b.now) + 2

abbrev pub decreases-find_simply : goal.decreases-find_simply
decreases-find_simply l = 4 * goal.size-find_simply l + 1

abbrev pub decreases-find_perhaps : goal.decreases-find_perhaps
decreases-find_perhaps l = 4 * max (size-Node l.a.now) (size-Node l.b.now) + 1

abbrev pub decreases-find_joined : goal.decreases-find_joined
decreases-find_joined l = 4 * max (size-Node l.a.now) (size-Node l.b.now) + 2

abbrev pub decreases-find_apart : goal.decreases-find_apart
decreases-find_apart l = 4 * goal.size-find_apart l + 1

abbrev pub decreases-find_all : goal.decreases-find_all
decreases-find_all l = 4 * goal.size-find_all l + 1

abbrev pub decreases-find_item : goal.decreases-find_item
decreases-find_item l = 4 * goal.size-find_item l

abbrev pub decreases-find_span : goal.decreases-find_span
decreases-find_span l = 4 * goal.size-find_span l + 2

abbrev pub decreases-find_within : goal.decreases-find_within
decreases-find_within l = 4 * goal.size-find_within l + 1
