use Rattle.std.proofs.Common.{◌≡◌, ℕ, ◌+◌, ◌*◌, max, true, false, List, map, take, drop}
use Rattle.std.specs.List.{All, list_all}
use Rattle.doc_types.specs.declared.documents.DocRow.{DocRow}
use Rattle.query_tree.specs.declared.query.Item.{Item}
use Rattle.query_tree.specs.declared.query.Node.{size-Node}
use Rattle.query_tree.specs.TreeKeys.{node_keys}
use Rattle.occ_lists.specs.Terms.{IsPlaced}
use Rattle.op_eval.specs.Finding.{any_of, passes}
use Rattle.word_rows.specs.RowMarks.{Knows}
use Rattle.op_eval.specs.steps.Evaluating.{founds_in, items_keys, part_in}
use Rattle.word_rows.specs.Terms.{AreTermsOf}
use Rattle.op_eval.proofs.matching.+matching.Given as goal

abbrev pub decreases-matches : goal.decreases-matches
decreases-matches l = 4 * goal.size-matches l

abbrev pub decreases-matches_either : goal.decreases-matches_either
decreases-matches_either l = 4 * max (size-Node l.a.now) (size-Node l.b.now) + 1

abbrev pub decreases-matches_perhaps : goal.decreases-matches_perhaps
decreases-matches_perhaps l = 4 * max (size-Node l.a.now) (size-Node l.b.now) + 1

abbrev pub decreases-matches_all : goal.decreases-matches_all
decreases-matches_all l = 4 * goal.size-matches_all l + 1

abbrev pub decreases-matches_span : goal.decreases-matches_span
decreases-matches_span l = 4 * goal.size-matches_span l + 2

abbrev pub decreases-matches_within : goal.decreases-matches_within
decreases-matches_within l = 4 * goal.size-matches_within l + 1

abbrev pub invariant-matches_all-loop-item : goal.invariant-matches_all-loop-item
invariant-matches_all-loop-item l = record {
  placed : All IsPlaced l.rest;
  spans : l.work.spans.items ≡ l.initial.work.spans.items;
  told : (row : DocRow) (number : List ℕ → ℕ) → AreTermsOf row number (items_keys l.items) l.terms → All (λ (item : Item). Knows row item.node l.marks) l.items
      → AreTermsOf row number (items_keys (drop l.item-index l.items)) l.rest × (list_all passes (map (part_in row number l.initial.work.spans.items) (take l.item-index l.items)) ≡ true);
}

abbrev pub invariant-matches_span-loop-span : goal.invariant-matches_span-loop-span
invariant-matches_span-loop-span l = record {
  spans : l.work.spans.items ≡ l.initial.work.spans.items;
  told : (row : DocRow) (number : List ℕ → ℕ) → AreTermsOf row number (node_keys l.node) l.terms → Knows row l.node l.marks
      → (any_of (founds_in row number l.node l.initial.work.spans.items l.zones (take l.span-index l.span-items))).matches ≡ false;
}
