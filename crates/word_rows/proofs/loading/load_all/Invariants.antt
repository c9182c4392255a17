use Rattle.std.proofs.Common.{◌≡◌, ℕ, ◌<◌, ◌≤◌, ◌+◌, Bor, Some, get_or, slice_get, take}
use Rattle.std.specs.List.{count_by}
use Rattle.doc_types.specs.declared.documents.DocRow.{DocRow}
use Rattle.query_tree.specs.declared.key.Key.{Key}
use Rattle.occ_lists.specs.declared.term.Term.{Term}
use Rattle.word_rows.specs.Keywords.{key_places}
use Rattle.word_rows.proofs.loading.load_all.Given as goal

abbrev pub invariant-loop-at : goal.invariant-loop-at
invariant-loop-at g l = record {
  count : l.steps ≤ l.initial.steps + count_by (λ term. term.present) (take l.at l.initial.terms);
  same : (k : ℕ) (d : Term) → get_or l.terms k d ≡ record (get_or l.initial.terms k d) { places = (get_or l.terms k d).places };
  done : (found : DocRow) → slice_get (g.C.Chunk.content l.chunk) l.row ≡ Some found → (k : ℕ) (d : Term) (key : Bor Key) → k < l.at → (get_or l.terms k d).places.items ≡ key_places found (get_or l.keys k key).now;
}
