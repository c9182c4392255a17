use Rattle.std.proofs.Common.{◌≡◌, ℕ, ◌<◌, ◌≤◌, get_or, None}
use Rattle.occ_lists.specs.declared.term.Term.{Term}
use Rattle.word_rows.specs.steps.Cursors.{is_next}
use Rattle.word_rows.proofs.slots.mark_all.Given as goal

abbrev pub invariant-loop-at : goal.invariant-loop-at
invariant-loop-at g l = record {
  done : (k : ℕ) (d : Term) → k < l.at → get_or l.terms k d ≡ record (get_or l.initial.terms k d) { present = is_next (g.C.Chunk.place l.chunk) l.row (get_or l.cursors k None) };
  left : (k : ℕ) (d : Term) → l.at ≤ k → get_or l.terms k d ≡ get_or l.initial.terms k d;
}
