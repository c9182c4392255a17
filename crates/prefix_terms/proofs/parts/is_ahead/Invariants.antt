use Rattle.std.proofs.Common.{◌≡◌, length}
use Rattle.std.specs.List.{list_any}
use Rattle.prefix_terms.specs.steps.Parts.{is_alive}
use Rattle.prefix_terms.proofs.parts.is_ahead.Given as goal

abbrev pub invariant-rows : goal.invariant-rows
invariant-rows g l = record {
  belongs : g.C.Chunk.belongs l.chunk l.cursor;
  same : list_any (is_alive l.dead) (g.C.Chunk.place l.chunk l.cursor).ahead ≡ list_any (is_alive l.dead) (g.C.Chunk.place l.chunk l.initial.cursor).ahead;
}

abbrev pub decreases-rows : goal.decreases-rows
decreases-rows g l = length (g.C.Chunk.place l.chunk l.cursor).ahead
