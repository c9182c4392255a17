use Rattle.std.proofs.Common.{◌≡◌, ◌+◌, ◌-◌, ◌≤◌, length}
use Rattle.doc_search.specs.steps.Windows.{Carries, standing}
use Rattle.doc_search.proofs.windows.collect_told.Given as goal

abbrev pub invariant-told : goal.invariant-told
invariant-told g l = record {
  within : l.index ≤ length l.told;
  before : l.stood ≤ l.from + l.index;
  stands : l.stream ≡ standing l.asked (g.C.Chunk.content l.chunk) l.dead l.stood;
  carries : Carries g.S.Sink.Took l.asked (g.C.Chunk.content l.chunk) l.dead l.from (l.from + l.index) l.fn.sink l.sink;
}

abbrev pub decreases-told : goal.decreases-told
decreases-told g l = length l.told - l.index
