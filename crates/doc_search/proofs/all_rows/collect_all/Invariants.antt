use Rattle.doc_search.proofs.AllRows.{IsBefore}
use Rattle.doc_search.proofs.all_rows.collect_all.Given as goal

abbrev pub invariant-loop-row : goal.invariant-loop-row
invariant-loop-row g l = IsBefore g.S.Sink.Took l.asked l.layer l.fn.sink l.row l.sink
