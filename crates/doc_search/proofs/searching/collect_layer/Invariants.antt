use Rattle.std.proofs.Common.{IfSome, length, ◌-◌}
use Rattle.doc_search.specs.steps.Gathering.{WeighNoMore}
use Rattle.doc_search.specs.steps.ListedRows.{IsLed}
use Rattle.doc_search.proofs.searching.collect_layer.Given as goal

abbrev pub invariant-rows : goal.invariant-rows
invariant-rows g l = record {
  led : IsLed g.S.Sink.Took l.asked l.layer l.fn.sink l.stream l.at l.listed l.sink;
  most : IfSome l.most (WeighNoMore l.asked l.layer.rows);
}

abbrev pub decreases-rows : goal.decreases-rows
decreases-rows g l = length l.stream.rows - l.stream.at
