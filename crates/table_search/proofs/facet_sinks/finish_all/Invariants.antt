use Rattle.std.proofs.Common.{◌≡◌, ◌++◌}
use Rattle.std.specs.List.{AllZip}
use Rattle.table_search.proofs.Offered.{Shows}
use Rattle.table_search.proofs.facet_sinks.finish_all.Given as goal

abbrev pub invariant-loop-counts : goal.invariant-loop-counts
invariant-loop-counts l = record {
  shows : AllZip Shows l.yielded l.shown.items;
  rest : l.yielded ++ l.counts-iterator.rest.items ≡ l.fn.list.items;
}
