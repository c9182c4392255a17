use Rattle.group_facet.proofs.Beside.{IsAmid}
use Rattle.table_search.proofs.Offered.{GoesOn}
use Rattle.table_search.proofs.facet_sinks.offer_to_all.Given as goal

abbrev pub invariant-loop-counts : goal.invariant-loop-counts
invariant-loop-counts g l = IsAmid (GoesOn (g.R.FoundRow.as_row l.row)) l.fn.list l.counts-index l.list
