use Rattle.table_search.proofs.Offered.{counted_lighter}
use Rattle.table_search.proofs.facet_sinks.FacetSinksSink.pass.Goals as goal

pub returns : goal.returns
returns g c = λ first rows its lighter took facets so.
    counted_lighter facets rows its (g.R.FoundRow.as_row c.args.row.now) c.args.self.now.list.items c.offer.new.self.list.items lighter c.requires (took facets so) (c.in_ok-offer.ensures first rows took facets so)
