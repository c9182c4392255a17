use Rattle.group_facet.proofs.sinks.FacetCountsSink.pass.Goals as goal

pub returns : goal.returns
returns g c = λ first rows its lighter took facet so. c.in_ok-pass.ensures facet rows its lighter (took facet so)
