use Rattle.std.proofs.Common.{◌≡◌, take, codes, map}
use Rattle.ql_answers.specs.Replies.{pair}
use Rattle.ql_answers.proofs.showing.index_rows.Given as goal

abbrev pub invariant-indexes : goal.invariant-indexes
invariant-indexes g l = l.rows.items ≡ map (λ conf. pair conf.schema.name (codes "rt")) (take l.index (g.T.Catalog.confs l.catalog))
