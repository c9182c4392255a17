use Rattle.std.proofs.Common.{◌∙◌, ap, codes, map, arith, rules}
use Rattle.std.proofs.lemmas.List.{take_all}
use Rattle.ql_answers.specs.Replies.{pair}
use Rattle.ql_answers.proofs.Placing.{map_more}
use Rattle.ql_answers.proofs.showing.index_rows.Goals as goal

pub indexes-preserved : goal.indexes-preserved
indexes-preserved g c =
    map_more (λ conf. pair conf.schema.name (codes "rt")) (g.T.Catalog.confs c.args.catalog.now) c.indexes.rows.items c.put_pair.new.rows.items c.indexes.index c.conf-conf.result.now (pair c.as_bytes.result.now (codes "rt"))
    c.indexes.invariant c.conf-conf.ensures.is (search rules) c.in_ok-put_pair.ensures

pub returns : goal.returns
returns g c =
    c.new.ensures ∙ c.indexes.invariant ∙ ap (map (λ conf. pair conf.schema.name (codes "rt"))) (take_all c.indexes.index (g.T.Catalog.confs c.args.catalog.now) (omega (arith, c.count-index-end.ensures)))
