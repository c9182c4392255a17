use Rattle.std.proofs.Common.{sym, ◌∙◌, ◌≡◌, true, false, rules}
use Rattle.std.specs.Str.{bytes_eq}
use Rattle.ql_answers.proofs.Placing.{found_here, goes_on}
use Rattle.ql_answers.proofs.indexes.place_of.Goals as goal

pub returns-then-eq-clause-place : goal.returns-then-eq-clause-place
returns-then-eq-clause-place g c =
    let same : bytes_eq c.conf.result.now.schema.name c.args.name.now ≡ true = search rules in
    sym (c.indexes.invariant ∙ found_here (g.T.Catalog.confs c.args.catalog.now) c.args.name.now c.indexes.index c.conf.result.now c.conf.ensures.is same)

pub indexes-preserved : goal.indexes-preserved
indexes-preserved g c =
    let other : bytes_eq c.conf.result.now.schema.name c.args.name.now ≡ false = search rules in
    c.indexes.invariant ∙ goes_on (g.T.Catalog.confs c.args.catalog.now) c.args.name.now c.indexes.index c.conf.result.now c.conf.ensures.is other
