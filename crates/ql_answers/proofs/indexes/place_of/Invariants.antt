use Rattle.std.proofs.Common.{◌≡◌, drop}
use Rattle.ql_answers.specs.Indexes.{place_of, place_from}
use Rattle.ql_answers.proofs.indexes.place_of.Given as goal

abbrev pub invariant-indexes : goal.invariant-indexes
invariant-indexes g l = place_of (g.T.Catalog.confs l.catalog) l.name ≡ place_from l.index (drop l.index (g.T.Catalog.confs l.catalog)) l.name
