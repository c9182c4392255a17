use Rattle.std.proofs.Common.{◌≤◌, arith, ap, length, vec_capacity}
use Rattle.std.proofs.lemmas.List.{length-map}
use Rattle.engine_tables.specs.Endings.{EndingValue}
use Rattle.engine_tables.specs.Engines.{EnginesValue, TableValue}
use Rattle.engine_tables.proofs.Endings.{all_differ, all_sit}
use Rattle.engine_tables.proofs.engines.Engines.close.Goals as goal

pub end_all-requires-clause-seats : goal.end_all-requires-clause-seats
end_all-requires-clause-seats g c = record {
  of = all_sit c.self.inside.tables.items c.self.inside.workers c.args.self c.ending.inside.seats.items c.ending.inside.indexes c.ending.inside.workers c.args.ending c.self.view_is c.ending.view_is c.requires.sit;
  differ = all_differ c.ending.inside.seats.items c.ending.inside.indexes c.ending.inside.workers c.args.ending c.ending.view_is c.requires.differ;
}

pub end_all-requires-clause-room : goal.end_all-requires-clause-room
end_all-requires-clause-room g c =
    let fits : length c.self.inside.tables.items ≤ vec_capacity c.ending.inside.ended =
    omega (arith, c.requires.room, c.ending.invariant.0.for_ended, ap (λ (e : EndingValue). e.indexes) c.ending.view_is, ap (λ (e : EnginesValue). length e.confs) c.self.view_is, length-map c.self.inside.tables.items (λ (t : TableValue). t.conf)) in
    (c.ending.invariant.3, fits)
