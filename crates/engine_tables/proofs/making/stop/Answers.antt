use Rattle.std.proofs.Common.{◌≤◌, List, length, ap, sym, subst, arith, vec_capacity}
use Rattle.engine_tables.specs.Endings.{EndingValue, HaveEnded}
use Rattle.engine_tables.specs.Tokens.{TokensValue}
use Rattle.engine_tables.specs.steps.Seats.{AreSeats}
use Rattle.engine_tables.proofs.Composing.{with_first}
use Rattle.engine_tables.proofs.Makings.{length_seats, seats_sit}
use Rattle.engine_tables.proofs.Numbering.{seats_differ}
use Rattle.engine_tables.proofs.making.stop.Goals as goal

pub end_all-requires-clause-seats : goal.end_all-requires-clause-seats
end_all-requires-clause-seats g c =
    let count = length c.args.tables.items in
    subst (AreSeats count c.args.workers) (sym c.requires.seats) (record { of = seats_sit count c.args.workers c.args.workers (omega arith); differ = seats_differ count c.args.workers })

pub end_all-requires-clause-column : goal.end_all-requires-clause-column
end_all-requires-clause-column g c =
    let fits : length c.args.seats.items ≤ vec_capacity c.ending.inside.column =
    omega (arith, ap length c.requires.seats, length_seats (length c.args.tables.items) c.args.workers, c.requires.room.workers_fit, ap (λ (e : EndingValue). e.workers) c.ending.view_is, c.ending.invariant.0.for_column) in
    (c.ending.invariant.2, fits)

pub end_all-requires-clause-told : goal.end_all-requires-clause-told
end_all-requires-clause-told g c =
    let fits : length c.args.seats.items ≤ vec_capacity c.ending.inside.told =
    omega (arith, ap length c.requires.seats, length_seats (length c.args.tables.items) c.args.workers, c.requires.room.workers_fit, ap (λ (e : EndingValue). e.workers) c.ending.view_is, c.ending.invariant.0.for_told) in
    (c.ending.invariant.4, fits)

pub returns-clause-ended : goal.returns-clause-ended
returns-clause-ended g c =
    let count = length c.args.tables.items in
    with_first g.D.Disk g.J.Naming.schema g.J.Naming.base g.J.Naming.opened count c.args.workers c.end_all.result.items
    (subst (λ (s : List TokensValue). HaveEnded g.D.Disk g.J.Naming.schema g.J.Naming.base g.J.Naming.opened count c.args.workers s c.end_all.result.items) c.requires.seats c.end_all.ensures.ended)
