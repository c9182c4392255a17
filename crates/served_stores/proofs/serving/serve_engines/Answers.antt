use Rattle.std.proofs.Common.{◌≡◌, ap, ◌∙◌, arith, length, map}
use Rattle.std.proofs.lemmas.List.{with_items_is}
use Rattle.std.specs.Vec.{with_items}
use Rattle.served_stores.specs.Serving.{outcome_of}
use Rattle.served_stores.specs.declared.serving.Served.{Served}
use Rattle.served_stores.proofs.Ready.{are_ready, seated, seats_many}
use Rattle.served_stores.proofs.Wholes.{has_served}
use Rattle.served_stores.proofs.serving.serve_engines.Goals as goal

pub sit_down-requires-clause-many : goal.sit_down-requires-clause-many
sit_down-requires-clause-many g c = ap length c.requires.tokens ∙ seats_many (length c.args.named.engines.confs) c.args.named.engines.workers ∙ c.requires.workers

pub serve_all-ended-requires-clause-ready : goal.serve_all-ended-requires-clause-ready
serve_all-ended-requires-clause-ready g c κs within =
    are_ready g.E.Door c.args.named.engines c.args.sessions c.args.doors.items c.args.named.seats.items c.as_mut_slice.result.now
    c.requires.workers c.requires.tokens c.requires.doors c.requires.numbers
    (ap (map (λ seat. seat.door)) c.as_mut_slice.ensures.value ∙ c.sit_down.ensures.doors)
    (ap (map (λ seat. seat.tokens)) c.as_mut_slice.ensures.value ∙ c.sit_down.ensures.tokens)

pub stand_up-failed-requires : goal.stand_up-failed-requires
stand_up-failed-requires g c =
    let long : length c.serve_all-ended.new.seats ≡ c.sit_down.new.seats.len = omega (arith, c.serve_all-ended.auto.seats, c.as_mut_slice.ensures.len) in
    let kept : (with_items c.sit_down.new.seats c.serve_all-ended.new.seats).items ≡ c.serve_all-ended.new.seats = with_items_is c.sit_down.new.seats c.serve_all-ended.new.seats long in
    let many : length c.sit_down.new.seats.items ≡ length c.args.doors.items = seated c.sit_down.new.seats.items c.args.doors.items c.sit_down.ensures.doors in
    record { room = (c.sit_down.ensures.empty, omega (arith, ap length kept, long, many, c.sit_down.new.seats.ok.0, c.args.doors.ok.0, c.args.doors.ok.1, c.sit_down.ensures.keeps)) }

pub returns : goal.returns
returns g c =
    let served : Served g.row.D.Denot g.row.E.Denot = record { doors = c.stand_up-failed.new.doors; ends = c.without_notes.result; outcome = c.outcome_of.result } in
    let long : length c.serve_all-ended.new.seats ≡ c.sit_down.new.seats.len = omega (arith, c.serve_all-ended.auto.seats, c.as_mut_slice.ensures.len) in
    has_served g.D.Disk g.E.Door g.E.Line.Link g.J.Naming.schema g.J.Naming.base g.J.Naming.opened c.args.named.engines.confs c.args.sessions
    c.as_mut_slice.result.now c.serve_all-ended.new.seats (with_items c.sit_down.new.seats c.serve_all-ended.new.seats).items c.serve_all-ended.result.items c.args.doors.items served
    (ap (map (λ seat. seat.door)) c.as_mut_slice.ensures.value ∙ c.sit_down.ensures.doors) (with_items_is c.sit_down.new.seats c.serve_all-ended.new.seats long)
    c.serve_all-ended.ensures c.stand_up-failed.ensures.doors c.without_notes.ensures.ends (c.outcome_of.ensures ∙ ap outcome_of c.stand_up-failed.ensures.failed)
