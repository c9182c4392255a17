use Rattle.std.proofs.Common.{◌≡◌, ◌+◌, ℕ, length, ap, refl, sym, subst, ◌∙◌, arith}
use Rattle.std.proofs.lemmas.List.{with_items_is}
use Rattle.std.specs.Vec.{with_items}
use Rattle.store_keep.specs.Names.{first_tokens}
use Rattle.snap_share.specs.Engines.{EngineValue}
use Rattle.engine_tables.specs.Tokens.{new_seats}
use Rattle.engine_tables.specs.declared.making.Made.{Made}
use Rattle.engine_tables.specs.steps.Makings.{StopsAt}
use Rattle.engine_tables.proofs.Composing.{all_ended, but_one, is_next}
use Rattle.engine_tables.proofs.Makings.{length_seats}
use Rattle.engine_tables.proofs.making.make_one.Goals as goal

pub deal-requires-clause-seats : goal.deal-requires-clause-seats
deal-requires-clause-seats g c =
    let slice : c.as_mut_slice.result.now ≡ new_seats (length c.args.made.tables.items) c.args.made.workers = c.as_mut_slice.ensures.value ∙ c.requires.made.seats_are in
    let place : length c.args.made.tables.items ≡ c.len-place.result = omega (arith, c.len-place.ensures, c.args.made.tables.ok.0) in
    slice ∙ ap (λ (k : ℕ). new_seats k c.args.made.workers) place ∙ ap (new_seats c.len-place.result) (sym (ap length slice ∙ length_seats (length c.args.made.tables.items) c.args.made.workers))

pub deal-requires-clause-tokens : goal.deal-requires-clause-tokens
deal-requires-clause-tokens g c =
    let slice : c.as_mut_slice.result.now ≡ new_seats (length c.args.made.tables.items) c.args.made.workers = c.as_mut_slice.ensures.value ∙ c.requires.made.seats_are in
    c.in-Ok.ensures.tokens ∙ ap (first_tokens c.len-place.result) (sym (ap length slice ∙ length_seats (length c.args.made.tables.items) c.args.made.workers))

pub stop_with-requires-clause-seats : goal.stop_with-requires-clause-seats
stop_with-requires-clause-seats g c =
    let slice : c.as_mut_slice.result.now ≡ new_seats (length c.args.made.tables.items) c.args.made.workers = c.as_mut_slice.ensures.value ∙ c.requires.made.seats_are in
    let same : c.deal.new.seats ≡ c.as_mut_slice.result.now = c.in-Err-deal.ensures.err.0 in
    let long : length c.deal.new.seats ≡ c.args.made.seats.len = omega (arith, ap length same, c.as_mut_slice.ensures.len) in
    with_items_is c.args.made.seats c.deal.new.seats long ∙ same ∙ slice

pub returns-in-Ok-deal : goal.returns-in-Ok-deal
returns-in-Ok-deal g c =
    let slice : c.as_mut_slice.result.now ≡ new_seats (length c.args.made.tables.items) c.args.made.workers = c.as_mut_slice.ensures.value ∙ c.requires.made.seats_are in
    let place : c.len-place.result ≡ length c.args.made.tables.items = omega (arith, c.len-place.ensures, c.args.made.tables.ok.0) in
    let many : length c.as_mut_slice.result.now ≡ c.args.made.workers = ap length slice ∙ length_seats (length c.args.made.tables.items) c.args.made.workers in
    let dealt : c.deal.new.seats ≡ new_seats (c.len-place.result + 1) c.args.made.workers = c.in-Ok-deal.ensures.ok ∙ ap (new_seats (c.len-place.result + 1)) many in
    let long : length c.deal.new.seats ≡ c.args.made.seats.len = omega (arith, ap length dealt, length_seats (c.len-place.result + 1) c.args.made.workers, many, c.as_mut_slice.ensures.len) in
    let next : Made g.row.D.Denot g.row.J.Denot = record { tables = c.push_reserved.new.self; workers = c.args.made.workers; seats = with_items c.args.made.seats c.deal.new.seats; ending = c.args.made.ending } in
    is_next c.args.made next c.args.conf c.args.store c.new.result c.len-place.result c.push_reserved.ensures.items (c.new.ensures ∙ ap (λ (e : EngineValue). record { conf = c.args.conf; engine = e }) c.in-Ok.ensures.engine) place refl
    (with_items_is c.args.made.seats c.deal.new.seats long ∙ dealt) refl c.push_reserved.ensures.capacity

pub returns-in-Err-deal : goal.returns-in-Err-deal
returns-in-Err-deal g c =
    (all_ended g.D.Disk g.J.Naming.schema g.J.Naming.base g.J.Naming.opened c.args.made c.args.store c.stop_with.result.items c.stop_with.ensures.ended, c.stop_with.ensures.room)

pub returns-in-Err : goal.returns-in-Err
returns-in-Err g c = (
  subst (StopsAt g.D.Disk g.J.Naming.schema g.J.Naming.base g.J.Naming.opened c.args.made c.args.store) (sym c.push_reserved-in-Err.ensures.items) (but_one g.D.Disk g.J.Naming.schema g.J.Naming.base g.J.Naming.opened c.args.made c.args.store c.stop-ended.result.items _ c.in-Err.ensures.disk c.stop-ended.ensures.ended),
  omega (arith, c.stop-ended.ensures.room, c.push_reserved-in-Err.ensures.capacity),
)
