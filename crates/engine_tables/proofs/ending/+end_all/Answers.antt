use Rattle.std.proofs.Common.{rules, ◌≡◌, ◌<◌, ◌≤◌, ◌+◌, ℕ, ◌++◌, [], All, List, length, map, refl, ap, sym, subst, ◌∙◌, arith, vec_capacity}
use Rattle.std.proofs.lemmas.List.{length-map, with_items_is}
use Rattle.std.specs.List.{flat_map}
use Rattle.std.specs.Vec.{with_items}
use Rattle.commit_outcomes.specs.declared.strayed.Strayed.{Strayed}
use Rattle.step_tokens.specs.Tokens.{TokenValue}
use Rattle.engine_tables.specs.Endings.{HaveEnded}
use Rattle.engine_tables.specs.Engines.{ArePlaced, TableValue}
use Rattle.engine_tables.specs.declared.ended.Ended.{Ended}
use Rattle.engine_tables.specs.Tokens.{AreOf}
use Rattle.engine_tables.specs.steps.Seats.{AreSeats}
use Rattle.engine_tables.specs.steps.Lasts.{last_told, last_token, shortened}
use Rattle.engine_tables.proofs.Endings.{all_before, end_one, is_last, none_ended}
use Rattle.engine_tables.proofs.Numbering.{column_differs, differ_before}
use Rattle.engine_tables.proofs.ending.+end_all.Goals as goal

pub take_column-requires-clause-of : goal.take_column-requires-clause-of
take_column-requires-clause-of g t c =
    let last = is_last c.args.workers c.args.tables.items c.pop.new.self.items c.in-Some.table c.in-Some.ensures.items c.requires.placed in
    let many : length c.args.tables.items ≡ c.len-place.result + 1 = omega (arith, last.many, c.len-place.ensures, c.pop.new.self.ok.0) in
    subst (All (AreOf (c.len-place.result + 1) c.args.workers)) (sym c.as_mut_slice.ensures.value) (subst (λ (n : ℕ). All (AreOf n c.args.workers) c.args.seats.items) many c.requires.seats.of)

pub end_one-one-requires-clause-engine : goal.end_one-one-requires-clause-engine
end_one-one-requires-clause-engine g t c =
    let last = is_last c.args.workers c.args.tables.items c.pop.new.self.items c.in-Some.table c.in-Some.ensures.items c.requires.placed in
    let here : length c.pop.new.self.items ≡ c.len-place.result = omega (arith, c.len-place.ensures, c.pop.new.self.ok.0) in
    (last.index ∙ here, last.own)

pub end_one-one-requires-clause-differ : goal.end_one-one-requires-clause-differ
end_one-one-requires-clause-differ g t c =
    column_differs c.args.column.items c.take_column.new.column.items c.take_column.new.column.items c.args.seats.items c.as_mut_slice.result.now c.requires.column.0 refl c.as_mut_slice.ensures.value c.take_column.ensures.owners c.requires.seats.differ

pub end_all-ended-requires : goal.end_all-ended-requires
end_all-ended-requires g t c κs =
    let last = is_last c.args.workers c.args.tables.items c.pop.new.self.items c.in-Some.table c.in-Some.ensures.items c.requires.placed in
    let placed : ArePlaced c.args.workers (map (λ (t : TableValue). t.engine) c.pop.new.self.items) = last.before in
    let of : All (AreOf (length c.pop.new.self.items + 1) c.args.workers) c.args.seats.items = subst (λ (n : ℕ). All (AreOf n c.args.workers) c.args.seats.items) last.many c.requires.seats.of in
    let short : c.take_column.new.seats ≡ map shortened c.args.seats.items = c.take_column.ensures.seats ∙ ap (map shortened) c.as_mut_slice.ensures.value in
    let left : (with_items c.args.seats c.take_column.new.seats).items ≡ map shortened c.args.seats.items =
    with_items_is c.args.seats c.take_column.new.seats (omega (arith, ap length short, length-map c.args.seats.items shortened, c.args.seats.ok.0)) ∙ short in
    let seats : AreSeats (length c.pop.new.self.items) c.args.workers (with_items c.args.seats c.take_column.new.seats).items = record {
      of = subst (All (AreOf (length c.pop.new.self.items) c.args.workers)) (sym left) (all_before (length c.pop.new.self.items) c.args.workers c.args.seats.items of);
      differ = differ_before c.args.seats.items (with_items c.args.seats c.take_column.new.seats).items left c.requires.seats.differ;
    } in
    let room : length (with_items c.args.seats c.take_column.new.seats).items ≤ vec_capacity c.end_one-one.new.column = omega (arith, ap length left, length-map c.args.seats.items shortened, c.requires.column.1, c.take_column.ensures.room, c.end_one-one.ensures.column.1) in
    let told_room : length (with_items c.args.seats c.take_column.new.seats).items ≤ vec_capacity c.end_one-one.new.told = omega (arith, ap length left, length-map c.args.seats.items shortened, c.requires.told.1, c.take_column.ensures.told_room, c.end_one-one.ensures.told.1) in
    let fits : length c.pop.new.self.items ≤ vec_capacity c.args.ended = omega (arith, last.many, c.requires.room.1) in
    let column_none : c.end_one-one.new.column.items ≡ [] = c.end_one-one.ensures.column.0 in
    let told_none : c.end_one-one.new.told.items ≡ [] = c.end_one-one.ensures.told.0 in
    let ended_none : c.args.ended.items ≡ [] = c.requires.room.0 in
    let less : length c.pop.new.self.items < length c.args.tables.items = omega (arith, last.many) in
    λ lives. (search rules, (lives.0, (lives.1.0, (lives.1.1, (placed, (seats, ((column_none, room), ((told_none, told_room), (ended_none, fits)))))))))

pub returns-in-Some-clause-ended : goal.returns-in-Some-clause-ended
returns-in-Some-clause-ended g t c =
    let last = is_last c.args.workers c.args.tables.items c.pop.new.self.items c.in-Some.table c.in-Some.ensures.items c.requires.placed in
    let here : c.len-place.result ≡ length c.pop.new.self.items = omega (arith, c.len-place.ensures, c.pop.new.self.ok.0) in
    let short : c.take_column.new.seats ≡ map shortened c.args.seats.items = c.take_column.ensures.seats ∙ ap (map shortened) c.as_mut_slice.ensures.value in
    let left : (with_items c.args.seats c.take_column.new.seats).items ≡ map shortened c.args.seats.items =
    with_items_is c.args.seats c.take_column.new.seats (omega (arith, ap length short, length-map c.args.seats.items shortened, c.args.seats.ok.0)) ∙ short in
    let tokens : c.take_column.new.column.items ≡ flat_map last_token c.args.seats.items =
    c.take_column.ensures.column
    ∙ ap (λ (ts : List TokenValue). ts ++ flat_map last_token c.as_mut_slice.result.now) c.requires.column.0
    ∙ ap (flat_map last_token) c.as_mut_slice.ensures.value in
    let told : c.take_column.new.told.items ≡ flat_map last_told c.args.seats.items =
    c.take_column.ensures.told
    ∙ ap (λ (ns : List Strayed). ns ++ flat_map last_told c.as_mut_slice.result.now) c.requires.told.0
    ∙ ap (flat_map last_told) c.as_mut_slice.ensures.value in
    end_one g.D.Disk g.J.Naming.schema g.J.Naming.base g.J.Naming.opened c.args.workers (length c.args.tables.items) (length c.pop.new.self.items) c.len-place.result c.args.seats.items (with_items c.args.seats c.take_column.new.seats).items c.end_all-ended.result.items c.push_reserved.new.self.items c.end_one-one.result c.take_column.new.told.items c.take_column.new.column.items
    last.many c.requires.seats.of left told tokens here c.end_all-ended.ensures.ended c.end_one-one.ensures.ended c.push_reserved.ensures.items

pub returns-in-None-clause-ended : goal.returns-in-None-clause-ended
returns-in-None-clause-ended g t c =
    let none : length c.args.tables.items ≡ 0 = omega (arith, c.in-None.ensures.cases.0, c.args.tables.ok.0) in
    let all : HaveEnded g.D.Disk g.J.Naming.schema g.J.Naming.base g.J.Naming.opened 0 c.args.workers c.args.seats.items c.args.ended.items =
    subst (λ (es : List (Ended g.row.D.Denot g.row.J.Denot)). HaveEnded g.D.Disk g.J.Naming.schema g.J.Naming.base g.J.Naming.opened 0 c.args.workers c.args.seats.items es) (sym c.requires.room.0) (none_ended g.D.Disk g.J.Naming.schema g.J.Naming.base g.J.Naming.opened c.args.workers c.args.seats.items) in
    subst (λ (n : ℕ). HaveEnded g.D.Disk g.J.Naming.schema g.J.Naming.base g.J.Naming.opened n c.args.workers c.args.seats.items c.args.ended.items) (sym none) all
