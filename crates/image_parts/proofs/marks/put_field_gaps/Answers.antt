use Rattle.std.proofs.Common.{◌≡◌, ◌+◌, ◌-◌, ◌*◌, ◌/◌, [], ◌∷◌, ◌++◌, length, arith, map, take, drop, rules, ◌∙◌}
use Rattle.chunk_image.specs.Marks.{gap_numbers, kind_bit}
use Rattle.image_parts.proofs.FieldSteps.{front_kept}
use Rattle.image_parts.proofs.GapSteps.{gap_step, gaps_all, gaps_more, gaps_none, position_told}
use Rattle.image_parts.proofs.marks.put_field_gaps.Goals as goal

pub next_number-count-requires : goal.next_number-count-requires
next_number-count-requires c = let r = c.requires in (length r.0, gap_numbers 0 r.0 ++ r.1, r.2)

pub gaps-init : goal.gaps-init
gaps-init c = λ all others are on. gaps_none c.args.bytes.now all others c.args.field c.args.into.now.items _ _ on (c.next_number-count.ensures (length all) (gap_numbers 0 all ++ others) are)

pub next_number-number-requires : goal.next_number-number-requires
next_number-number-requires c =
    let r = c.requires in
    let s = gap_step c.args.bytes.now r.0 r.1 c.args.field c.args.into.now.items c.gaps.into.items c.gaps.place c.gaps.position _ c.gaps.counter (c.gaps.invariant r.0 r.1 r.2 r.3) (omega arith) in
    (2 * (s.gap.one.0 - c.gaps.position) + kind_bit s.gap.one.1, gap_numbers s.gap.one.0 (drop (c.gaps.counter + 1) r.0) ++ r.1, s.numbers)

pub overflow_add-position : goal.overflow_add-position
overflow_add-position c =
    let r = c.requires in
    let s = gap_step c.args.bytes.now r.0 r.1 c.args.field c.args.into.now.items c.gaps.into.items c.gaps.place c.gaps.position _ c.gaps.counter (c.gaps.invariant r.0 r.1 r.2 r.3) (omega arith) in
    omega (arith, position_told c.gaps.position c.next_number-number.result.0 s.gap.one s.behind (c.next_number-number.ensures _ _ s.numbers).0, s.small)

pub gaps-preserved : goal.gaps-preserved
gaps-preserved c = λ all others are on.
    let was = c.gaps.invariant all others are on in
    let s = gap_step c.args.bytes.now all others c.args.field c.args.into.now.items c.gaps.into.items c.gaps.place c.gaps.position _ c.gaps.counter was (omega arith) in
    let pushed : c.push.new.self.items ≡ c.gaps.into.items ++ (c.args.field, (c.gaps.position + c.next_number-number.result.0 / 2, c.kind_of.result)) ∷ [] = search rules in
    gaps_more c.args.bytes.now all others c.args.field c.args.into.now.items c.gaps.into.items c.push.new.self.items c.gaps.place c.next_number-number.result.1 c.gaps.position c.next_number-number.result.0 _ c.gaps.counter c.kind_of.result
    was s (c.next_number-number.ensures _ _ s.numbers) c.kind_of.ensures pushed

pub returns-in_err-push-clause-front : goal.returns-in_err-push-clause-front
returns-in_err-push-clause-front c =
    let r = c.requires in
    let stays : c.push.new.self.items ≡ c.gaps.into.items = search rules in
    front_kept c.args.into.now.items (map (λ gap. (c.args.field, gap)) (take c.gaps.counter r.0)) c.push.new.self.items (stays ∙ (c.gaps.invariant r.0 r.1 r.2 r.3).grown)

pub returns-clause-ok : goal.returns-clause-ok
returns-clause-ok c = λ all others are on.
    gaps_all c.args.bytes.now all others c.args.field c.args.into.now.items c.gaps.into.items c.gaps.place c.gaps.position _ c.gaps.counter (c.gaps.invariant all others are on) c.gaps-test.false

pub returns-clause-front : goal.returns-clause-front
returns-clause-front c =
    let r = c.requires in
    front_kept c.args.into.now.items (map (λ gap. (c.args.field, gap)) (take c.gaps.counter r.0)) c.gaps.into.items (c.gaps.invariant r.0 r.1 r.2 r.3).grown
