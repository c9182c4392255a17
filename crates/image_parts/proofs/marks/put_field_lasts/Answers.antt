use Rattle.std.proofs.Common.{◌≡◌, [], ◌∷◌, ◌++◌, length, arith, map, take, rules, sym, ap, ◌∙◌, append-nil}
use Rattle.doc_types.specs.Chunks.{last_position}
use Rattle.image_parts.proofs.FieldSteps.{field_step, front_kept, gaps_in, grown_all, grown_more, later}
use Rattle.image_parts.proofs.marks.put_field_lasts.Goals as goal

pub fields-init : goal.fields-init
fields-init c = λ fields others are long. (are, sym (append-nil c.args.into.now.items))

pub next_number-last-requires : goal.next_number-last-requires
next_number-last-requires c =
    let r = c.requires in
    let s = field_step c.args.bytes.now c.fields.place r.0 c.fields.counter r.1 (omega (arith, r.3)) (c.fields.invariant r.0 r.1 r.2 r.3).0 in
    (last_position s.field.one, length (gaps_in s.field.one) ∷ (gaps_in s.field.one ++ later r.0 c.fields.counter r.1), s.numbers)

pub returns-in_err-push-clause-front : goal.returns-in_err-push-clause-front
returns-in_err-push-clause-front c =
    let r = c.requires in
    let stays : c.push.new.self.items ≡ c.fields.into.items = search rules in
    front_kept c.args.into.now.items (map last_position (take c.fields.counter r.0)) c.push.new.self.items (stays ∙ (c.fields.invariant r.0 r.1 r.2 r.3).1)

pub behind_gaps-place-requires : goal.behind_gaps-place-requires
behind_gaps-place-requires c =
    let r = c.requires in
    let s = field_step c.args.bytes.now c.fields.place r.0 c.fields.counter r.1 (omega (arith, r.3)) (c.fields.invariant r.0 r.1 r.2 r.3).0 in
    (gaps_in s.field.one, later r.0 c.fields.counter r.1, (c.next_number-last.ensures _ _ s.numbers).1)

pub fields-preserved : goal.fields-preserved
fields-preserved c = λ fields others are long.
    let was = c.fields.invariant fields others are long in
    let s = field_step c.args.bytes.now c.fields.place fields c.fields.counter others (omega (arith, long)) was.0 in
    let its = c.next_number-last.ensures _ _ s.numbers in
    let pushed : c.push.new.self.items ≡ c.fields.into.items ++ c.next_number-last.result.0 ∷ [] = search rules in (
      c.behind_gaps-place.ensures (gaps_in s.field.one) (later fields c.fields.counter others) its.1,
      grown_more last_position fields c.fields.counter s.field c.args.into.now.items c.fields.into.items c.push.new.self.items was.1 (pushed ∙ ap (λ n. c.fields.into.items ++ n ∷ []) its.0),
    )

pub returns-clause-ok : goal.returns-clause-ok
returns-clause-ok c = λ fields others are long.
    grown_all last_position fields c.fields.counter c.args.into.now.items c.fields.into.items (omega (arith, long, c.fields-test.false)) (c.fields.invariant fields others are long).1

pub returns-clause-front : goal.returns-clause-front
returns-clause-front c =
    let r = c.requires in
    front_kept c.args.into.now.items (map last_position (take c.fields.counter r.0)) c.fields.into.items (c.fields.invariant r.0 r.1 r.2 r.3).1
