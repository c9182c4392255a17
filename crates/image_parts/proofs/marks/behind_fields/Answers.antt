use Rattle.std.proofs.Common.{◌∷◌, ◌++◌, length, arith}
use Rattle.doc_types.specs.Chunks.{last_position}
use Rattle.image_parts.proofs.FieldSteps.{field_step, gaps_in, later}
use Rattle.image_parts.proofs.marks.behind_fields.Goals as goal

pub next_number-counted-requires : goal.next_number-counted-requires
next_number-counted-requires c =
    let r = c.requires in
    let s = field_step c.args.bytes.now c.fields.place r.0 c.fields.counter r.1 (omega (arith, r.3)) (c.fields.invariant r.0 r.1 r.2 r.3) in
    (last_position s.field.one, length (gaps_in s.field.one) ∷ (gaps_in s.field.one ++ later r.0 c.fields.counter r.1), s.numbers)

pub behind_gaps-place-requires : goal.behind_gaps-place-requires
behind_gaps-place-requires c =
    let r = c.requires in
    let s = field_step c.args.bytes.now c.fields.place r.0 c.fields.counter r.1 (omega (arith, r.3)) (c.fields.invariant r.0 r.1 r.2 r.3) in
    (gaps_in s.field.one, later r.0 c.fields.counter r.1, (c.next_number-counted.ensures _ _ s.numbers).1)

pub fields-preserved : goal.fields-preserved
fields-preserved c = λ fields others are long.
    let s = field_step c.args.bytes.now c.fields.place fields c.fields.counter others (omega (arith, long)) (c.fields.invariant fields others are long) in
    c.behind_gaps-place.ensures (gaps_in s.field.one) (later fields c.fields.counter others) (c.next_number-counted.ensures _ _ s.numbers).1
