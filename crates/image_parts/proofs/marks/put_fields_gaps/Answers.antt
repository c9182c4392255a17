use Rattle.std.proofs.Common.{◌<◌, refl, ◌∷◌, ◌++◌, length, arith, take, sym, ap, ◌∙◌, append-nil}
use Rattle.std.proofs.lemmas.List.{take_all}
use Rattle.doc_types.specs.Chunks.{gaps_of, last_position}
use Rattle.doc_types.proofs.FieldParts.{cut_back, parts, parts_more}
use Rattle.image_parts.proofs.FieldSteps.{field_step, front_kept, gaps_in, later}
use Rattle.image_parts.proofs.GapSteps.{on_there, recounted}
use Rattle.image_parts.proofs.marks.put_fields_gaps.Goals as goal

pub fields-init : goal.fields-init
fields-init c = λ fields others are long on. (are, sym (append-nil c.args.into.now.items))

pub next_number-counted-requires : goal.next_number-counted-requires
next_number-counted-requires c =
    let r = c.requires in
    let s = field_step c.args.bytes.now c.fields.place r.0 c.fields.field r.1 (omega (arith, r.3)) (c.fields.invariant r.0 r.1 r.2 r.3 r.4).0 in
    (last_position s.field.one, length (gaps_in s.field.one) ∷ (gaps_in s.field.one ++ later r.0 c.fields.field r.1), s.numbers)

pub put_field_gaps-requires : goal.put_field_gaps-requires
put_field_gaps-requires c =
    let r = c.requires in
    let s = field_step c.args.bytes.now c.fields.place r.0 c.fields.field r.1 (omega (arith, r.3)) (c.fields.invariant r.0 r.1 r.2 r.3 r.4).0 in
    let its = c.next_number-counted.ensures _ _ s.numbers in
    (gaps_of s.field.one, later r.0 c.fields.field r.1, recounted c.args.bytes.now _ s.field.one (later r.0 c.fields.field r.1) its.1, on_there r.0 c.fields.field s.field (omega (arith, r.3)) r.4)

pub returns-in_err-place-clause-front : goal.returns-in_err-place-clause-front
returns-in_err-place-clause-front c =
    let r = c.requires in
    cut_back c.args.into.now.items (parts 0 gaps_of (take c.fields.field r.0)) c.fields.into.items c.put_field_gaps.new.into.items (length c.args.into.now.items) refl (c.fields.invariant r.0 r.1 r.2 r.3 r.4).1 c.put_field_gaps.ensures.front

pub fields-preserved : goal.fields-preserved
fields-preserved c = λ fields others are long on.
    let was = c.fields.invariant fields others are long on in
    let low : c.fields.field < length fields = omega (arith, long) in
    let s = field_step c.args.bytes.now c.fields.place fields c.fields.field others low was.0 in
    let its = c.next_number-counted.ensures _ _ s.numbers in
    let put = c.in_ok-place.ensures.ok (gaps_of s.field.one) (later fields c.fields.field others) (recounted c.args.bytes.now _ s.field.one (later fields c.fields.field others) its.1) (on_there fields c.fields.field s.field low on) in
    (put.1, parts_more gaps_of fields c.fields.field s.field.one c.args.into.now.items c.fields.into.items c.put_field_gaps.new.into.items low s.field.is was.1 put.0)

pub returns-clause-ok : goal.returns-clause-ok
returns-clause-ok c = λ fields others are long on.
    (c.fields.invariant fields others are long on).1 ∙ ap (λ fs. c.args.into.now.items ++ parts 0 gaps_of fs) (take_all c.fields.field fields (omega (arith, long, c.fields-test.false)))

pub returns-clause-front : goal.returns-clause-front
returns-clause-front c =
    let r = c.requires in
    front_kept c.args.into.now.items (parts 0 gaps_of (take c.fields.field r.0)) c.fields.into.items (c.fields.invariant r.0 r.1 r.2 r.3 r.4).1
