use Rattle.bit_lists.specs.BitLists.{bits_of}
use Rattle.std.proofs.Common.{arith, rules, ◌≡◌, false, ◌+◌, refl}
use Rattle.doc_bytes.specs.Reading.{FieldSpan, is_behind}
use Rattle.image_marks.specs.steps.SpanItems.{stands}
use Rattle.image_marks.proofs.SpanReading.{no_begin, no_end, no_field, no_zone, not_behind}
use Rattle.image_marks.proofs.spans.span_behind.Goals as goal

pub returns-then-field-own : goal.returns-then-field-own
returns-then-field-own c =
    let f = c.in-Some.ensures in
    no_field c.args.own.now (bits_of c.args.taken.now) c.args.bytes.now c.args.at c.args.before c.in-Some.read.0 c.in-Some.read.1 c.in-Some.read.2 c.in-Some.read.3 f.0 f.1 (omega arith)

pub returns-then-zone-gt65535 : goal.returns-then-zone-gt65535
returns-then-zone-gt65535 c =
    let f = c.in-Some.ensures in
    no_zone c.args.own.now (bits_of c.args.taken.now) c.args.bytes.now c.args.at c.args.before c.in-Some.read.0 c.in-Some.read.1 c.in-Some.read.2 c.in-Some.read.3 f.0 f.1 (omega arith)

pub returns-then-not-is_word : goal.returns-then-not-is_word
returns-then-not-is_word c =
    let f = c.in-Some.ensures in
    let not : stands c.args.own.now (bits_of c.args.taken.now) c.in-Some.read.0 c.in-Some.read.2 ≡ false = search rules in
    no_begin c.args.own.now (bits_of c.args.taken.now) c.args.bytes.now c.args.at c.args.before c.in-Some.read.0 c.in-Some.read.1 c.in-Some.read.2 c.in-Some.read.3 f.0 f.1 not

pub returns-then-not-is_word-2 : goal.returns-then-not-is_word-2
returns-then-not-is_word-2 c =
    let f = c.in-Some.ensures in
    let not : stands c.args.own.now (bits_of c.args.taken.now) c.in-Some.read.0 (c.in-Some.read.2 + c.in-Some.read.3) ≡ false = search rules in
    no_end c.args.own.now (bits_of c.args.taken.now) c.args.bytes.now c.args.at c.args.before c.in-Some.read.0 c.in-Some.read.1 c.in-Some.read.2 c.in-Some.read.3 f.0 f.1 not

pub returns-then-not-is_behind : goal.returns-then-not-is_behind
returns-then-not-is_behind c =
    let f = c.in-Some.ensures in
    let made : FieldSpan = (c.in-Some.read.0, record { zone = c.in-Some.read.1; first = c.in-Some.read.2; last = c.in-Some.read.2 + c.in-Some.read.3 }) in
    let not : is_behind c.args.before made ≡ false = search rules in
    not_behind c.args.own.now (bits_of c.args.taken.now) c.args.bytes.now c.args.at c.args.before c.in-Some.read.0 c.in-Some.read.1 c.in-Some.read.2 c.in-Some.read.3 f.0 f.1 made refl not
