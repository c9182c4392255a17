use Rattle.std.proofs.Common.{rules, ◌<◌, length, ◌/◌, arith}
use Rattle.posting_codec.proofs.Spellings.{part, onward}
use Rattle.posting_codec.proofs.numbers.+part_at.Goals as goal

pub bounds-bytes-at : goal.bounds-bytes-at
bounds-bytes-at t c = (part c.args.more c.args.bytes.now c.args.at c.requires.part.0 c.requires.part.1 c.requires.part.3.few c.requires.part.3.here).within

pub part_at-high-requires : goal.part_at-high-requires
part_at-high-requires t c =
    let o = onward c.args.more c.args.bytes.now c.args.at c.requires.part.0 c.requires.part.1 c.requires.part.3.few c.requires.part.3.here (omega (arith, c.if-first-lt128.false)) in
    (omega (arith, c.decreases, o.some), (omega (arith, c.requires.few), (c.requires.part.0 / 128, c.requires.part.1, omega (arith, c.requires.part.2), record { few = o.few; here = o.next })))

pub overflow_mul-result : goal.overflow_mul-result
overflow_mul-result t c =
    let o = onward c.args.more c.args.bytes.now c.args.at c.requires.part.0 c.requires.part.1 c.requires.part.3.few c.requires.part.3.here (omega (arith, c.if-first-lt128.false)) in
    let its = c.part_at-high.ensures (c.requires.part.0 / 128) c.requires.part.1 (record { few = o.few; here = o.next }) in
    omega (arith, its.0, c.requires.part.2)

pub overflow_add-result-else-first-lt128 : goal.overflow_add-result-else-first-lt128
overflow_add-result-else-first-lt128 t c =
    let o = onward c.args.more c.args.bytes.now c.args.at c.requires.part.0 c.requires.part.1 c.requires.part.3.few c.requires.part.3.here (omega (arith, c.if-first-lt128.false)) in
    let its = c.part_at-high.ensures (c.requires.part.0 / 128) c.requires.part.1 (record { few = o.few; here = o.next }) in
    omega (arith, its.0, o.whole, c.requires.part.2)

pub returns-then-first-lt128 : goal.returns-then-first-lt128
returns-then-first-lt128 t c = λ n rest is.
    let its = (part c.args.more c.args.bytes.now c.args.at n rest is.few is.here).low (omega (arith, c.if-first-lt128.true)) in
    (omega (arith, its.0), omega (arith, its.1))

pub returns-else-first-lt128 : goal.returns-else-first-lt128
returns-else-first-lt128 t c = λ n rest is.
    let o = onward c.args.more c.args.bytes.now c.args.at n rest is.few is.here (omega (arith, c.if-first-lt128.false)) in
    let its = c.part_at-high.ensures (n / 128) rest (record { few = o.few; here = o.next }) in
    (omega (arith, its.0, o.whole), omega (arith, its.1, o.long))

pub overflow_add-result : goal.overflow_add-result
overflow_add-result t c =
    let w : c.args.at < length c.args.bytes.now = (part c.args.more c.args.bytes.now c.args.at c.requires.part.0 c.requires.part.1 c.requires.part.3.few c.requires.part.3.here).within in
    search rules
