use Rattle.std.proofs.Common.{◌≡◌, ◌+◌, ◌-◌, ◌/◌, ◌<◌, ◌≤◌, get_or, arith, ◌∙◌}
use Rattle.posting_codec.proofs.Spellings.{read_short, read_long, none_past, next_part, one_part, limit_small}
use Rattle.posting_codec.proofs.numbers.+read_part.Goals as goal

pub returns-in_err-first : goal.returns-in_err-first
returns-in_err-first t c =
    rw c.from_residual.ensures (λ n rest is. none_past c.args.more c.args.bytes.now c.args.at n rest c.in_err-first.ensures.lookup.3 is)

pub returns-then-first-lt128 : goal.returns-then-first-lt128
returns-then-first-lt128 t c =
    let lookup = c.in_ok-first.ensures.lookup.3 in
    read_short c.args.more c.args.bytes.now c.args.at c.from.result lookup.0 (c.from.ensures ∙ lookup.1 0) (omega arith)

pub returns-in_err-high : goal.returns-in_err-high
returns-in_err-high t c =
    let lookup = c.in_ok-first.ensures.lookup.3 in
    let high : 128 ≤ get_or c.args.bytes.now c.args.at 0 = omega (arith, lookup.1 0) in
    rw c.from_residual-in_err-high.ensures (λ n rest is. c.in_err-high.ensures (n / 128) rest (next_part c.args.more c.args.bytes.now c.args.at n rest is high).2)

pub returns-then-high-eq0 : goal.returns-then-high-eq0
returns-then-high-eq0 t c =
    let lookup = c.in_ok-first.ensures.lookup.3 in
    let high : 128 ≤ get_or c.args.bytes.now c.args.at 0 = omega (arith, lookup.1 0) in
    let its = c.in_ok-high.ensures in
    λ n rest is.
    let next = next_part c.args.more c.args.bytes.now c.args.at n rest is high in
    let same : n / 128 ≡ c.in_ok-high.high = one_part (c.args.more - 1) c.args.bytes.now (c.args.at + 1) (n / 128) c.in_ok-high.high rest its.0 next.2 its.1 in
    absurd (omega (arith, same, next.1))

pub overflow_mul-result : goal.overflow_mul-result
overflow_mul-result t c =
    let its = c.in_ok-high.ensures in
    omega (arith, limit_small (c.args.more - 1) (omega arith), its.1.few)

pub overflow_add-result-2 : goal.overflow_add-result-2
overflow_add-result-2 t c =
    let its = c.in_ok-high.ensures in
    let lookup = c.in_ok-first.ensures.lookup.3 in
    omega (arith, limit_small (c.args.more - 1) (omega arith), its.1.few, c.type_inv.bytes c.args.at, lookup.1 0)

pub returns : goal.returns
returns t c =
    let lookup = c.in_ok-first.ensures.lookup.3 in
    let its = c.in_ok-high.ensures in
    let byte : c.in_ok-first.field-0.now < 256 = omega (arith, c.type_inv.bytes c.args.at, lookup.1 0) in
    let read = read_long c.args.more (c.args.more - 1) c.args.bytes.now c.args.at c.in_ok-first.field-0.now c.in_ok-high.high c.in_ok-high.end its.0 (omega arith) lookup.0 (lookup.1 0) (omega arith) byte (omega arith) its.1 its.2 in
    rw c.from-2.ensures (its.0, read.0, read.1)
