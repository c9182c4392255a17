use Rattle.std.proofs.Common.{arith, rules}
use Rattle.posting_codec.specs.Numbers.{number}
use Rattle.posting_codec.proofs.Spellings.{number_of_part, read_short}
use Rattle.posting_reads.proofs.numbers.short_of.Goals as goal

pub returns-then-first-lt128 : goal.returns-then-first-lt128
unfolding number
returns-then-first-lt128 c =
    let its = read_short 4 c.args.bytes.now c.args.at c.from.result (omega arith) (search rules) (omega arith) in
    (its.0, number_of_part c.args.bytes.now c.args.at c.from.result its.0 its.1 (omega arith), its.2)
