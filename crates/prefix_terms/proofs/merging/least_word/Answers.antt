use Rattle.std.proofs.Common.{ℕ, List, Option, arith}
use Rattle.std.specs.Borrow.{Bor}
use Rattle.std.specs.Option.{option_map}
use Rattle.prefix_terms.proofs.Merged.{least_all, least_more}
use Rattle.prefix_terms.proofs.merging.least_word.Goals as goal

-- the word that a borrowed one is
abbrev value : Option (Bor (List ℕ)) → Option (List ℕ)
value word = option_map (λ (lent : Bor (List ℕ)). lent.now) word

pub loop-at-preserved : goal.loop-at-preserved
loop-at-preserved g c =
    least_more c.args.parts.now c.args.numbers.now c.loop-at.at c.index-parts-at.result (value c.loop-at.least) (value c.word.result) (value c.lesser-least.result)
    c.loop-at-test.true c.index-parts-at.is c.word.ensures.word c.lesser-least.ensures c.loop-at.invariant

pub returns : goal.returns
returns g c = least_all c.args.parts.now c.args.numbers.now c.loop-at.at _ (value c.loop-at.least) (omega arith) c.loop-at.invariant
