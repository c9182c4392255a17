use Rattle.std.proofs.Common.{◌<◌, length, ◌∙◌, arith}
use Rattle.std.proofs.lemmas.List.{length-set}
use Rattle.prefix_terms.proofs.Merged.{later_more, passed_more}
use Rattle.prefix_terms.proofs.merging.pass.Goals as goal

pub loop-at-preserved : goal.loop-at-preserved
loop-at-preserved g c =
    let i = c.loop-at.at in
    let within : i < length c.loop-at.numbers = omega (arith, c.loop-at-test.true, c.loop-at.invariant.long, c.requires) in
    record {
      long = length-set c.loop-at.numbers i c.behind-next.result ∙ c.loop-at.invariant.long;
      later = later_more c.loop-at.numbers c.args.numbers.now i c.behind-next.result c.loop-at.invariant.later;
      passed = passed_more c.args.word.now c.args.parts.now c.args.numbers.now c.loop-at.numbers i c.behind-next.result c.index-parts-at.result within c.loop-at-test.true c.index-parts-at.is
          (c.loop-at.invariant.later i (omega arith)) c.behind-next.ensures.over c.behind-next.ensures.stays c.loop-at.invariant.passed;
    }

pub returns-clause-passed : goal.returns-clause-passed
returns-clause-passed g c = λ k low. c.loop-at.invariant.passed k (omega (arith, low, c.loop-at-test.false))
