use Rattle.std.proofs.Common.{◌≡◌, ◌∷◌, [], List, length, ap, ◌∙◌, arith, length-append}
use Rattle.image_join.specs.steps.Parts.{PartValue}
use Rattle.image_join.proofs.Taken.{first_more}
use Rattle.image_join.proofs.nexts.nexts_of.Goals as goal

pub loop-part-preserved : goal.loop-part-preserved
loop-part-preserved g c =
    let parts : List PartValue = c.args.parts.now in
    let nexts = c.loop-part.nexts.items in
    record {
      long = omega (arith, ap length c.in_ok-push.ensures.items, length-append nexts (c.first_of.result ∷ []), c.loop-part.invariant.long);
      each = first_more parts nexts c.push.new.self.items c.loop-part.part-index c.first_of.result c.part-item.result c.loop-part-test.true c.part-item.is c.loop-part.invariant.long c.first_of.ensures c.in_ok-push.ensures.items c.loop-part.invariant.each;
    }

pub returns : goal.returns
returns g c =
    let all : c.loop-part.part-index ≡ length c.args.parts.now = omega arith in
    record { long = c.loop-part.invariant.long ∙ all; each = λ k low. c.loop-part.invariant.each k (omega (arith, low, all)) }
