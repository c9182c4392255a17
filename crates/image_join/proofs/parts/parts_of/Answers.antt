use Rattle.std.proofs.Common.{◌≡◌, ◌+◌, ◌++◌, ◌∷◌, [], List, length, rules, subst, sym, ap, arith}
use Rattle.doc_types.specs.Snapshots.{living}
use Rattle.image_join.specs.steps.Parts.{AreLaid, PartValue, all_rows, living_of}
use Rattle.image_join.proofs.Laid.{laid_more, rows_more}
use Rattle.image_join.proofs.Ordered.{living_more}
use Rattle.image_join.proofs.parts.parts_of.Goals as goal

pub loop-layer-preserved : goal.loop-layer-preserved
loop-layer-preserved g c =
    let parts = c.loop-layer.parts.items in
    let part = c.in_ok-part.part in
    let put : c.push.new.self.items ≡ parts ++ part ∷ [] = c.in_ok-push.ensures.items in
    let same : living_of part ≡ living c.layer-item.result = search rules in
    let first : part.first ≡ c.loop-layer.first = c.in_ok-part.ensures.first in
    let next : c.in_ok-next.next ≡ c.loop-layer.first + length part.rows = search rules in
    record {
      living = living_more parts part c.args.layers.now c.loop-layer.layer-index c.layer-item.result c.push.new.self.items c.loop-layer-test.true c.layer-item.is same put c.loop-layer.invariant.living;
      laid = subst (AreLaid 0) (sym put) (laid_more 0 parts part c.loop-layer.invariant.laid (omega (arith, first, c.loop-layer.invariant.count)));
      count = omega (arith, next, c.loop-layer.invariant.count, ap (λ (ps : List PartValue). length (all_rows ps)) put, rows_more parts part);
    }
