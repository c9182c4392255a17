use Rattle.std.proofs.Common.{◌∷◌, [], ◌+◌, ◌-◌, ◌<◌, arith, length, subst}
use Rattle.std.specs.Prelude.{replicate}
use Rattle.query_write.specs.steps.Writes.{IsPart}
use Rattle.query_write.proofs.Writings.{went, zeros_next}
use Rattle.query_write.proofs.tokens.put_padded.Goals as goal

pub loop-place-preserved : goal.loop-place-preserved
loop-place-preserved c =
    let below : c.loop-place.place < c.args.places = omega (arith, c.loop-place-test.true, c.from-place-end.ensures, c.loop-place.auto.place-end) in
    let before = c.args.out.now.items in
    let mid = c.loop-place.out.items in
    let whole = replicate (c.args.places - length c.as_bytes-digits.result.now) 48 in
    let rest = replicate (c.args.places - (c.loop-place.place + 1)) 48 in
    went before mid c.push.new.self.items whole (48 ∷ []) rest
    (subst (IsPart before mid whole) (zeros_next c.args.places c.loop-place.place below) c.loop-place.invariant)
    c.in_ok-push.ensures.items
