use Rattle.std.proofs.Common.{List, ◌+◌, ◌∷◌, reverse, take, subst, sym}
use Rattle.chunk_store.specs.Images.{Image}
use Rattle.chunk_store.specs.Memory.{image_of, replayed, outcome, AreFitting, IsWithin}
use Rattle.chunk_store.specs.declared.call.Call.{Call}
use Rattle.chunk_store.proofs.Outcomes.{fitting_front, one_more, is_within, is_within_left, same_image}
use Rattle.chunk_store.proofs.crash.left_by.Goals as goal

pub leave-requires : goal.leave-requires
leave-requires c = λ some.
    let start = image_of c.args.start.now in
    let call = c.call-item.result in
    let before = reverse (take c.loop-call.call-index c.args.calls.now) in
    let fitting : AreFitting start (call ∷ before) = subst (λ (l : List Call). AreFitting start l) (one_more c.args.calls.now c.loop-call.call-index call c.loop-call-test.true c.call-item.is) (fitting_front start c.args.calls.now (c.loop-call.call-index + 1) c.requires) in
    subst (λ (i : Image). IsWithin i call) (sym (same_image (image_of c.loop-call.left) (outcome c.args.pick start before) c.loop-call.invariant.left)) (is_within_left c.args.pick some start call before fitting)

pub repeat-requires : goal.repeat-requires
repeat-requires c =
    let start = image_of c.args.start.now in
    let call = c.call-item.result in
    let before = reverse (take c.loop-call.call-index c.args.calls.now) in
    let fitting : AreFitting start (call ∷ before) = subst (λ (l : List Call). AreFitting start l) (one_more c.args.calls.now c.loop-call.call-index call c.loop-call-test.true c.call-item.is) (fitting_front start c.args.calls.now (c.loop-call.call-index + 1) c.requires) in
    subst (λ (i : Image). IsWithin i call) (sym (same_image (image_of c.loop-call.now) (replayed start before) c.loop-call.invariant.now)) (is_within start call before fitting)
