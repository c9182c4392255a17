use Rattle.std.proofs.Common.{◌≡◌, List, ◌∙◌, reverse, take, subst, sym, arith}
use Rattle.std.proofs.lemmas.Grind.{common_steps}
use Rattle.std.proofs.lemmas.List.{take_min}
use Rattle.chunk_store.specs.Images.{Image}
use Rattle.chunk_store.specs.Memory.{image_of, outcome, AreFitting, MayLeave}
use Rattle.chunk_store.specs.declared.call.Call.{Call}
use Rattle.chunk_store.proofs.Outcomes.{fitting_front, outcome_may, same_image}
use Rattle.chunk_store.proofs.memory_disk.MemoryDisk.after_crash.Goals as goal

pub left_by-requires : goal.left_by-requires
left_by-requires c =
    let start = image_of c.args.self.now.start in
    fitting_front start c.deref.result.now c.min-count.result (subst (λ (l : List Call). AreFitting start (reverse l)) (sym c.deref.ensures.value) c.args.self.now.fitting)

pub returns-clause-may : goal.returns-clause-may
returns-clause-may c =
    let start = image_of c.args.self.now.start in
    let calls = c.args.self.now.calls.items in
    let front = reverse (take c.min-count.result c.deref.result.now) in
    let same : take c.min-count.result c.deref.result.now ≡ take c.args.calls calls = grind (arith, common_steps, take_min) in
    let image : image_of c.in_ok-files.files ≡ outcome c.args.pick start front = same_image (image_of c.in_ok-files.files) (outcome c.args.pick start front) (λ f. c.in_ok-files.ensures f ∙ c.in_ok-start.ensures f) in
    let fitting : AreFitting start front = fitting_front start c.deref.result.now c.min-count.result (subst (λ (l : List Call). AreFitting start (reverse l)) (sym c.deref.ensures.value) c.args.self.now.fitting) in
    let left : MayLeave start front (image_of c.in_ok-files.files) = subst (λ (i : Image). MayLeave start front i) (sym image) (outcome_may c.args.pick start front fitting) in
    subst (λ (l : List Call). MayLeave start (reverse l) (image_of c.in_ok-files.files)) same left
