use Rattle.std.proofs.Common.{◌≡◌, ◌≢◌, ap, sym, ◌∙◌, arith}
use Rattle.doc_types.specs.Snapshots.{SnapshotValue}
use Rattle.step_history.specs.History.{last_snapshot}
use Rattle.store_keep.proofs.Reshaping.{shape_risen}
use Rattle.store_keep.proofs.kept.Kept.refusal.Goals as goal

pub returns-then-shape-from : goal.returns-then-shape-from
returns-then-shape-from g c =
    let line = c.args.self.now.line in
    let now = c.deref-now.result.now in
    let now_is : now ≡ last_snapshot (g.J.Naming.base line.index) line.history = c.deref-now.ensures ∙ c.snapshot.ensures in
    let from_is : c.deref-from.result.now ≡ c.args.new.now.from = c.deref-from.ensures ∙ c.from.ensures in
    let shape : c.now.inside.shape ≡ now.shape = ap (λ (s : SnapshotValue). s.shape) c.now.view_is in
    let from_shape : c.from-2.inside.shape ≡ c.args.new.now.from.shape = ap (λ (s : SnapshotValue). s.shape) c.from-2.view_is ∙ ap (λ (s : SnapshotValue). s.shape) from_is in
    let other : now.shape ≢ c.args.new.now.from.shape = λ e. c.if-shape-from.true (shape ∙ e ∙ sym from_shape) in
    let risen = shape_risen (g.J.Naming.schema line.index) (g.J.Naming.base line.index) line.history c.args.new.now.from now c.note-note.ensures.line.good c.requires.seen now_is other in
    (shape ∙ ap (λ (s : SnapshotValue). s.shape) now_is, omega (arith, shape, risen), c.note-note.ensures.note)
