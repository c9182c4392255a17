use Rattle.std.proofs.Common.{◌≡◌, ◌<◌, ◌+◌, ◌^◌, ap, sym, subst, ◌∙◌, arith, rules, length, Option}
use Rattle.std.specs.Arc.{arc_value}
use Rattle.doc_types.specs.declared.documents.DocRow.{DocRow}
use Rattle.std.specs.Prelude.{List}
use Rattle.doc_types.specs.Snapshots.{AreLayers, SnapshotValue}
use Rattle.reshape_laws.specs.Rebasing.{rebased}
use Rattle.step_history.specs.History.{Step, last_snapshot}
use Rattle.store_steps.specs.Kept.{IsKept}
use Rattle.store_keep.specs.Installs.{installed}
use Rattle.store_keep.proofs.Reshaping.{has_moved, layer_new, layer_rows, may_follow}
use Rattle.store_keep.proofs.kept.Kept.prepare_end.Goals as goal

pub next_arc-requires-clause-new : goal.next_arc-requires-clause-new
next_arc-requires-clause-new g c = layer_new (g.J.Naming.schema c.args.self.now.line.index) c.args.new.now c.requires.chunk

pub next_arc-requires-clause-moved : goal.next_arc-requires-clause-moved
next_arc-requires-clause-moved g c =
    let line = c.args.self.now.line in
    let now = c.deref-now.result.now in
    let base = g.J.Naming.base line.index in
    let now_is : now ≡ last_snapshot base line.history = c.deref-now.ensures ∙ c.snapshot.ensures in
    let same : now.shape ≡ c.args.new.now.from.shape = ap (λ (s : SnapshotValue). s.shape) now_is ∙ c.requires.same in
    let from_is : c.deref-from.result.now ≡ c.args.new.now.from = c.deref-from.ensures ∙ c.from.ensures in
    let from_layers : AreLayers c.args.new.now.from.layers = subst (λ (s : SnapshotValue). AreLayers s.layers) (c.from-2.view_is ∙ from_is) c.from-2.invariant in
    let now_layers : AreLayers now.layers = subst (λ (s : SnapshotValue). AreLayers s.layers) c.now.view_is c.now.invariant in
    let kept = subst (λ (w : Option Step). IsKept g.D.Disk (g.J.Naming.schema line.index) base line.history w c.args.self.now.disk c.args.self.now.files) c.requires.none c.requires.kept in
    has_moved g.D.Disk (g.J.Naming.schema line.index) base line.history c.args.self.now.disk c.args.self.now.files kept c.requires.rests c.has_place.ensures.good c.args.new.now c.requires.seen c.requires.chunk now now_is same from_layers now_layers

pub returns : goal.returns
returns g c =
    let line = c.args.self.now.line in
    let now = c.deref-now.result.now in
    let base = g.J.Naming.base line.index in
    let schema = g.J.Naming.schema line.index in
    let new = c.args.new.now in
    let now_is : now ≡ last_snapshot base line.history = c.deref-now.ensures ∙ c.snapshot.ensures in
    let same : now.shape ≡ new.from.shape = ap (λ (s : SnapshotValue). s.shape) now_is ∙ c.requires.same in
    let from_is : c.deref-from.result.now ≡ new.from = c.deref-from.ensures ∙ c.from.ensures in
    let from_layers : AreLayers new.from.layers = subst (λ (s : SnapshotValue). AreLayers s.layers) (c.from-2.view_is ∙ from_is) c.from-2.invariant in
    let now_layers : AreLayers now.layers = subst (λ (s : SnapshotValue). AreLayers s.layers) c.now.view_is c.now.invariant in
    let kept = subst (λ (w : Option Step). IsKept g.D.Disk schema base line.history w c.args.self.now.disk c.args.self.now.files) c.requires.none c.requires.kept in
    let place : length line.history + 1 < 2 ^ 63 = search rules in
    let next : arc_value c.in_ok-next.next ≡ rebased new.job new.from.number new.rows now = c.in_ok-next.ensures ∙ ap (λ (rows : List DocRow). rebased new.job new.from.number rows now) (layer_rows schema new c.requires.chunk) in
    let numbers : c.from-2.inside.number ≡ new.from.number = ap (λ (s : SnapshotValue). s.number) (c.from-2.view_is ∙ from_is) in
    let small : c.from-2.inside.number < 2 ^ 63 = search rules in
    record {
      next = next ∙ ap (λ (s : SnapshotValue). rebased new.job new.from.number new.rows s) now_is;
      may = may_follow g.D.Disk schema base line.history c.args.self.now.disk c.args.self.now.files kept c.requires.rests c.has_place.ensures.good new c.requires.seen c.requires.chunk now now_is same from_layers now_layers (installed base line new) (ap (λ (s : SnapshotValue). rebased new.job new.from.number new.rows s) (sym now_is)) place;
      number = omega (arith, numbers, small);
    }
