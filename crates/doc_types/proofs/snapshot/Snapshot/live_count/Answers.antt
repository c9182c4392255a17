use Rattle.std.proofs.Common.{◌≡◌, ◌∙◌, ℕ, ap, sym, length, arith, take}
use Rattle.std.specs.List.{sum_by}
use Rattle.std.specs.FinMap as finite
use Rattle.std.proofs.lemmas.List.Sums.{sum_by_more_le}
use Rattle.std.proofs.lemmas.List.Concat.{length-flat_map}
use Rattle.std.proofs.lemmas.List.{take_all}
use Rattle.doc_types.specs.Snapshots.{LayerValue, SnapshotValue, all_living, live, living}
use Rattle.doc_types.proofs.Living.{living_sum}
use Rattle.doc_types.proofs.snapshot.Snapshot.live_count.Goals as goal

abbrev count : LayerValue → ℕ
count layer = length (living layer)

pub returns : goal.returns
returns g c =
    let all : take c.loop-layer.layer-index c.as_slice-layer-items.result.now ≡ c.as_slice-layer-items.result.now = take_all c.loop-layer.layer-index c.as_slice-layer-items.result.now c.loop-layer-test.false in
    c.loop-layer.invariant
    ∙ ap (sum_by count) (all ∙ c.as_slice-layer-items.ensures)
    ∙ sym (living_sum (record { number = c.self.inside.number; shape = c.self.inside.shape; layers = c.self.inside.layers }) c.self.invariant)
    ∙ ap (λ (snapshot : SnapshotValue). finite.len (live snapshot)) c.self.view_is

pub overflow_add-count : goal.overflow_add-count
overflow_add-count g c =
    let more = sum_by_more_le count c.as_slice-layer-items.result.now c.loop-layer.layer-index c.layer-item.result c.loop-layer-test.true in
    let all : sum_by count c.as_slice-layer-items.result.now ≡ length (all_living c.self.inside.layers) = ap (sum_by count) c.as_slice-layer-items.ensures ∙ sym (length-flat_map living c.self.inside.layers) in
    omega (arith, more, all, c.self.invariant.few_rows, c.loop-layer.invariant, c.live_count-count.ensures, ap count c.layer-item.is)
