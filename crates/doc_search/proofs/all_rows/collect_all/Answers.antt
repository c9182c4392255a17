use Rattle.std.proofs.Common.{◌≡◌, ◌∙◌, ◌+◌, ◌<◌, ◌≤◌, List, true, false, length, slice_get, ap, sym, subst, arith}
use Rattle.std.specs.List.{list_any}
use Rattle.std.specs.Prelude.{◌==◌}
use Rattle.doc_types.specs.Snapshots.{LayerValue}
use Rattle.doc_types.specs.declared.documents.DocRow.{DocRow}
use Rattle.doc_search.proofs.AllRows.{IsBefore, at_first, at_last, past_dead, past_living, weighs}
use Rattle.doc_search.proofs.all_rows.collect_all.Goals as goal
use Rattle.doc_search.proofs.all_rows.collect_all.Goals.{then-not-is_dead+in_ok-offer, else-not-is_dead}

pub loop-row-init : goal.loop-row-init
loop-row-init g c = at_first g.S.Sink.Took c.args.asked.now c.args.layer.now c.args.sink.now

pub loop-row-preserved : goal.loop-row-preserved
loop-row-preserved g c =
    let docs : g.C.Chunk.content c.deref-chunk.result.now ≡ c.args.layer.now.rows =
    ap g.C.Chunk.content c.deref-chunk.ensures ∙ ap (λ (its : LayerValue). its.rows) c.layer.view_is in
    let dead : c.as_slice-dead.result.now ≡ c.args.layer.now.dead = c.as_slice-dead.ensures ∙ c.deref.ensures ∙ ap (λ (its : LayerValue). its.dead) c.layer.view_is in
    let within : c.loop-row.row < length c.args.layer.now.rows = omega (arith, c.loop-row-test.true, c.rows-row-end.ensures, ap (λ (rows : List DocRow). length rows) docs) in
    elim c.if-not-is_dead.branch [
      | then-not-is_dead+in_ok-offer w ↦
          (let lives : list_any (λ d. d == c.loop-row.row) c.args.layer.now.dead ≡ false =
          ap (list_any (λ d. d == c.loop-row.row)) (sym dead) ∙ sym c.is_dead.ensures ∙ w.if-not-is_dead.true in
          subst (IsBefore g.S.Sink.Took c.args.asked.now c.args.layer.now c.args.sink.now (c.loop-row.row + 1)) (sym w.sink-is)
          (past_living g.S.Sink.Took c.args.asked.now c.args.layer.now c.args.sink.now c.loop-row.row c.loop-row.sink w.offer.new.sink c.requires.all within lives
          (λ first before doc at so. w.in_ok-offer.ensures first before doc (ap (λ rows. slice_get rows c.loop-row.row) docs ∙ at) (weighs c.args.asked.now c.requires.all c.args.layer.now.rows doc c.requires.asked) so)
          c.loop-row.invariant))
      | else-not-is_dead w ↦
          (let gone : list_any (λ d. d == c.loop-row.row) c.args.layer.now.dead ≡ true =
          ap (list_any (λ d. d == c.loop-row.row)) (sym dead) ∙ sym c.is_dead.ensures ∙ w.if-not-is_dead.false in
          subst (IsBefore g.S.Sink.Took c.args.asked.now c.args.layer.now c.args.sink.now (c.loop-row.row + 1)) (sym w.sink-is)
          (past_dead g.S.Sink.Took c.args.asked.now c.args.layer.now c.args.sink.now c.loop-row.row c.loop-row.sink within gone c.loop-row.invariant))
    ]

pub returns : goal.returns
returns g c = λ first before so.
    let docs : g.C.Chunk.content c.deref-chunk.result.now ≡ c.args.layer.now.rows =
    ap g.C.Chunk.content c.deref-chunk.ensures ∙ ap (λ (its : LayerValue). its.rows) c.layer.view_is in
    let past : length c.args.layer.now.rows ≤ c.loop-row.row = omega (arith, c.loop-row-test.false, c.rows-row-end.ensures, ap (λ (rows : List DocRow). length rows) docs) in
    at_last g.S.Sink.Took c.args.asked.now c.args.layer.now c.args.sink.now c.loop-row.row c.loop-row.sink past c.loop-row.invariant first before so
