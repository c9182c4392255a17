use Rattle.std.proofs.Common.{◌≡◌, ◌∙◌, ◌<◌, ℕ, List, IfSome, Some, ap, arith, length, slice_get, subst, sym}
use Rattle.std.specs.List.{AllZip}
use Rattle.std.specs.Prelude.{AllPairs}
use Rattle.doc_types.specs.declared.documents.DocRow.{DocRow}
use Rattle.doc_types.specs.Snapshots.{IsLayer, LayerValue, living}
use Rattle.op_eval.specs.Streams.{Stream, matching_from}
use Rattle.doc_search.specs.declared.question.Question.{Question}
use Rattle.doc_search.specs.steps.Gathering.{IsAskedOfDocs, IsOnWay, WeighNoMore}
use Rattle.doc_search.specs.steps.ListedRows.{Leaves}
use Rattle.doc_search.specs.steps.Windows.{standing}
use Rattle.doc_search.proofs.Gathering.{on_way_first}
use Rattle.doc_search.proofs.LayerRest.{led_counted}
use Rattle.doc_search.proofs.Leading.{led_last}
use Rattle.doc_search.proofs.ManyRows.{led_carried, led_there, stopped_as}
use Rattle.doc_search.specs.steps.Lacking.{LacksSome}
use Rattle.doc_search.proofs.searching.collect_layer.Goals as goal

pub rows-init : goal.rows-init
rows-init g c =
    let docs : g.C.Chunk.content c.over-counted.result.chunk.now ≡ c.args.layer.now.rows =
    ap g.C.Chunk.content (c.over-counted.ensures ∙ c.deref-chunk.ensures) ∙ ap (λ (its : LayerValue). its.rows) c.layer.view_is in
    let dead : c.as_slice-dead.result.now ≡ c.args.layer.now.dead = c.as_slice-dead.ensures ∙ c.deref.ensures ∙ ap (λ (its : LayerValue). its.dead) c.layer.view_is in
    record {
      led = record {
        way = on_way_first g.S.Sink.Took c.args.asked.now c.args.layer.now (g.C.Chunk.content c.over-counted.result.chunk.now) c.as_slice-dead.result.now c.in_ok-stream.stream c.args.sink.now docs dead
            (c.in_ok-stream.ensures ∙ ap (λ (its : Question). record { query = its.query; rows = g.C.Chunk.content c.over-counted.result.chunk.now; dead = c.as_slice-dead.result.now; at = 0 }) c.asked.view_is);
        stands = ap (λ (it : Stream). it.at) c.in_ok-stream.ensures;
        within = omega arith;
        leaves = subst (λ (rows : List DocRow). Leaves c.args.asked.now rows 0 c.over-listed.result) docs
            (c.over-listed.ensures c.args.asked.now (c.asked.invariant.0 ∙ ap (λ (its : Question). its.filters) c.asked.view_is));
      };
      most = c.most_of_all-most.ensures c.args.layer.now.rows c.requires;
    }

pub next_row-requires-clause-docs : goal.next_row-requires-clause-docs
next_row-requires-clause-docs g c =
    let docs : g.C.Chunk.content c.over-counted.result.chunk.now ≡ c.args.layer.now.rows =
    ap g.C.Chunk.content (c.over-counted.ensures ∙ c.deref-chunk.ensures) ∙ ap (λ (its : LayerValue). its.rows) c.layer.view_is in
    c.rows.invariant.led.way.docs ∙ sym docs

pub next_row-requires-clause-within : goal.next_row-requires-clause-within
next_row-requires-clause-within g c =
    let docs : g.C.Chunk.content c.over-counted.result.chunk.now ≡ c.args.layer.now.rows =
    ap g.C.Chunk.content (c.over-counted.ensures ∙ c.deref-chunk.ensures) ∙ ap (λ (its : LayerValue). its.rows) c.layer.view_is in
    omega (arith, c.rows.invariant.led.within, ap (λ (rows : List DocRow). length rows) docs)

pub next_row-requires-clause-asked : goal.next_row-requires-clause-asked
next_row-requires-clause-asked g c =
    let docs : g.C.Chunk.content c.over-counted.result.chunk.now ≡ c.args.layer.now.rows =
    ap g.C.Chunk.content (c.over-counted.ensures ∙ c.deref-chunk.ensures) ∙ ap (λ (its : LayerValue). its.rows) c.layer.view_is in
    subst (λ (rows : List DocRow). IsAskedOfDocs c.args.asked.now rows) (sym docs) c.requires

pub next_row-requires-clause-rows : goal.next_row-requires-clause-rows
next_row-requires-clause-rows g c =
    let docs : g.C.Chunk.content c.over-counted.result.chunk.now ≡ c.args.layer.now.rows =
    ap g.C.Chunk.content (c.over-counted.ensures ∙ c.deref-chunk.ensures) ∙ ap (λ (its : LayerValue). its.rows) c.layer.view_is in
    subst (λ (rows : List DocRow). AllPairs (λ row later. row.doc.id < later.doc.id) rows) (sym docs) c.requires.rows.ids

pub count_rest-requires-clause-ascend : goal.count_rest-requires-clause-ascend
count_rest-requires-clause-ascend g c =
    let dead : c.as_slice-dead.result.now ≡ c.args.layer.now.dead = c.as_slice-dead.ensures ∙ c.deref.ensures ∙ ap (λ (its : LayerValue). its.dead) c.layer.view_is in
    let is : IsLayer c.args.layer.now = subst IsLayer c.layer.view_is c.layer.invariant in
    subst (λ (gone : List ℕ). AllPairs (λ row later. row < later) gone) (sym dead) is.ascend

pub collect_some-requires-clause-ascend : goal.collect_some-requires-clause-ascend
collect_some-requires-clause-ascend g c =
    let dead : c.as_slice-dead.result.now ≡ c.args.layer.now.dead = c.as_slice-dead.ensures ∙ c.deref.ensures ∙ ap (λ (its : LayerValue). its.dead) c.layer.view_is in
    let is : IsLayer c.args.layer.now = subst IsLayer c.layer.view_is c.layer.invariant in
    subst (λ (gone : List ℕ). AllPairs (λ row later. row < later) gone) (sym dead) is.ascend

pub collect_some-requires-clause-number : goal.collect_some-requires-clause-number
collect_some-requires-clause-number g c =
    let docs : g.C.Chunk.content c.over-counted.result.chunk.now ≡ c.args.layer.now.rows =
    ap g.C.Chunk.content (c.over-counted.ensures ∙ c.deref-chunk.ensures) ∙ ap (λ (its : LayerValue). its.rows) c.layer.view_is in
    let dead : c.as_slice-dead.result.now ≡ c.args.layer.now.dead = c.as_slice-dead.ensures ∙ c.deref.ensures ∙ ap (λ (its : LayerValue). its.dead) c.layer.view_is in
    let there = led_there g.S.Sink.Took c.args.asked.now c.args.layer.now (g.C.Chunk.content c.over-counted.result.chunk.now) docs c.as_slice-dead.result.now dead c.args.sink.now c.rows.sink c.rows.at c.in-Some.number c.rows.stream c.next_row.new.stream c.rows.listed c.next_row.new.listed
    c.rows.invariant.led c.in-Some.ensures in
    there.within

pub collect_some-requires-clause-lives : goal.collect_some-requires-clause-lives
collect_some-requires-clause-lives g c =
    let docs : g.C.Chunk.content c.over-counted.result.chunk.now ≡ c.args.layer.now.rows =
    ap g.C.Chunk.content (c.over-counted.ensures ∙ c.deref-chunk.ensures) ∙ ap (λ (its : LayerValue). its.rows) c.layer.view_is in
    let dead : c.as_slice-dead.result.now ≡ c.args.layer.now.dead = c.as_slice-dead.ensures ∙ c.deref.ensures ∙ ap (λ (its : LayerValue). its.dead) c.layer.view_is in
    let there = led_there g.S.Sink.Took c.args.asked.now c.args.layer.now (g.C.Chunk.content c.over-counted.result.chunk.now) docs c.as_slice-dead.result.now dead c.args.sink.now c.rows.sink c.rows.at c.in-Some.number c.rows.stream c.next_row.new.stream c.rows.listed c.next_row.new.listed
    c.rows.invariant.led c.in-Some.ensures in
    there.lives

pub collect_some-requires-clause-stands : goal.collect_some-requires-clause-stands
collect_some-requires-clause-stands g c =
    let docs : g.C.Chunk.content c.over-counted.result.chunk.now ≡ c.args.layer.now.rows =
    ap g.C.Chunk.content (c.over-counted.ensures ∙ c.deref-chunk.ensures) ∙ ap (λ (its : LayerValue). its.rows) c.layer.view_is in
    let dead : c.as_slice-dead.result.now ≡ c.args.layer.now.dead = c.as_slice-dead.ensures ∙ c.deref.ensures ∙ ap (λ (its : LayerValue). its.dead) c.layer.view_is in
    let there = led_there g.S.Sink.Took c.args.asked.now c.args.layer.now (g.C.Chunk.content c.over-counted.result.chunk.now) docs c.as_slice-dead.result.now dead c.args.sink.now c.rows.sink c.rows.at c.in-Some.number c.rows.stream c.next_row.new.stream c.rows.listed c.next_row.new.listed
    c.rows.invariant.led c.in-Some.ensures in
    there.stands

pub rows-preserved : goal.rows-preserved
rows-preserved g c =
    let docs : g.C.Chunk.content c.over-counted.result.chunk.now ≡ c.args.layer.now.rows =
    ap g.C.Chunk.content (c.over-counted.ensures ∙ c.deref-chunk.ensures) ∙ ap (λ (its : LayerValue). its.rows) c.layer.view_is in
    let dead : c.as_slice-dead.result.now ≡ c.args.layer.now.dead = c.as_slice-dead.ensures ∙ c.deref.ensures ∙ ap (λ (its : LayerValue). its.dead) c.layer.view_is in
    let there = led_there g.S.Sink.Took c.args.asked.now c.args.layer.now (g.C.Chunk.content c.over-counted.result.chunk.now) docs c.as_slice-dead.result.now dead c.args.sink.now c.rows.sink c.rows.at c.in-Some.number c.rows.stream c.next_row.new.stream c.rows.listed c.next_row.new.listed
    c.rows.invariant.led c.in-Some.ensures in
    let kept = c.in_ok-done.ensures.kept c.if-done.false in
    record {
      led = led_carried g.S.Sink.Took c.args.asked.now c.args.layer.now (g.C.Chunk.content c.over-counted.result.chunk.now) docs c.as_slice-dead.result.now dead c.args.sink.now c.rows.sink c.in-Some.number c.in_ok-at.at c.next_row.new.stream c.collect_some.new.stream c.next_row.new.listed c.collect_some.new.sink
          there c.in_ok-at.ensures.within.0 c.in_ok-at.ensures.within.1 c.in_ok-at.ensures.stands
          (λ layer start way. c.in_ok-at.ensures.carries layer start (subst (IsOnWay g.S.Sink.Took c.args.asked.now layer start (standing c.args.asked.now (g.C.Chunk.content c.over-counted.result.chunk.now) c.as_slice-dead.result.now c.in-Some.number)) (sym kept) way));
      most = subst (λ (rows : List DocRow). IfSome c.count_rest.new.most (WeighNoMore c.args.asked.now rows)) docs c.in_ok-done.ensures.most;
    }

pub returns-clause-gathers : goal.returns-clause-gathers
returns-clause-gathers g c =
    let docs : g.C.Chunk.content c.over-counted.result.chunk.now ≡ c.args.layer.now.rows =
    ap g.C.Chunk.content (c.over-counted.ensures ∙ c.deref-chunk.ensures) ∙ ap (λ (its : LayerValue). its.rows) c.layer.view_is in
    led_last g.S.Sink.Took c.args.asked.now c.args.layer.now (g.C.Chunk.content c.over-counted.result.chunk.now) docs c.args.sink.now c.rows.sink c.rows.at c.rows.stream c.next_row.new.stream c.rows.listed c.next_row.new.listed
    c.rows.invariant.led c.in_default.ensures

pub returns-in_err-at-clause-lacks : goal.returns-in_err-at-clause-lacks
returns-in_err-at-clause-lacks g c =
    let docs : g.C.Chunk.content c.over-counted.result.chunk.now ≡ c.args.layer.now.rows =
    ap g.C.Chunk.content (c.over-counted.ensures ∙ c.deref-chunk.ensures) ∙ ap (λ (its : LayerValue). its.rows) c.layer.view_is in
    let dead : c.as_slice-dead.result.now ≡ c.args.layer.now.dead = c.as_slice-dead.ensures ∙ c.deref.ensures ∙ ap (λ (its : LayerValue). its.dead) c.layer.view_is in
    let there = led_there g.S.Sink.Took c.args.asked.now c.args.layer.now (g.C.Chunk.content c.over-counted.result.chunk.now) docs c.as_slice-dead.result.now dead c.args.sink.now c.rows.sink c.rows.at c.in-Some.number c.rows.stream c.next_row.new.stream c.rows.listed c.next_row.new.listed
    c.rows.invariant.led c.in-Some.ensures in
    let kept = c.in_ok-done.ensures.kept c.if-done.false in
    stopped_as (Unit {0}) ℕ (LacksSome c.args.asked.now (living c.args.layer.now)) c.in_err-at.field-0.0 c.from_residual-in_err-at.result c.from_residual-in_err-at.ensures.1
    (c.in_err-at.ensures.lacks c.args.layer.now c.args.sink.now (g.met.S.Sink.nothing c.args.sink.now)
    (subst (IsOnWay g.S.Sink.Took c.args.asked.now c.args.layer.now c.args.sink.now (standing c.args.asked.now (g.C.Chunk.content c.over-counted.result.chunk.now) c.as_slice-dead.result.now c.in-Some.number)) (sym kept) there.way))

pub returns-then-done-clause-gathers : goal.returns-then-done-clause-gathers
returns-then-done-clause-gathers g c =
    let docs : g.C.Chunk.content c.over-counted.result.chunk.now ≡ c.args.layer.now.rows =
    ap g.C.Chunk.content (c.over-counted.ensures ∙ c.deref-chunk.ensures) ∙ ap (λ (its : LayerValue). its.rows) c.layer.view_is in
    let dead : c.as_slice-dead.result.now ≡ c.args.layer.now.dead = c.as_slice-dead.ensures ∙ c.deref.ensures ∙ ap (λ (its : LayerValue). its.dead) c.layer.view_is in
    let rows = g.C.Chunk.content c.over-counted.result.chunk.now in
    led_counted g.S.Sink.Took c.args.asked.now c.args.layer.now rows docs c.args.sink.now c.rows.sink c.count_rest.new.sink c.rows.at c.in-Some.number c.rows.stream c.next_row.new.stream c.rows.listed c.next_row.new.listed
    c.rows.invariant.led c.in-Some.ensures
    (λ first before left zip fit so.
    c.in_ok-done.ensures.counted first before left
    (subst (λ (gone : List ℕ). AllZip (λ n doc. slice_get rows n ≡ Some doc) (matching_from c.in-Some.number c.args.asked.now.query rows gone) left) (sym dead) zip) fit so c.if-done.true)
