use Rattle.std.proofs.Common.{◌≡◌, ◌<◌, ◌==◌, ◌∙◌, ℕ, List, ap, arith, get_or, length, not, refl}
use Rattle.std.specs.List.{list_any}
use Rattle.std.proofs.lemmas.Option.{slice_get-get_or}
use Rattle.doc_types.specs.Chunks.{rows_from}
use Rattle.reshape.specs.steps.Moving.{begins}
use Rattle.reshape.proofs.Merging.{begins_is, from_later}
use Rattle.reshape.proofs.Numbers.{blank, ids_ascend, number_all, number_more}
use Rattle.reshape.proofs.numbering.lost_rows.Goals as goal

pub loop-row-init : goal.loop-row-init
loop-row-init g c = record { within = omega arith; are = c.new-rows.ensures.items; ahead = λ later x le at. refl }

pub loop-row-preserved : goal.loop-row-preserved
loop-row-preserved g c =
    let rows = c.args.layer.now.rows in
    let k = c.loop-row.row in
    let low : k < length rows = omega (arith, c.loop-row-test.true, c.row_count-count.ensures.count) in
    let x = get_or rows k blank in
    let there = slice_get-get_or rows k blank low in
    let its : c.id_at-id.result ≡ x.doc.id = c.id_at-id.ensures x there in
    let from : c.ids_from-rest.result.now ≡ rows_from x.doc.id c.args.ids.now = c.ids_from-rest.ensures ∙ ap (λ (id : ℕ). rows_from id c.loop-row.rest.now) its ∙ c.loop-row.invariant.ahead k x (omega arith) there in
    let test = c.begins_with.ensures ∙ ap (begins c.ids_from-rest.result.now) its ∙ ap (λ (ids : List ℕ). begins ids x.doc.id) from ∙ begins_is x.doc.id c.args.ids.now c.requires in
    record {
      within = omega (arith, c.loop-row-test.true);
      are = number_more (λ e. not (list_any (λ id. id == e.1.doc.id) c.args.ids.now)) rows k x _ c.loop-row.rows.items c.push_where.new.rows.items low there (ap not test) c.loop-row.invariant.are c.in_ok-push_where.ensures;
      ahead = λ later y le at.
          ap (rows_from y.doc.id) (c.ids_from-rest.ensures ∙ ap (λ (id : ℕ). rows_from id c.loop-row.rest.now) its)
          ∙ from_later x.doc.id y.doc.id c.loop-row.rest.now (ids_ascend c.args.layer.now c.row_count-count.ensures.sound k later x y (omega (arith, le)) there at)
          ∙ c.loop-row.invariant.ahead later y (omega (arith, le)) at;
    }

pub returns : goal.returns
returns g c =
    number_all (λ e. not (list_any (λ id. id == e.1.doc.id) c.args.ids.now)) c.args.layer.now.rows c.loop-row.row c.loop-row.rows.items (omega (arith, c.loop-row-test.false, c.row_count-count.ensures.count)) c.loop-row.invariant.are
