use Rattle.std.proofs.Common.{◌<◌, ◌∙◌, ◌++◌, ℕ, List, ap, arith, get_or, length}
use Rattle.std.proofs.lemmas.Option.{slice_get-get_or}
use Rattle.reshape.specs.steps.Moving.{moves}
use Rattle.reshape.proofs.Numbers.{blank, part_all, part_more}
use Rattle.reshape.proofs.moving.push_rows.Goals as goal

pub loop-row-preserved : goal.loop-row-preserved
loop-row-preserved g c =
    let rows = c.args.layer.now.rows in
    let k = c.loop-row.row in
    let low : k < length rows = omega (arith, c.loop-row-test.true, c.row_count-count.ensures.count) in
    let x = get_or rows k blank in
    let there = slice_get-get_or rows k blank low in
    record {
      within = omega (arith, c.loop-row-test.true);
      are = part_more (λ e. e.1.doc.id) (moves c.args.job c.args.front c.args.layer.now) rows k x c.moves.result c.id_at.result c.args.ids.now.items c.loop-row.ids.items c.push_where.new.ids.items
          low there (c.moves.ensures x there) (c.id_at.ensures x there) c.loop-row.invariant.are c.in_ok-push_where.ensures;
    }

pub returns : goal.returns
returns g c =
    c.loop-row.invariant.are ∙ ap (λ (more : List ℕ). c.args.ids.now.items ++ more) (part_all (λ e. e.1.doc.id) (moves c.args.job c.args.front c.args.layer.now) c.args.layer.now.rows c.loop-row.row (omega (arith, c.loop-row-test.false, c.row_count-count.ensures.count)))
