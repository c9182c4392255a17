use Rattle.std.proofs.Common.{arith, get_or, ◌||◌}
use Rattle.std.proofs.lemmas.Option.{slice_get-get_or}
use Rattle.doc_types.specs.Snapshots.{is_dead}
use Rattle.reshape_laws.specs.Rebasing.{is_old}
use Rattle.reshape.proofs.Numbers.{blank}
use Rattle.reshape.proofs.Numbers.{number_all, number_more}
use Rattle.reshape.proofs.numbering.without_old.Goals as goal

pub loop-row-preserved : goal.loop-row-preserved
loop-row-preserved g c =
    let x = get_or c.args.layer.now.rows c.loop-row.row blank in
    let there = slice_get-get_or c.args.layer.now.rows c.loop-row.row blank (omega (arith, c.loop-row-test.true, c.row_count-count.ensures.count)) in
    record {
      within = omega (arith, c.loop-row-test.true);
      are = number_more (λ e. is_dead c.args.layer.now e.0 || is_old c.args.front e.1) c.args.layer.now.rows c.loop-row.row x c.dies.result c.loop-row.rows.items c.push_where.new.rows.items
          (omega (arith, c.loop-row-test.true, c.row_count-count.ensures.count)) there (c.dies.ensures x there) c.loop-row.invariant.are c.in_ok-push_where.ensures;
    }

pub returns : goal.returns
returns g c =
    number_all (λ e. is_dead c.args.layer.now e.0 || is_old c.args.front e.1) c.args.layer.now.rows c.loop-row.row c.loop-row.rows.items (omega (arith, c.loop-row-test.false, c.row_count-count.ensures.count)) c.loop-row.invariant.are
