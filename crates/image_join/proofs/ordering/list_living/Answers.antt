use Rattle.std.proofs.Common.{◌<◌, length, rules}
use Rattle.std.proofs.lemmas.List.{get_or_default}
use Rattle.image_join.specs.steps.Parts.{blank_row, row_at}
use Rattle.image_join.proofs.Livings.{living_more}
use Rattle.image_join.proofs.ordering.list_living.Goals as goal

pub loop-row-preserved : goal.loop-row-preserved
loop-row-preserved g c =
    let part = c.args.part.now in
    let within : c.loop-row.row < length part.rows = search rules in
    living_more c.args.number part.dead part.rows c.loop-row.row (row_at part c.loop-row.row) c.args.order.now.items c.loop-row.order.items c.push_living.new.order.items
    within (get_or_default part.rows c.loop-row.row blank_row (row_at part c.loop-row.row) within) c.loop-row.invariant c.in_ok-push_living.ensures
