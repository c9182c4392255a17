use Rattle.layer_commit.proofs.Layered.{killed_layers}
use Rattle.layer_commit.proofs.committing.kill_rows.Goals as goal

pub returns : goal.returns
returns g c = killed_layers c.args.cleared c.args.ids.now c.args.layers.now c.in_ok-after.after.items c.in_ok-after.ensures
