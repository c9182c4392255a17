use Rattle.store_keep.proofs.Begun.{finds_then, leaves_then}
use Rattle.store_keep.proofs.opening.find.Goals as goal

pub returns-in-Ok-default-Some-clause-finds : goal.returns-in-Ok-default-Some-clause-finds
returns-in-Ok-default-Some-clause-finds g c = finds_then g.D.Disk c.args.schema.now c.args.disk.now c.read_slots.new.disk c.read_found.new.disk c.read_found.result c.read_slots.ensures.looks c.read_found.ensures.finds

pub returns-in-Ok-default-None-clause-finds : goal.returns-in-Ok-default-None-clause-finds
returns-in-Ok-default-None-clause-finds g c = finds_then g.D.Disk c.args.schema.now c.args.disk.now c.read_slots.new.disk c.begin.new.disk c.begin.result c.read_slots.ensures.looks c.begin.ensures.finds

pub returns-in-Ok-default-None-clause-leaves : goal.returns-in-Ok-default-None-clause-leaves
returns-in-Ok-default-None-clause-leaves g c = leaves_then g.D.Disk c.args.schema.now c.args.disk.now c.read_slots.new.disk c.begin.new.disk c.read_slots.ensures.looks c.begin.ensures.leaves
