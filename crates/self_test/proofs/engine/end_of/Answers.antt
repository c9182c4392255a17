use Rattle.std.proofs.Common.{refl}
use Rattle.self_test.proofs.Engines.{one_last}
use Rattle.self_test.proofs.engine.end_of.Goals as goal

pub returns : goal.returns
returns g c = (
  c.take_last-disk.result,
  one_last c.args.ended.items c.take_last-disk.new.self.items c.take_last-disk.result c.take_last-disk.ensures.items c.requires,
  refl,
)
