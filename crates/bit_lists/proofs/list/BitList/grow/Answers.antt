use Rattle.std.proofs.Common.{arith}
use Rattle.bit_lists.proofs.BitsOf.{grown, long}
use Rattle.bit_lists.proofs.list.BitList.grow.Goals as goal

pub overflow_add-count : goal.overflow_add-count
overflow_add-count c = omega (arith, c.requires, long c.args.self.now.bytes.items c.args.self.now.count)

pub widen-requires : goal.widen-requires
widen-requires c = omega (arith, c.requires, long c.args.self.now.bytes.items c.args.self.now.count)

pub returns : goal.returns
returns c = grown c.args.self.now.bytes.items c.widen.new.bytes.items c.args.self.now.count c.args.more c.widen.ensures.same c.args.self.now.clear
