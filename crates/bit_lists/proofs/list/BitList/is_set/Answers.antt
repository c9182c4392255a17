use Rattle.std.proofs.Common.{arith, rules, ◌<◌}
use Rattle.bit_lists.proofs.BitsOf.{at, long}
use Rattle.bit_lists.proofs.list.BitList.is_set.Goals as goal

pub is_bit_set-requires : goal.is_bit_set-requires
is_bit_set-requires c = omega (arith, c.requires, long c.args.self.now.bytes.items c.args.self.now.count, c.args.self.now.room, c.as_slice.ensures.len)

pub returns : goal.returns
returns c =
    let low : c.args.at < c.args.self.now.count = omega (arith, c.requires, long c.args.self.now.bytes.items c.args.self.now.count) in
    search (rules, at c.args.self.now.bytes.items c.args.self.now.count c.args.at low)
