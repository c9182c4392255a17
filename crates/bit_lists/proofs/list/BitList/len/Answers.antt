use Rattle.std.proofs.Common.{sym}
use Rattle.bit_lists.proofs.BitsOf.{long}
use Rattle.bit_lists.proofs.list.BitList.len.Goals as goal

pub returns : goal.returns
returns c = sym (long c.args.self.now.bytes.items c.args.self.now.count)
