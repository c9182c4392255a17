use Rattle.std.proofs.Common.{arith}
use Rattle.posting_codec.proofs.Reading.{hits_spelled}
use Rattle.posting_codec.proofs.hits.read_hits.Goals as goal

pub returns-in-Some-found : goal.returns-in-Some-found
returns-in-Some-found c =
    let count = c.in-Some.ensures in
    let its = rw c.in-Some-found.is at c.in_ok-found-in-Some.ensures in
    let spelled = hits_spelled c.args.bytes.now c.args.at c.in-Some.count c.in-Some.start count.0 c.read_differences.new.into.items its.0 c.in-Some-found.end (omega arith) count.1 count.2 its.1 its.2 in
    (its.0, spelled.0, spelled.1)
