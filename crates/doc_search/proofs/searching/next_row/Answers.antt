use Rattle.std.proofs.Common.{subst}
use Rattle.op_eval.specs.Streams.{GoesOn, Stream}
use Rattle.doc_search.proofs.Leading.{goes_past}
use Rattle.doc_search.proofs.searching.next_row.Goals as goal

pub returns : goal.returns
returns g c = λ leaves.
    let next = c.next_passing-from.ensures.next leaves in
    goes_past c.args.asked.now (g.C.Chunk.content c.args.chunk.now) c.args.at c.next_passing-from.result c.args.stream.now c.row.result c.row.new.self c.next_passing-from.new.listed next.0 next.1
    (subst (λ (it : Stream). GoesOn it c.row.result c.row.new.self) c.lead.ensures c.row.ensures.goes)
