use Rattle.doc_search.proofs.Passing.{passed}
use Rattle.doc_search.proofs.scanning.next_passing.Goals as goal

pub returns-then-is_none-clause-next : goal.returns-then-is_none-clause-next
returns-then-is_none-clause-next g c = λ leaves.
    passed c.args.asked.now (g.C.Chunk.content c.args.chunk.now) c.args.at c.next-from.result c.first_passing.result c.next-from.new.self (c.next-from.ensures.next c.args.asked.now leaves) c.first_passing.ensures
