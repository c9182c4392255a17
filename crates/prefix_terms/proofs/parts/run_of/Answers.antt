use Rattle.std.proofs.Common.{arith}
use Rattle.prefix_terms.proofs.Runs.{run_is, run_order}
use Rattle.prefix_terms.proofs.parts.run_of.Goals as goal

pub overflow_sub-result : goal.overflow_sub-result
overflow_sub-result g c =
    run_order (g.C.Chunk.words_of c.args.chunk.now) c.args.beginning.now c.front-first.result c.front-end.result c.front-first.ensures.within c.front-first.ensures.split c.front-end.ensures.split

pub returns : goal.returns
returns g c =
    let order = run_order (g.C.Chunk.words_of c.args.chunk.now) c.args.beginning.now c.front-first.result c.front-end.result c.front-first.ensures.within c.front-first.ensures.split c.front-end.ensures.split in
    run_is (g.C.Chunk.content c.args.chunk.now) (g.C.Chunk.words_of c.args.chunk.now) c.args.beginning.now c.front-first.result c.front-end.result _ (g.met.C.Chunk.all_words c.args.chunk.now) c.front-end.ensures.within (omega (arith, order)) c.front-first.ensures.split c.front-end.ensures.split c.front-end.ensures.few
