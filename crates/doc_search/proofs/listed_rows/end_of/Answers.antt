use Rattle.std.proofs.Common.{arith}
use Rattle.std.proofs.lemmas.Option.{slice_get_within}
use Rattle.doc_search.proofs.Bounded.{end_at, end_before}
use Rattle.doc_search.proofs.listed_rows.end_of.Goals as goal

pub returns-in-None : goal.returns-in-None
returns-in-None g c = λ question same k doc behind here.
    absurd (omega (arith, behind, c.rows-rows.ensures, slice_get_within (g.C.Chunk.content c.args.chunk.now) k doc here))

pub returns-then-has_id : goal.returns-then-has_id
returns-then-has_id g c = λ question same.
    end_at question (g.C.Chunk.content c.args.chunk.now) c.args.conditions.now same c.requires c.in-Some.high.now c.first_from-last.result c.in-Some.ensures.high c.first_from-last.ensures
    c.has_id.result (c.has_id.ensures.within c.if-has_id.true) c.has_id.ensures.told c.if-has_id.true

pub returns-else-has_id : goal.returns-else-has_id
returns-else-has_id g c = λ question same.
    end_before question (g.C.Chunk.content c.args.chunk.now) c.args.conditions.now same c.requires c.in-Some.high.now c.first_from-last.result c.in-Some.ensures.high c.first_from-last.ensures
    c.has_id.result c.has_id.ensures.told c.if-has_id.false
