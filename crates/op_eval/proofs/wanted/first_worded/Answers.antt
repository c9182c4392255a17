use Rattle.std.proofs.Common.{ap, ◌∙◌, Bor, arith}
use Rattle.query_tree.specs.declared.query.Node.{Node}
use Rattle.op_eval.proofs.NextMatches.{is_first, looks_on, none_left, search_at}
use Rattle.op_eval.proofs.Searches.{few, search_of}
use Rattle.op_eval.proofs.wanted.first_worded.Goals as goal

pub may_match-requires : goal.may_match-requires
may_match-requires g c =
    search_of (g.C.Chunk.belongs c.args.chunk.now) (g.C.Chunk.place c.args.chunk.now) (g.C.Chunk.content c.args.chunk.now) c.in-Some.row c.in-Some.row
    c.rows.search c.next_row.new.self (omega arith) c.in-Some.ensures.root c.in-Some.ensures.search

pub returns-then-may_match-clause-search : goal.returns-then-may_match-clause-search
returns-then-may_match-clause-search g c =
    search_at (g.C.Chunk.belongs c.args.chunk.now) (g.C.Chunk.place c.args.chunk.now) (g.C.Chunk.content c.args.chunk.now) c.in-Some.row c.in-Some.row
    c.next_row.new.self.root.now c.args.search.now.root.now c.may_match.new.self (omega arith)
    (ap (λ (tree : Bor Node). tree.now) c.in-Some.ensures.root ∙ c.rows.invariant.tree) c.may_match.ensures.search

pub returns-then-may_match-clause-first : goal.returns-then-may_match-clause-first
returns-then-may_match-clause-first g c =
    is_first (g.C.Chunk.belongs c.args.chunk.now) (g.C.Chunk.place c.args.chunk.now) (g.C.Chunk.content c.args.chunk.now) c.args.search.now.root.now c.args.dead.now c.rows.gone c.args.from c.rows.at
    c.rows.search c.rows.invariant c.in-Some.row c.in-Some.ensures.first

pub overflow_add-at : goal.overflow_add-at
overflow_add-at g c =
    let limit = few (g.C.Chunk.content c.args.chunk.now) (g.met.C.Chunk.whole c.args.chunk.now) in
    omega (arith, limit, c.in-Some.ensures.first.within)

pub rows-preserved : goal.rows-preserved
rows-preserved g c =
    looks_on (g.C.Chunk.belongs c.args.chunk.now) (g.C.Chunk.place c.args.chunk.now) (g.C.Chunk.content c.args.chunk.now) c.args.search.now.root.now c.args.dead.now c.rows.gone c.args.from c.rows.at
    c.rows.search c.rows.invariant c.next_row.new.gone c.in-Some.row c.next_row.new.self c.may_match.new.self c.in-Some.ensures.first c.in-Some.ensures.gone c.in-Some.ensures.root
    c.may_match.ensures.root c.may_match.ensures.search (c.may_match.ensures.passed c.if-may_match.false)

pub returns-clause-search : goal.returns-clause-search
returns-clause-search g c =
    search_at (g.C.Chunk.belongs c.args.chunk.now) (g.C.Chunk.place c.args.chunk.now) (g.C.Chunk.content c.args.chunk.now) _ _
    c.rows.search.root.now c.args.search.now.root.now c.next_row.new.self (omega arith) c.rows.invariant.tree c.in_default.ensures.search

pub returns-clause-first : goal.returns-clause-first
returns-clause-first g c =
    none_left (g.C.Chunk.belongs c.args.chunk.now) (g.C.Chunk.place c.args.chunk.now) (g.C.Chunk.content c.args.chunk.now) c.args.search.now.root.now c.args.dead.now c.rows.gone c.args.from c.rows.at
    c.rows.search c.rows.invariant c.in_default.ensures.first
