use Rattle.std.proofs.Common.{arith, ap, ◌++◌, ◌∙◌, Bor}
use Rattle.query_tree.specs.declared.query.Node.{Node}
use Rattle.op_eval.specs.steps.Wanted.{is_wanted, numbers_from}
use Rattle.op_eval.proofs.Debt.{row_due_of}
use Rattle.op_eval.proofs.Searches.{few, own_search, search_of, visited_all, visited_next}
use Rattle.op_eval.proofs.calls.wanted.Goals as goal

pub rows-init : goal.rows-init
rows-init g c = (
  record {
    within = omega arith;
    tree = c.in_ok-search.ensures.root;
    behind = record { within = omega arith; before = λ k d h. absurd (omega (arith, h)) };
    at = own_search (g.C.Chunk.belongs c.args.chunk.now) (g.C.Chunk.place c.args.chunk.now) (g.C.Chunk.content c.args.chunk.now) 0 0 c.args.root.now c.in_ok-search.search (omega arith) c.in_ok-search.ensures;
    all = ap (λ ns. ns ++ numbers_from (is_wanted c.args.root.now c.args.dead.now) 0 (g.C.Chunk.content c.args.chunk.now)) c.new-found.ensures.items;
  },
  omega arith,
)

pub put_matching-requires-clause-search : goal.put_matching-requires-clause-search
put_matching-requires-clause-search g c =
    search_of (g.C.Chunk.belongs c.args.chunk.now) (g.C.Chunk.place c.args.chunk.now) (g.C.Chunk.content c.args.chunk.now) c.in-Some.row c.in-Some.row
    c.rows.search c.next_row.new.self (omega arith) c.in-Some.ensures.root c.in-Some.ensures.search

pub overflow_add-from : goal.overflow_add-from
overflow_add-from g c =
    let limit = few (g.C.Chunk.content c.args.chunk.now) (g.met.C.Chunk.whole c.args.chunk.now) in
    omega (arith, limit, c.in-Some.ensures.first.within)

pub rows-preserved : goal.rows-preserved
rows-preserved g c =
    let first = c.in-Some.ensures.first in
    let its = ap (λ (tree : Bor Node). tree.now) c.in-Some.ensures.root ∙ c.rows.invariant.0.tree in (
      visited_next (g.C.Chunk.belongs c.args.chunk.now) (g.C.Chunk.place c.args.chunk.now) (g.C.Chunk.content c.args.chunk.now) c.args.root.now c.args.dead.now c.rows.gone c.next_row.new.gone c.rows.from c.in-Some.row
          c.rows.search c.next_row.new.self c.put_matching.new.search c.rows.found.items c.put_matching.new.found.items
          c.rows.invariant.0 first c.in-Some.ensures.gone c.in-Some.ensures.root
          c.in_ok-put_matching.ensures.root c.in_ok-put_matching.ensures.search c.in_ok-put_matching.ensures.found,
      omega (arith, c.rows.invariant.1, row_due_of c.args.root.now c.next_row.new.self.root.now (g.C.Chunk.content c.args.chunk.now) c.rows.from c.in-Some.row c.rows.steps c.put_matching.new.steps its first.on first.within c.in_ok-put_matching.ensures.count),
    )

pub returns-in_err-put_matching-clause-debt : goal.returns-in_err-put_matching-clause-debt
returns-in_err-put_matching-clause-debt g c =
    let first = c.in-Some.ensures.first in
    let its = ap (λ (tree : Bor Node). tree.now) c.in-Some.ensures.root ∙ c.rows.invariant.0.tree in
    omega (arith, c.rows.invariant.1, row_due_of c.args.root.now c.next_row.new.self.root.now (g.C.Chunk.content c.args.chunk.now) c.rows.from c.in-Some.row c.rows.steps c.put_matching.new.steps its first.on first.within c.put_matching.ensures.count)

pub returns-clause-rows : goal.returns-clause-rows
returns-clause-rows g c =
    visited_all (g.C.Chunk.belongs c.args.chunk.now) (g.C.Chunk.place c.args.chunk.now) (g.C.Chunk.content c.args.chunk.now) c.args.root.now c.args.dead.now c.rows.gone c.rows.from c.rows.search c.rows.found.items
    c.rows.invariant.0 c.in_default.ensures.first

pub returns-clause-debt : goal.returns-clause-debt
returns-clause-debt g c = omega (arith, c.rows.invariant.1)
