use Rattle.std.proofs.Common.{arith}
use Rattle.op_eval.proofs.Searches.{are_occurrences, opened_by, own_search}
use Rattle.op_eval.proofs.calls.occurrences.Goals as goal

pub find-requires-clause-search : goal.find-requires-clause-search
find-requires-clause-search g c =
    own_search (g.C.Chunk.belongs c.args.chunk.now) (g.C.Chunk.place c.args.chunk.now) (g.C.Chunk.content c.args.chunk.now) 0 c.args.row c.in-Some.root
    c.in_ok-search-in-Some.search (omega arith) c.in_ok-search-in-Some.ensures

pub returns-in_ok-find-in-Some-clause-list : goal.returns-in_ok-find-in-Some-clause-list
returns-in_ok-find-in-Some-clause-list g c = λ found here.
    are_occurrences c.args.query.now c.in-Some.root c.in_ok-search-in-Some.search.root.now found c.sort_distinct.new.list.items c.find.new.found.occs.items
    c.in-Some.is c.in_ok-search-in-Some.ensures.root c.sort_distinct.ensures.ascend c.sort_distinct.ensures.same (c.in_ok-find-in-Some.ensures.occs found here)

pub returns-in_err-find-in-Some-clause-count : goal.returns-in_err-find-in-Some-clause-count
returns-in_err-find-in-Some-clause-count g c = λ found here.
    opened_by c.args.query.now c.in-Some.root c.in_ok-search-in-Some.search.root.now found c.args.steps.now c.find.new.steps c.in-Some.is c.in_ok-search-in-Some.ensures.root (c.find.ensures.count found here)

pub returns-in_ok-find-in-Some-clause-count : goal.returns-in_ok-find-in-Some-clause-count
returns-in_ok-find-in-Some-clause-count g c = λ found here.
    opened_by c.args.query.now c.in-Some.root c.in_ok-search-in-Some.search.root.now found c.args.steps.now c.find.new.steps c.in-Some.is c.in_ok-search-in-Some.ensures.root (c.find.ensures.count found here)
