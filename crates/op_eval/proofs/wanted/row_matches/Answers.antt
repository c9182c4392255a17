use Rattle.std.proofs.Common.{◌≡◌, Bool, IfOk, refl, sym, ap, subst}
use Rattle.doc_types.specs.declared.documents.DocRow.{DocRow}
use Rattle.op_eval.specs.Finding.{Found}
use Rattle.op_eval.proofs.NextMatches.{no_tree, none_finds, search_there, stands_now, tree_finds, tree_of}
use Rattle.op_eval.proofs.Searches.{opened_by}
use Rattle.op_eval.proofs.wanted.row_matches.Goals as goal

pub returns-in-None-clause-told : goal.returns-in-None-clause-told
returns-in-None-clause-told g c = λ its here.
    let none = no_tree (g.C.Chunk.belongs c.args.chunk.now) (g.C.Chunk.place c.args.chunk.now) (g.C.Chunk.content c.args.chunk.now) c.args.query.now c.args.row c.args.search.now c.in-None.is c.requires.stands in
    sym (ap (λ (found : Found). found.matches) (none_finds c.args.query.now its none))

pub matches-requires-clause-search : goal.matches-requires-clause-search
matches-requires-clause-search g c =
    search_there (g.C.Chunk.belongs c.args.chunk.now) (g.C.Chunk.place c.args.chunk.now) (g.C.Chunk.content c.args.chunk.now) c.args.query.now c.args.row c.args.search.now c.in-Some.search c.in-Some.is c.requires.stands

pub returns-in-Some-clause-stands : goal.returns-in-Some-clause-stands
returns-in-Some-clause-stands g c =
    stands_now (g.C.Chunk.belongs c.args.chunk.now) (g.C.Chunk.place c.args.chunk.now) (g.C.Chunk.content c.args.chunk.now) c.args.query.now c.args.row c.args.row c.args.search.now c.in-Some.search c.matches.new.self
    c.in-Some.is c.matches.ensures.search c.requires.stands

pub returns-in-Some-clause-count : goal.returns-in-Some-clause-count
returns-in-Some-clause-count g c = λ its here.
    let is = tree_of (g.C.Chunk.belongs c.args.chunk.now) (g.C.Chunk.place c.args.chunk.now) (g.C.Chunk.content c.args.chunk.now) c.args.query.now c.args.row c.args.search.now c.in-Some.search c.in-Some.is c.requires.stands in
    opened_by c.args.query.now c.in-Some.search.root.now c.in-Some.search.root.now its c.args.steps.now c.matches.new.steps is refl (c.matches.ensures.count its here)

pub returns-in-Some-clause-told : goal.returns-in-Some-clause-told
returns-in-Some-clause-told g c = λ its here.
    let is = tree_of (g.C.Chunk.belongs c.args.chunk.now) (g.C.Chunk.place c.args.chunk.now) (g.C.Chunk.content c.args.chunk.now) c.args.query.now c.args.row c.args.search.now c.in-Some.search c.in-Some.is c.requires.stands in
    subst (λ (finds : DocRow → Found). IfOk c.matches.result (λ (told : Bool). told ≡ (finds its).matches)) (tree_finds c.args.query.now c.in-Some.search.root.now is) (c.matches.ensures.told its here)
