use Rattle.std.proofs.Common.{◌≡◌, Bool, IfOk, refl, sym, ap, subst, ◌∙◌}
use Rattle.std.specs.List.{list_any}
use Rattle.std.specs.Prelude.{OnOk}
use Rattle.doc_types.specs.declared.documents.DocRow.{DocRow}
use Rattle.occ_lists.specs.OccLists.{SameMembers}
use Rattle.op_eval.specs.Finding.{Found}
use Rattle.op_eval.proofs.NextMatches.{no_tree, none_finds, search_there, stands_now, tree_finds, tree_of}
use Rattle.op_eval.proofs.Searches.{few_keys, opened_by}
use Rattle.op_eval.proofs.wanted.find_row.Goals as goal

pub returns-in-None-clause-told : goal.returns-in-None-clause-told
returns-in-None-clause-told g c = λ its here.
    let none = no_tree (g.C.Chunk.belongs c.args.chunk.now) (g.C.Chunk.place c.args.chunk.now) (g.C.Chunk.content c.args.chunk.now) c.args.query.now c.args.row c.args.search.now c.in-None.is c.requires.stands in
    sym (ap (λ (found : Found). found.matches) (none_finds c.args.query.now its none))

pub returns-in-None-clause-hits : goal.returns-in-None-clause-hits
returns-in-None-clause-hits g c = λ its here passes.
    let none = no_tree (g.C.Chunk.belongs c.args.chunk.now) (g.C.Chunk.place c.args.chunk.now) (g.C.Chunk.content c.args.chunk.now) c.args.query.now c.args.row c.args.search.now c.in-None.is c.requires.stands in
    ap (list_any passes) (c.clear.ensures.hits ∙ sym (ap (λ (found : Found). found.hits) (none_finds c.args.query.now its none)))

pub find-requires-clause-search : goal.find-requires-clause-search
find-requires-clause-search g c =
    search_there (g.C.Chunk.belongs c.args.chunk.now) (g.C.Chunk.place c.args.chunk.now) (g.C.Chunk.content c.args.chunk.now) c.args.query.now c.args.row c.args.search.now c.in-Some.search c.in-Some.is c.requires.stands

pub returns-in-Some-clause-stands : goal.returns-in-Some-clause-stands
returns-in-Some-clause-stands g c =
    stands_now (g.C.Chunk.belongs c.args.chunk.now) (g.C.Chunk.place c.args.chunk.now) (g.C.Chunk.content c.args.chunk.now) c.args.query.now c.args.row c.args.row c.args.search.now c.in-Some.search c.find.new.self
    c.in-Some.is c.find.ensures.search c.requires.stands

pub returns-in-Some-clause-count : goal.returns-in-Some-clause-count
returns-in-Some-clause-count g c = λ its here.
    let is = tree_of (g.C.Chunk.belongs c.args.chunk.now) (g.C.Chunk.place c.args.chunk.now) (g.C.Chunk.content c.args.chunk.now) c.args.query.now c.args.row c.args.search.now c.in-Some.search c.in-Some.is c.requires.stands in
    opened_by c.args.query.now c.in-Some.search.root.now c.in-Some.search.root.now its c.args.steps.now c.find.new.steps is refl (c.find.ensures.count its here)

pub returns-in-Some-clause-told : goal.returns-in-Some-clause-told
returns-in-Some-clause-told g c = λ its here.
    let is = tree_of (g.C.Chunk.belongs c.args.chunk.now) (g.C.Chunk.place c.args.chunk.now) (g.C.Chunk.content c.args.chunk.now) c.args.query.now c.args.row c.args.search.now c.in-Some.search c.in-Some.is c.requires.stands in
    subst (λ (finds : DocRow → Found). IfOk c.find.result (λ (told : Bool). told ≡ (finds its).matches)) (tree_finds c.args.query.now c.in-Some.search.root.now is) (c.find.ensures.told its here)

pub returns-in-Some-clause-hits : goal.returns-in-Some-clause-hits
returns-in-Some-clause-hits g c = λ its here.
    let root = c.in-Some.search.root.now in
    let is = tree_of (g.C.Chunk.belongs c.args.chunk.now) (g.C.Chunk.place c.args.chunk.now) (g.C.Chunk.content c.args.chunk.now) c.args.query.now c.args.row c.args.search.now c.in-Some.search c.in-Some.is c.requires.stands in
    subst (λ (finds : DocRow → Found). OnOk c.find.result (SameMembers c.find.new.found.hits.items (finds its).hits)) (tree_finds c.args.query.now root is)
    (c.find.ensures.hits its here (few_keys c.args.query.now root root is refl c.requires.few))
