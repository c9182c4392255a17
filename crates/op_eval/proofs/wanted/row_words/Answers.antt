use Rattle.std.proofs.Common.{◌≡◌, List, true, sym, subst}
use Rattle.std.specs.Prelude.{IfSome}
use Rattle.doc_types.specs.declared.documents.DocRow.{DocRow}
use Rattle.query_tree.specs.TreeKeys.{query_keys}
use Rattle.query_tree.specs.declared.key.Key.{Key}
use Rattle.word_rows.specs.Keywords.{present_in}
use Rattle.op_eval.specs.Finding.{Found}
use Rattle.op_eval.specs.steps.Searching.{node_found}
use Rattle.op_eval.proofs.NextMatches.{search_there, stands_now, tree_finds, tree_of}
use Rattle.op_eval.proofs.Searches.{keys_root}
use Rattle.op_eval.proofs.wanted.row_words.Goals as goal

pub sure_words-requires : goal.sure_words-requires
sure_words-requires g c =
    search_there (g.C.Chunk.belongs c.args.chunk.now) (g.C.Chunk.place c.args.chunk.now) (g.C.Chunk.content c.args.chunk.now) c.args.query.now c.args.row c.args.search.now c.in-Some.search c.in-Some.is c.requires

pub returns-in-Some-clause-stands : goal.returns-in-Some-clause-stands
returns-in-Some-clause-stands g c =
    stands_now (g.C.Chunk.belongs c.args.chunk.now) (g.C.Chunk.place c.args.chunk.now) (g.C.Chunk.content c.args.chunk.now) c.args.query.now c.args.row c.args.row c.args.search.now c.in-Some.search c.sure_words.new.self
    c.in-Some.is c.sure_words.ensures.search c.requires

pub returns-in-Some-clause-sure : goal.returns-in-Some-clause-sure
returns-in-Some-clause-sure g c = λ its here.
    let query = c.args.query.now in
    let root = c.in-Some.search.root.now in
    let is = tree_of (g.C.Chunk.belongs c.args.chunk.now) (g.C.Chunk.place c.args.chunk.now) (g.C.Chunk.content c.args.chunk.now) query c.args.row c.args.search.now c.in-Some.search c.in-Some.is c.requires in
    subst (λ (finds : DocRow → Found). IfSome c.sure_words.result (λ words. ((finds its).matches ≡ true) × (words ≡ present_in its (query_keys query)))) (tree_finds query root is)
    (subst (λ (keys : List Key). IfSome c.sure_words.result (λ words. ((node_found root its).matches ≡ true) × (words ≡ present_in its keys))) (sym (keys_root query.root query.keywords root is)) (c.sure_words.ensures.sure its here))
