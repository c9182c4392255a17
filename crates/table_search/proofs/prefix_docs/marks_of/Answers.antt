use Rattle.std.proofs.Common.{◌∙◌, ◌+◌, ◌||◌, rules, ℕ, List, ap, subst, sym, take, length}
use Rattle.std.proofs.lemmas.List.{take_all}
use Rattle.table_search.proofs.Marks.{AreMarked, all_marked, marked_more, written_back}
use Rattle.table_search.proofs.prefix_docs.marks_of.Goals as goal

pub words-preserved : goal.words-preserved
words-preserved g c =
    let rows = g.C.Chunk.content c.args.chunk.now in
    let old = c.words.marks.items in
    let new = c.mark.new.marks in
    subst (AreMarked rows (take (c.words.word-index + 1) c.args.words.now)) (sym (written_back c.words.marks.len old new (c.mark.ensures.long ∙ ap (λ ms. length ms) c.deref_mut.ensures.value) (search rules)))
    (marked_more rows c.args.words.now c.words.word-index c.word-item.result old new c.words.invariant c.words-test.true c.word-item.is (c.mark.ensures.long ∙ ap (λ ms. length ms) c.deref_mut.ensures.value)
    (search rules))

pub returns : goal.returns
returns g c =
    all_marked (g.C.Chunk.content c.args.chunk.now) c.args.words.now c.words.marks.items
    (subst (λ (words : List (List ℕ)). AreMarked (g.C.Chunk.content c.args.chunk.now) words c.words.marks.items) (take_all c.words.word-index c.args.words.now c.words-test.false) c.words.invariant)
