use Rattle.std.proofs.Common.{◌++◌, ◌∙◌, [], ap}
use Rattle.std.specs.Prelude.{slice_get}
use Rattle.std.specs.Option.{option_map_or}
use Rattle.doc_types.specs.Chunks.{by_field, gaps_of}
use Rattle.word_rows.specs.steps.Loading.{ends_in, paragraphs_in}
use Rattle.word_rows.proofs.Ends.{gaps_read}
use Rattle.word_rows.proofs.loading.load_ends.Goals as goal

pub returns-clause-sentences : goal.returns-clause-sentences
returns-clause-sentences g c = λ found here.
    let rows = g.C.Chunk.content c.args.chunk.now in
    let read = c.in_ok-gaps.ensures.ok ∙ ap (λ gaps. gaps ++ option_map_or (by_field gaps_of) (slice_get rows c.args.row) []) c.clear.ensures.items in
    c.in_ok-put_ends.ensures ∙ ap (λ ends. ends ++ ends_in c.deref.result.now) c.clear-2.ensures.items
    ∙ ap ends_in c.deref.ensures.value ∙ (gaps_read rows c.args.row found here c.gaps.new.into.items read).0

pub returns-clause-paragraphs : goal.returns-clause-paragraphs
returns-clause-paragraphs g c = λ found here.
    let rows = g.C.Chunk.content c.args.chunk.now in
    let read = c.in_ok-gaps.ensures.ok ∙ ap (λ gaps. gaps ++ option_map_or (by_field gaps_of) (slice_get rows c.args.row) []) c.clear.ensures.items in
    c.in_ok-put_paragraphs.ensures ∙ ap (λ ends. ends ++ paragraphs_in c.deref-2.result.now) c.clear-3.ensures.items
    ∙ ap paragraphs_in c.deref-2.ensures.value ∙ (gaps_read rows c.args.row found here c.gaps.new.into.items read).1
