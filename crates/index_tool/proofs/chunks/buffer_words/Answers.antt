use Rattle.std.proofs.Common.{◌≡◌, ◌<◌, ℕ, List, Ok, Err, sym, subst, arith, length, get_or}
use Rattle.std.proofs.lemmas.Option.{get_or_from_slice_get}
use Rattle.doc_types.specs.declared.documents.DocRow.{DocRow}
use Rattle.index_tool.specs.ToolLines.{word_line}
use Rattle.index_tool.specs.steps.Sides.{BuffersLines}
use Rattle.index_tool.proofs.EachLine.{each_more, each_stop}
use Rattle.index_tool.proofs.Printed.{buffer_none}
use Rattle.index_tool.proofs.chunks.buffer_words.Goals as goal

pub returns-in-Err : goal.returns-in-Err
returns-in-Err g c =
    let rows : List DocRow = g.C.Chunk.content c.args.chunk.now in
    let words : List (List ℕ) = g.C.Chunk.words_of c.args.chunk.now in
    let n : ℕ = c.numbers.number in
    let word : List ℕ = c.word_at.result.now in
    let at : get_or words n word ≡ word = get_or_from_slice_get words n word word c.word_at.ensures in
    let low : n < length words = omega (arith, c.numbers-test.true, c.words-number-end.ensures) in
    each_stop (word_line c.args.entry.now rows) words g.H.ToolHost (tt {0}) c.in-Err.stop n word (c.args.line.now.items, c.args.host.now) (c.numbers.line.items, c.numbers.host) (c.buffer_word.new.line.items, c.buffer_word.new.host) low c.numbers.invariant
    (subst (λ (w : List ℕ). BuffersLines {T = Unit {0}} g.H.ToolHost (Err c.in-Err.stop) (word_line c.args.entry.now rows w) (c.numbers.line.items, c.numbers.host) (c.buffer_word.new.line.items, c.buffer_word.new.host)) (sym at) c.in-Err.ensures)

pub numbers-preserved : goal.numbers-preserved
numbers-preserved g c =
    let rows : List DocRow = g.C.Chunk.content c.args.chunk.now in
    let words : List (List ℕ) = g.C.Chunk.words_of c.args.chunk.now in
    let n : ℕ = c.numbers.number in
    let word : List ℕ = c.word_at.result.now in
    let at : get_or words n word ≡ word = get_or_from_slice_get words n word word c.word_at.ensures in
    let low : n < length words = omega (arith, c.numbers-test.true, c.words-number-end.ensures) in
    each_more (word_line c.args.entry.now rows) words g.H.ToolHost (tt {0}) n word (c.args.line.now.items, c.args.host.now) (c.numbers.line.items, c.numbers.host) (c.buffer_word.new.line.items, c.buffer_word.new.host) low c.numbers.invariant
    (subst (λ (w : List ℕ). BuffersLines {T = Unit {0}} g.H.ToolHost (Ok tt) (word_line c.args.entry.now rows w) (c.numbers.line.items, c.numbers.host) (c.buffer_word.new.line.items, c.buffer_word.new.host)) (sym at) c.in-Ok.ensures)

pub numbers-init : goal.numbers-init
numbers-init g c = buffer_none g.H.ToolHost (tt {0}) (c.args.line.now.items, c.args.host.now)
