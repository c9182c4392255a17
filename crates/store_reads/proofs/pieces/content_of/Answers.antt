use Rattle.std.proofs.Common.{◌≡◌, ap, arith}
use Rattle.std.specs.List.{sum_by}
use Rattle.doc_types.specs.Documents.{word_count}
use Rattle.store_reads.proofs.Layers.{content_by}
use Rattle.store_reads.proofs.pieces.content_of.Goals as goal

pub returns-clause-content : goal.returns-clause-content
returns-clause-content c =
    let list = c.in_ok-list.list.items in
    let same : sum_by word_count c.as_slice.result.now ≡ sum_by word_count list = ap (sum_by word_count) c.as_slice.ensures.value in
    content_by c.requires.0 c.requires.2.0 c.args.rows list c.requires.1 c.requires.2.1 c.in_ok-list.ensures.ordered c.in_ok-list.ensures.rows
    (omega (arith, c.if-len-ge-MOST_ROWS.false, c.len.ensures)) (omega (arith, c.in-Some.ensures, c.if-words-ge-MOST_WORDS.false, same))
