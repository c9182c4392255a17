use Rattle.std.proofs.Common.{arith, sym, subst}
use Rattle.doc_types.specs.steps.PlainIndex.{IsIndex}
use Rattle.doc_types.proofs.Contents.{few_fields}
use Rattle.doc_types.proofs.Indexed.{indexed}
use Rattle.doc_types.proofs.plain_index.index_of.Goals as goal

pub returns : goal.returns
returns c =
    subst (IsIndex c.args.rows.now) (sym c.in_ok-index.ensures.entries)
    (indexed c.args.rows.now c.in_ok-collected.collected c.in_ok-index.ensures.ordered c.requires.small.few_rows c.in_ok-collected.ensures.rows c.requires.of.ids (few_fields c.args.rows.now c.requires) (omega (arith, c.in_ok-collected.ensures.size, c.requires.small.few_words)))
