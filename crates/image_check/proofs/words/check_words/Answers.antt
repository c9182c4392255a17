use Rattle.std.proofs.Common.{◌+◌, ◌*◌, ◌∙◌, arith}
use Rattle.image_check.proofs.Damages.{bad_table, told}
use Rattle.image_check.proofs.Parts.{dictionary_is, postings_is, table_is}
use Rattle.image_check.proofs.Worded.{has_table, wrong_entry}
use Rattle.image_check.proofs.words.check_words.Goals as goal

pub check_order-requires-clause-table : goal.check_order-requires-clause-table
check_order-requires-clause-table c =
    let schema = c.args.schema.now in let image = c.args.image.now in let sizes = c.args.sizes.now in let begun = c.requires.begun in
    has_table schema image sizes begun c.part_of-table.result.now c.part_of-postings.result.now c.part_of-dictionary.result.now
    (c.part_of-table.ensures ∙ table_is schema image sizes begun) (c.part_of-postings.ensures ∙ postings_is schema image sizes begun) (c.part_of-dictionary.ensures ∙ dictionary_is schema image sizes begun) c.in-None.ensures

pub returns-in-Some : goal.returns-in-Some
returns-in-Some c =
    let schema = c.args.schema.now in let image = c.args.image.now in let sizes = c.args.sizes.now in let begun = c.requires.begun in
    let wrong = wrong_entry schema image sizes begun c.part_of-table.result.now c.part_of-postings.result.now c.part_of-dictionary.result.now c.in-Some.number
    (c.part_of-table.ensures ∙ table_is schema image sizes begun) (c.part_of-postings.ensures ∙ postings_is schema image sizes begun) (c.part_of-dictionary.ensures ∙ dictionary_is schema image sizes begun) c.in-Some.ensures in
    told schema image c.damage.result _ c.damage.ensures
    (bad_table schema image sizes begun c.requires.rows (c.requires.marks.marks, c.requires.marks.are) c.in-Some.number (sizes.table + c.in-Some.number * 12) wrong (omega arith))
