use Rattle.std.proofs.Common.{◌+◌, ◌∙◌, refl}
use Rattle.image_check.proofs.Damages.{bad_order, told}
use Rattle.image_check.proofs.Parts.{dictionary_is}
use Rattle.image_check.proofs.Worded.{has_order, wrong_word}
use Rattle.image_check.proofs.words.check_order.Goals as goal

pub check_lists-requires-clause-order : goal.check_lists-requires-clause-order
check_lists-requires-clause-order c =
    has_order c.args.schema.now c.args.image.now c.args.sizes.now c.requires.begun c.part_of-dictionary.result.now (c.part_of-dictionary.ensures ∙ dictionary_is c.args.schema.now c.args.image.now c.args.sizes.now c.requires.begun) c.in-None.ensures

pub returns-in-Some : goal.returns-in-Some
returns-in-Some c =
    let schema = c.args.schema.now in let image = c.args.image.now in let sizes = c.args.sizes.now in let begun = c.requires.begun in
    let wrong = wrong_word schema image sizes begun c.part_of-dictionary.result.now c.in-Some.at (c.part_of-dictionary.ensures ∙ dictionary_is schema image sizes begun) c.in-Some.ensures in
    told schema image c.damage.result _ c.damage.ensures
    (bad_order schema image sizes begun c.requires.rows (c.requires.marks.marks, c.requires.marks.are) c.requires.table c.in-Some.at (sizes.dictionary + c.in-Some.at) wrong refl)
