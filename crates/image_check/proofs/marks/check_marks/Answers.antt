use Rattle.std.proofs.Common.{◌+◌, ◌≤◌, ◌∙◌, arith, refl}
use Rattle.bit_lists.specs.BitLists.{bits_of}
use Rattle.image_check.proofs.Damages.{bad_marks, told}
use Rattle.image_check.proofs.Laid.{have_found, wrong_found}
use Rattle.image_check.proofs.Parts.{marks_is}
use Rattle.image_check.proofs.marks.check_marks.Goals as goal

pub check_words-requires-clause-marks : goal.check_words-requires-clause-marks
check_words-requires-clause-marks c =
    let schema = c.args.schema.now in let image = c.args.image.now in let sizes = c.args.sizes.now in
    let whole = c.part_of-part.ensures ∙ marks_is schema image sizes c.requires.begun in
    let few : sizes.rows ≤ 4294967295 = omega arith in
    have_found schema image sizes c.requires.begun _ c.part_of-part.result.now c.read_part.new.starts.items c.as_slice.result.now (bits_of c.read_part.new.cover.taken) c.read_part.new.cover.least 4294967295 c.in-Ok-None.field-0
    whole few c.as_slice.ensures.value c.in-Ok-None.field-0-is c.in-Ok-None.ensures

pub returns-in-Ok-Some : goal.returns-in-Ok-Some
returns-in-Ok-Some c =
    let schema = c.args.schema.now in let image = c.args.image.now in let sizes = c.args.sizes.now in
    let whole = c.part_of-part.ensures ∙ marks_is schema image sizes c.requires.begun in
    let wrong = wrong_found schema image sizes c.requires.begun _ c.part_of-part.result.now c.in-Ok-Some.field-0 c.in-Ok-Some.at whole c.in-Ok-Some.field-0-is c.in-Ok-Some.ensures in
    told schema image c.damage.result _ c.damage.ensures (bad_marks schema image sizes c.requires.begun c.requires.before c.in-Ok-Some.at (sizes.marks + c.in-Ok-Some.at) wrong refl)
