use Rattle.std.proofs.Common.{◌+◌, ◌∙◌, ap, length, refl}
use Rattle.image_cover.specs.Covers.{seen}
use Rattle.image_cover.proofs.Apart.{laid_starts}
use Rattle.image_check.proofs.Damages.{bad_lists, told}
use Rattle.image_check.proofs.Parts.{postings_is, table_is}
use Rattle.image_check.proofs.Worded.{have_lists, starts_are, wrong_list}
use Rattle.image_check.proofs.words.check_lists.Goals as goal

pub take_lists-requires-clause-starts : goal.take_lists-requires-clause-starts
take_lists-requires-clause-starts c =
    laid_starts c.args.starts.now (c.len-width.result + 1) c.args.sizes.now.rows (length (seen c.args.cover.now).0)
    (starts_are c.args.schema.now c.args.image.now c.args.sizes.now c.requires.begun c.args.starts.now (seen c.args.cover.now) (c.len-width.result + 1) (ap (λ n. n + 1) c.len-width.ensures) c.requires.marks)

pub check_cover-requires-clause-lists : goal.check_cover-requires-clause-lists
check_cover-requires-clause-lists c =
    let schema = c.args.schema.now in let image = c.args.image.now in let sizes = c.args.sizes.now in let begun = c.requires.begun in
    have_lists schema image sizes begun c.part_of-table.result.now c.part_of-postings.result.now c.args.starts.now (seen c.args.cover.now) (seen c.take_lists.new.cover) (c.len-width.result + 1)
    (c.part_of-table.ensures ∙ table_is schema image sizes begun) (c.part_of-postings.ensures ∙ postings_is schema image sizes begun) c.requires.marks (ap (λ n. n + 1) c.len-width.ensures) c.in-None.ensures

pub returns-in-Some : goal.returns-in-Some
returns-in-Some c =
    let schema = c.args.schema.now in let image = c.args.image.now in let sizes = c.args.sizes.now in let begun = c.requires.begun in
    let wrong = wrong_list schema image sizes begun c.part_of-table.result.now c.part_of-postings.result.now c.in-Some.at (c.part_of-table.ensures ∙ table_is schema image sizes begun) (c.part_of-postings.ensures ∙ postings_is schema image sizes begun) c.in-Some.ensures in
    told schema image c.damage.result _ c.damage.ensures
    (bad_lists schema image sizes begun c.requires.rows (c.requires.marks.marks, c.requires.marks.are) c.requires.table c.requires.order c.in-Some.at (sizes.postings + c.in-Some.at) wrong refl)
