use Rattle.std.proofs.Common.{ℕ, Option, MatchOption, ◌+◌, ◌*◌, ap, subst}
use Rattle.chunk_damage.specs.Cover.{AllCovered, IsUncovered}
use Rattle.image_cover.specs.Covers.{seen}
use Rattle.image_check.proofs.Damages.{bad_cover, row_place, row_small, told, undamaged}
use Rattle.image_check.proofs.Worded.{found_rows, starts_still, uncovered_low}
use Rattle.image_check.proofs.cover.check_cover.Goals as goal

pub uncovered_row-requires-clause-laid : goal.uncovered_row-requires-clause-laid
uncovered_row-requires-clause-laid c =
    starts_still c.args.schema.now c.args.image.now c.args.sizes.now c.requires.begun c.args.starts.now (seen c.args.cover.now) (c.len-width.result + 1) (ap (λ n. n + 1) c.len-width.ensures) c.requires.lists

pub uncovered_row-requires-clause-from : goal.uncovered_row-requires-clause-from
uncovered_row-requires-clause-from c = c.requires.lists.marks.marked.from

pub damage-requires : goal.damage-requires
damage-requires c =
    let schema = c.args.schema.now in let image = c.args.image.now in let sizes = c.args.sizes.now in let begun = c.requires.begun in
    let have = c.requires.lists in
    let found = found_rows schema image sizes begun c.args.starts.now (seen c.args.cover.now) (c.len-width.result + 1) c.uncovered_row.result (ap (λ n. n + 1) c.len-width.ensures) have c.uncovered_row.ensures.taken c.uncovered_row.ensures.cover in
    let bad : IsUncovered have.lists have.marks.marks c.in-Some.row = subst (λ (r : Option ℕ). MatchOption r (AllCovered have.lists 0 have.marks.marks) (λ row. IsUncovered have.lists have.marks.marks row)) c.in-Some.is found in
    row_small schema image sizes begun c.in-Some.row c.len.result c.len.ensures (uncovered_low schema image sizes begun c.args.starts.now (seen c.args.cover.now) c.in-Some.row have bad)

pub returns-in-Some : goal.returns-in-Some
returns-in-Some c =
    let schema = c.args.schema.now in let image = c.args.image.now in let sizes = c.args.sizes.now in let begun = c.requires.begun in
    let have = c.requires.lists in
    let found = found_rows schema image sizes begun c.args.starts.now (seen c.args.cover.now) (c.len-width.result + 1) c.uncovered_row.result (ap (λ n. n + 1) c.len-width.ensures) have c.uncovered_row.ensures.taken c.uncovered_row.ensures.cover in
    let bad : IsUncovered have.lists have.marks.marks c.in-Some.row = subst (λ (r : Option ℕ). MatchOption r (AllCovered have.lists 0 have.marks.marks) (λ row. IsUncovered have.lists have.marks.marks row)) c.in-Some.is found in
    told schema image c.damage.result _ c.damage.ensures
    (bad_cover schema image sizes begun c.requires.rows (have.marks.marks, have.marks.are) c.requires.table c.requires.order (have.lists, have.are) c.in-Some.row (32 + c.in-Some.row * (20 + 8 * c.len.result)) bad
    (row_place schema image sizes begun c.in-Some.row c.len.result c.len.ensures))

pub returns-in-None : goal.returns-in-None
returns-in-None c =
    let schema = c.args.schema.now in let image = c.args.image.now in let sizes = c.args.sizes.now in let begun = c.requires.begun in
    let have = c.requires.lists in
    let found = found_rows schema image sizes begun c.args.starts.now (seen c.args.cover.now) (c.len-width.result + 1) c.uncovered_row.result (ap (λ n. n + 1) c.len-width.ensures) have c.uncovered_row.ensures.taken c.uncovered_row.ensures.cover in
    let good : AllCovered have.lists 0 have.marks.marks = subst (λ (r : Option ℕ). MatchOption r (AllCovered have.lists 0 have.marks.marks) (λ row. IsUncovered have.lists have.marks.marks row)) c.in-None.is found in
    undamaged schema image sizes begun c.requires.rows (have.marks.marks, have.marks.are) c.requires.table c.requires.order (have.lists, have.are) good
