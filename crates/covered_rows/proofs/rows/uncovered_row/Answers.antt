use Rattle.std.proofs.Common.{ℕ, MatchOption, sym, subst}
use Rattle.std.specs.List.{AllByRecursion}
use Rattle.chunk_damage.specs.WordLists.{AreEntries}
use Rattle.image_cover.specs.Places.{Seen, take_all}
use Rattle.image_cover.specs.Lists.{places_of_lists}
use Rattle.covered_rows.specs.Marked.{ArePassed, IsStopped}
use Rattle.covered_rows.proofs.AllRows.{answer}
use Rattle.covered_rows.proofs.rows.uncovered_row.Goals as goal

pub returns-clause-cover : goal.returns-clause-cover
returns-clause-cover c = λ s marks lists marked count short are few taken.
    let starts = c.args.starts.now in let width = c.args.width in let found = c.stopped_row.result in
    let final = take_all s (places_of_lists starts width lists) in
    let of_seen = subst (λ (t : Seen). MatchOption found (ArePassed starts width t c.args.rows) (IsStopped starts width t c.args.rows)) taken c.stopped_row.ensures in
    let of_marks = subst (λ (n : ℕ). MatchOption found (ArePassed starts width final n) (IsStopped starts width final n)) (sym count) of_seen in
    answer starts width s marks marked lists (subst (λ (n : ℕ). AllByRecursion (AreEntries n 0) lists) (sym count) are) few found short of_marks
