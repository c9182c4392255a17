use Rattle.std.proofs.Common.{◌≡◌, ◌++◌, take}
use Rattle.word_rows.specs.steps.Loading.{paragraphs_in}
use Rattle.word_rows.proofs.loading.put_paragraphs.Given as goal

abbrev pub invariant-loop-gap : goal.invariant-loop-gap
invariant-loop-gap l = l.ends.items ≡ l.initial.ends.items ++ paragraphs_in (take l.gap-index l.gaps)
