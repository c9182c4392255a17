use Rattle.std.proofs.Common.{◌≡◌, ◌++◌, take}
use Rattle.word_rows.specs.steps.Loading.{ends_in}
use Rattle.word_rows.proofs.loading.put_ends.Given as goal

abbrev pub invariant-loop-gap : goal.invariant-loop-gap
invariant-loop-gap l = l.ends.items ≡ l.initial.ends.items ++ ends_in (take l.gap-index l.gaps)
