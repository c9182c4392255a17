use Rattle.std.proofs.Common.{◌≡◌, take}
use Rattle.word_rows.specs.steps.Loading.{listed_in}
use Rattle.word_rows.proofs.loading.cover_of.Given as goal

abbrev pub invariant-loop-span : goal.invariant-loop-span
invariant-loop-span l = l.listed.items ≡ listed_in l.zones (take l.span-index l.spans)
