use Rattle.std.proofs.Common.{◌≡◌, ◌++◌, take}
use Rattle.std.specs.List.{filter}
use Rattle.word_rows.specs.steps.Loading.{is_allowed}
use Rattle.word_rows.proofs.loading.put_allowed.Given as goal

abbrev pub invariant-loop-place : goal.invariant-loop-place
invariant-loop-place l = l.kept.items ≡ l.initial.kept.items ++ filter (is_allowed l.lasts l.key l.cover) (take l.place-index l.places)
