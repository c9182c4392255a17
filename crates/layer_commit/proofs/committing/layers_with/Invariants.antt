use Rattle.std.proofs.Common.{◌≡◌, ◌==◌, ◌||◌, map, take}
use Rattle.std.specs.List.{filter, list_any}
use Rattle.layer_commit.specs.Commits.{is_kept}
use Rattle.layer_commit.specs.steps.Finding.{layer_with}
use Rattle.layer_commit.proofs.committing.layers_with.Given as goal

abbrev pub invariant-loop-layer : goal.invariant-loop-layer
invariant-loop-layer g l = l.after.items ≡ filter is_kept (map (layer_with (λ id. l.cleared || list_any (λ n. n == id) l.ids)) (take l.layer-index l.layers))
