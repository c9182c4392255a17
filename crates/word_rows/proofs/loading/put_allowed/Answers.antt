use Rattle.std.proofs.Common.{◌≡◌, ◌++◌, ◌∷◌, [], cond, get_or, rules, arith}
use Rattle.std.proofs.lemmas.Grind.{common_steps}
use Rattle.word_rows.specs.steps.Loading.{is_allowed}
use Rattle.word_rows.proofs.Lists.{filter_step}
use Rattle.word_rows.proofs.loading.put_allowed.Goals as goal
use Rattle.word_rows.proofs.loading.put_allowed.Goals.{then-allows+in_ok-push, else-allows}

pub loop-place-preserved : goal.loop-place-preserved
loop-place-preserved c =
    let now : c.if-allows.kept.items ≡ cond c.allows.result (c.loop-place.kept.items ++ get_or c.args.places.now c.loop-place.place-index (0, 0) ∷ []) c.loop-place.kept.items =
    elim c.if-allows.branch [ then-allows+in_ok-push w ↦ search rules | else-allows w ↦ search rules ] in
    filter_step (is_allowed c.args.lasts.now c.args.key.now c.args.cover.now) c.args.places.now c.loop-place.place-index (0, 0) c.allows.result c.args.kept.now.items c.loop-place.kept.items c.if-allows.kept.items
    (omega arith) c.allows.ensures c.loop-place.invariant now

pub returns : goal.returns
returns c = grind (arith, common_steps, c.loop-place.invariant)
