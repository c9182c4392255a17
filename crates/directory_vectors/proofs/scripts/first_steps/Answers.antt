use Rattle.std.proofs.Common.{[], ◌∷◌, All, subst, sym}
use Rattle.std.proofs.ResultArms.{chosen}
use Rattle.std.proofs.lemmas.List.Elements.{All-append, All-cons, All-nil}
use Rattle.directory_vectors.specs.Ready.{IsStepOf, plain}
use Rattle.directory_vectors.proofs.scripts.first_steps.Goals as goal

pub loop-line-preserved : goal.loop-line-preserved
loop-line-preserved c =
    let pushed = chosen _ _ _ _ c.push.ensures.items (sym c.in_ok-ok.ensures.variant) in
    subst (All (IsStepOf plain)) (sym pushed) (All-append (IsStepOf plain) c.loop-line.steps.items (c.in_ok-made.made ∷ []) c.loop-line.invariant (All-cons (IsStepOf plain) c.in_ok-made.made [] c.in_ok-made.ensures (All-nil (IsStepOf plain))))
