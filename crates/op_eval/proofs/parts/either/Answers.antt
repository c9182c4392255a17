use Rattle.std.proofs.Common.{◌≡◌, ◌∙◌, ◌∷◌, [], ◌||◌, Bool, false, true, refl, ap}
use Rattle.std.specs.List.{list_any}
use Rattle.std.proofs.lemmas.List.Folds.{list_any-append}
use Rattle.row_plans.specs.Plans.{holds}
use Rattle.row_plans.proofs.HowFar.{holds_any}
use Rattle.op_eval.proofs.parts.either.Goals as goal

-- nothing more
or_none : (b : Bool) → (b || false) ≡ b
or_none true = refl
or_none false = refl

pub returns : goal.returns
returns c = λ has.
    holds_any has c.push.new.self
    ∙ ap (list_any (holds has)) c.in_ok-push.ensures.ok
    ∙ list_any-append (holds has) c.in_ok-choices.choices (c.args.other.plan ∷ [])
    ∙ ap (λ b. list_any (holds has) c.in_ok-choices.choices || b) (or_none (holds has c.args.other.plan))
    ∙ ap (λ b. b || holds has c.args.other.plan) (c.in_ok-choices.ensures has)
