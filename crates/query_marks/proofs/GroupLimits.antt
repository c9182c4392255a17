-- The limits of groups.
use Rattle.std.proofs.Common.{◌≡◌, List, [], ◌∷◌, ◌++◌, refl, sym, ap, ◌∙◌}
use Rattle.query_marks.specs.declared.limits.Limits.{Limits}
use Rattle.query_marks.specs.declared.state.State.{State}
use Rattle.query_marks.specs.Marks.{last_of, but_last, closed}

pub last_is : (here last : Limits) (around : List Limits) → last_of here (around ++ last ∷ []) ≡ last
last_is here last [] = refl
last_is here last (outer ∷ around) = last_is outer last around

pub but_last_is : (last : Limits) (around : List Limits) → but_last (around ++ last ∷ []) ≡ around
but_last_is last [] = refl
but_last_is last (outer ∷ []) = refl
but_last_is last (outer ∷ next ∷ around) = ap (λ l. outer ∷ l) (but_last_is last (next ∷ around))

-- the state after a group
pub closed_is : (state : State) (outer : Limits) (around : List Limits) → state.around ≡ around ++ outer ∷ [] → record { keywords = state.keywords; relaxed = state.relaxed; here = outer; around = around } ≡ closed state
closed_is state outer around is =
    sym (ap (λ l. made (last_of state.here l) (but_last l)) is ∙ ap (λ here. made here (but_last (around ++ outer ∷ []))) (last_is state.here outer around) ∙ ap (λ l. made outer l) (but_last_is outer around))
  where
    made : Limits → List Limits → State
    made here around = record { keywords = state.keywords; relaxed = state.relaxed; here = here; around = around }
