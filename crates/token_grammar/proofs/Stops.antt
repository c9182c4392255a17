-- A text has a value or a stop, and not both, and no two stops; a reader of the whole grammar finds which.
use Rattle.std.proofs.Common.{◌≡◌, ℕ, List, [], ◌∷◌, ◌++◌, refl, sym, ◌∙◌, ap, subst, append_assoc, append-nil}
use Rattle.srch_base.specs.declared.faults.Or.TheVariants.{Fault}
use Rattle.token_grammar.specs.Alphabets.{Alphabet}
use Rattle.token_grammar.specs.Language.{Re, empty, seq, In}
use Rattle.token_grammar.specs.Values.{Begins, IsStop}
use Rattle.token_grammar.specs.Reading.{first_place, TakesPart, FailsPart}
use Rattle.token_grammar.proofs.Agreement.{Agree}
use Rattle.token_grammar.proofs.Beginnings.{free_none}
use Rattle.token_grammar.proofs.Verdicts.{verdict_same, verdict_some}

-- a value's tokens have no stop
pub value_no_stop : {T A : Type 0} {Is : A → List T → Type 0} {tokens : List T} {stop : T} (x : A) → Is x tokens → IsStop Is tokens stop → ⊥
value_no_stop {T} {A} {Is} {tokens} {stop} x h s =
    s.stops (x, s.rest, subst (λ u. Is x u) (s.is ∙ sym (append_assoc s.front (stop ∷ []) s.rest)) h)

-- a front that goes on further than another goes on over its next token
pub goes_over : {T : Type 0} (a b : List T) (x y : T) (v w : List T) → a ++ x ∷ v ≡ b ++ y ∷ w → (((more : List T) × (b ≡ a ++ x ∷ more)) → ⊥) → (((more : List T) × (a ≡ b ++ y ∷ more)) → ⊥) → (x ≡ y) × (a ≡ b)
goes_over [] [] x y v w e none_left none_right = (cc, refl)
goes_over [] (z ∷ b) x y v w e none_left none_right =
    let same : z ≡ x = cc in
    absurd (none_left (b, ap (λ t. t ∷ b) same))
goes_over (z ∷ a) [] x y v w e none_left none_right =
    let same : z ≡ y = cc in
    absurd (none_right (a, ap (λ t. t ∷ a) same))
goes_over (z ∷ a) (z' ∷ b) x y v w e none_left none_right =
    let same : z ≡ z' = cc in
    let rest : a ++ x ∷ v ≡ b ++ y ∷ w = cc in
    let (is, fronts) = goes_over a b x y v w rest (λ h. none_left (h.0, ap (λ t. t ∷ b) (sym same) ∙ ap (λ u. z ∷ u) h.1)) (λ h. none_right (h.0, ap (λ t. t ∷ a) same ∙ ap (λ u. z' ∷ u) h.1)) in
    (is, ap (λ t. t ∷ a) same ∙ ap (λ u. z' ∷ u) fronts)

begins_less : {T A : Type 0} (Is : A → List T → Type 0) (front a : List T) (t : T) (more : List T) → front ≡ a ++ t ∷ more → Begins Is front → Begins Is (a ++ t ∷ [])
begins_less Is front a t more e (x, rest, h) =
    (x, more ++ rest, subst (λ u. Is x u) (ap (λ u. u ++ rest) e ∙ append_assoc a (t ∷ more) rest ∙ sym (append_assoc a (t ∷ []) (more ++ rest))) h)

-- two stops of one text are one
pub one_stop : {T A : Type 0} {Is : A → List T → Type 0} {tokens : List T} {x y : T} → (s : IsStop Is tokens x) (r : IsStop Is tokens y) → (x ≡ y) × (s.front ≡ r.front)
one_stop {T} {A} {Is} {tokens} {x} {y} s r =
    goes_over s.front r.front x y s.rest r.rest (sym s.is ∙ r.is)
    (λ (more, e). s.stops (begins_less Is r.front s.front x more e r.begins))
    (λ (more, e). r.stops (begins_less Is s.front r.front y more e s.begins))

-- What a reader of the whole grammar answered for a fault: the place of the stop.
pub stop_of : {C T A : Type 0} {Σ : Alphabet C T} {r : Re C} {Is : A → List T → Type 0} {before : List T} {place : ℕ} → Agree Σ r Is → FailsPart Σ r [] before (Fault place) → (stop : T) × IsStop Is before stop × (place ≡ Σ.at stop)
unfolding In
stop_of {C} {T} {A} {Σ} {r} {Is} {before} {place} agree h =
    let f = h.fails place refl in
    let l = verdict_some Σ before r f.rest (verdict_same Σ before r (seq r empty) (λ u i. there u i) (λ u i. back u i) ∙ f.leaves empty (free_none Σ empty)) in
    let (w, i) = l.goes in
    let (x, p) = agree.value (l.before ++ w) i in (
      l.next,
      record {
        front = l.before;
        rest = l.later;
        is = l.is;
        begins = (x, w, p);
        stops = λ (y, v, q). l.stops v (subst (λ u. In Σ r u) (append_assoc l.before (l.next ∷ []) v) (agree.text y ((l.before ++ l.next ∷ []) ++ v) q));
      },
      f.place_is ∙ ap (first_place Σ) l.rest_is,
    )
  where
    there : (u : List T) → In Σ r u → In Σ (seq r empty) u
    there u i = (u, [], sym (append-nil u), i, refl)

    back : (u : List T) → In Σ (seq r empty) u → In Σ r u
    back u (a, b, e, first, second) = subst (λ w. In Σ r w) (sym (e ∙ ap (λ w. a ++ w) second ∙ append-nil a)) first

-- What it answered for a value that takes all tokens.
pub value_of : {C T : Type 0} {Σ : Alphabet C T} {r : Re C} {cs : List C} {P : List T → Type 0} {before : List T} → TakesPart Σ r cs P before [] → P before
value_of {C} {T} {Σ} {r} {cs} {P} {before} h = subst (λ u. P u) (sym (h.is ∙ append-nil h.used)) h.has
