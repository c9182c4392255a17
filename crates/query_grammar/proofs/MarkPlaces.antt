-- Marks that ascend: no two stand at one place.
use Rattle.std.proofs.Common.{arith, ◌≡◌, ◌<◌, zero, suc, List, [], ◌∷◌, ◌++◌, ◌⊎◌, inl, inr, refl, sym, ◌∙◌, ap, subst}
use Rattle.std.specs.Prelude.{Contains}
use Rattle.std.proofs.lemmas.List.Elements.{Contains-append_right}
use Rattle.query_marks.specs.declared.mark.Mark.{Mark}
use Rattle.query_grammar.specs.steps.MarkFacts.{Ascend}

-- What a list has: its first mark, and those after it.
pub none_contained : (m : Mark) → Contains [] m → ⊥
none_contained m (k, within, at) = absurd (omega (arith, within))

pub first_contained : (m : Mark) (marks : List Mark) → Contains (m ∷ marks) m
first_contained m marks = (zero, omega arith, refl)

pub contained_later : (n : Mark) (marks : List Mark) (m : Mark) → Contains marks m → Contains (n ∷ marks) m
contained_later n marks m (k, within, at) = (suc k, omega (arith, within), at)

pub contained_cases : (n : Mark) (marks : List Mark) (m : Mark) → Contains (n ∷ marks) m → (n ≡ m) ⊎ Contains marks m
contained_cases n marks m (zero, within, at) = inl at
contained_cases n marks m (suc k, within, at) = inr (k, omega (arith, within), at)

pub ascend_apart : (a b : List Mark) (m n : Mark) → Ascend (a ++ b) → Contains a m → Contains b n → m.at < n.at
ascend_apart [] b m n h in_a in_b = absurd (none_contained m in_a)
ascend_apart (x ∷ a) b m n (before, rest) in_a in_b = elim (contained_cases x a m in_a) [
  | inl same ↦ subst (λ (y : Mark). y.at < n.at) same (before n (Contains-append_right a b n in_b))
  | inr later ↦ ascend_apart a b m n rest later in_b
]

pub one_at_place : (marks : List Mark) (m n : Mark) → Ascend marks → Contains marks m → Contains marks n → m.at ≡ n.at → m ≡ n
one_at_place [] m n h in_m in_n places = absurd (none_contained m in_m)
one_at_place (x ∷ marks) m n (before, rest) in_m in_n places = by (contained_cases x marks m in_m) (contained_cases x marks n in_n) (λ later other. one_at_place marks m n rest later other places)
  where
    by : (x ≡ m) ⊎ Contains marks m → (x ≡ n) ⊎ Contains marks n → (Contains marks m → Contains marks n → m ≡ n) → m ≡ n
    by (inl same) (inl other) both = sym same ∙ other
    by (inl same) (inr later) both =
        let above = before n later in
        let place : x.at ≡ m.at = ap (λ (y : Mark). y.at) same in
        absurd (omega (arith, above, place, places))
    by (inr later) (inl same) both =
        let above = before m later in
        let place : x.at ≡ n.at = ap (λ (y : Mark). y.at) same in
        absurd (omega (arith, above, place, places))
    by (inr later) (inr other) both = both later other
