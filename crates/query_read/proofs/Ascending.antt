-- Marks that ascend: parts of them, their places, and those before a place.
use Rattle.std.proofs.Common.{◌≡◌, suc, zero, ◌<◌, ◌+◌, ltb, List, [], ◌∷◌, ◌++◌, length, ◌⊎◌, inl, inr, refl, sym, ◌∙◌, ap, subst, arith}
use Rattle.std.specs.Prelude.{Contains}
use Rattle.std.specs.List.{prefix_len}
use Rattle.std.proofs.lemmas.Bool.{cond-true, cond-false, lt-ltb, le-ltb}
use Rattle.std.proofs.lemmas.List.Elements.{Contains-append_left, Contains-append_right}
use Rattle.query_marks.specs.declared.mark.Mark.{Mark}
use Rattle.query_grammar.specs.steps.MarkFacts.{Ascend}

pub contains_first : (m : Mark) (marks : List Mark) → Contains (m ∷ marks) m
contains_first m marks = (0, omega arith, refl)

pub contains_at : (a : List Mark) (m : Mark) (b : List Mark) → Contains (a ++ m ∷ b) m
contains_at a m b = Contains-append_right a (m ∷ b) m (contains_first m b)

pub contains_cases : (m : Mark) (marks : List Mark) (n : Mark) → Contains (m ∷ marks) n → (m ≡ n) ⊎ Contains marks n
contains_cases m marks n (zero, within, is) = inl is
contains_cases m marks n (suc k, within, is) = inr (k, omega (arith, within), is)

pub split_contains : (marks a : List Mark) (m : Mark) (b : List Mark) → marks ≡ a ++ m ∷ b → Contains marks m
split_contains marks a m b is = subst (λ (l : List Mark). Contains l m) (sym is) (contains_at a m b)

pub ascend_before : (a b : List Mark) → Ascend (a ++ b) → Ascend a
ascend_before [] b up = tt
ascend_before (m ∷ a) b up = (λ n has. up.0 n (Contains-append_left a b n has), ascend_before a b up.1)

pub ascend_after : (a b : List Mark) → Ascend (a ++ b) → Ascend b
ascend_after [] b up = up
ascend_after (m ∷ a) b up = ascend_after a b up.1

-- each mark of the first part stands before each of the second
pub ascend_over : (a b : List Mark) (m n : Mark) → Ascend (a ++ b) → Contains a m → Contains b n → m.at < n.at
ascend_over [] b m n up (k, within, is) there = absurd (omega (arith, within))
ascend_over (x ∷ a) b m n up here there = elim (contains_cases x a m here) [
  | inl same ↦ subst (λ (y : Mark). y.at < n.at) same (up.0 n (Contains-append_right a b n there))
  | inr later ↦ ascend_over a b m n up.1 later there
]

-- one mark stands at a place
pub one_at_place : (marks : List Mark) (m n : Mark) → Ascend marks → Contains marks m → Contains marks n → m.at ≡ n.at → m ≡ n
one_at_place [] m n up (k, within, is) there same = absurd (omega (arith, within))
one_at_place (x ∷ marks) m n up here there same = elim (contains_cases x marks m here) [
  | inl first ↦ elim (contains_cases x marks n there) [
    | inl first' ↦ sym first ∙ first'
    | inr later ↦ (let below : x.at < n.at = up.0 n later in let at : x.at ≡ m.at = ap (λ (y : Mark). y.at) first in absurd (omega (arith, below, at, same)))
  ]
  | inr later ↦ elim (contains_cases x marks n there) [
    | inl first ↦ (let below : x.at < m.at = up.0 m later in let at : x.at ≡ n.at = ap (λ (y : Mark). y.at) first in absurd (omega (arith, below, at, same)))
    | inr later' ↦ one_at_place marks m n up.1 later later' same
  ]
]

-- those before a mark are those whose places are less
pub length_before : (front : List Mark) (stop : Mark) (rest : List Mark) → Ascend (front ++ stop ∷ rest) → prefix_len (λ (m : Mark). ltb m.at stop.at) (front ++ stop ∷ rest) ≡ length front
length_before [] stop rest up = cond-false (ltb stop.at stop.at) (1 + prefix_len (λ (m : Mark). ltb m.at stop.at) rest) 0 (le-ltb stop.at stop.at (omega arith))
length_before (m ∷ front) stop rest up =
    let later : prefix_len (λ (m : Mark). ltb m.at stop.at) (front ++ stop ∷ rest) ≡ length front = length_before front stop rest up.1 in
    let first : prefix_len (λ (m : Mark). ltb m.at stop.at) (m ∷ (front ++ stop ∷ rest)) ≡ 1 + prefix_len (λ (m : Mark). ltb m.at stop.at) (front ++ stop ∷ rest) =
    cond-true (ltb m.at stop.at) (1 + prefix_len (λ (m : Mark). ltb m.at stop.at) (front ++ stop ∷ rest)) 0 (lt-ltb m.at stop.at (up.0 stop (contains_at front stop rest))) in
    omega (arith, later, first)
