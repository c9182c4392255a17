-- Which signs are of a class, and what the next sign says of the next class.
use Rattle.std.proofs.Common.{◌≡◌, List, ◌∷◌, Bool, true, false, refl, sym, ◌∙◌, ap, subst}
use Rattle.token_grammar.specs.Language.{one}
use Rattle.token_grammar.specs.Reading.{TakesPart, IsNextOf}
use Rattle.token_grammar.proofs.Rows.{takes_next, takes_as}
use Rattle.query_marks.specs.declared.mark.Mark.{Mark}
use Rattle.query_marks.specs.declared.mark.Sign.{Sign}
use Rattle.query_grammar.specs.declared.class.Class.{Class}
use Rattle.query_grammar.specs.Grammar.{Is}
use Rattle.token_grammar.specs.Values.{IsOne}
use Rattle.query_grammar.specs.steps.Classes.{class_of, same_class, fits, IsNextClass, IsNextSign}
use Rattle.query_grammar.specs.steps.MarkAlphabet.{query_marks}
use Rattle.query_grammar.proofs.MarkSigns.{IsOf, sign_is, class_same}

-- other classes are told apart
pub same_not : (c d : Class) → (c ≡ d → ⊥) → same_class c d ≡ false
same_not c d other = go (same_class c d) refl
  where
    go : (b : Bool) → same_class c d ≡ b → same_class c d ≡ false
    go true e = absurd (other (class_same c d e))
    go false e = e

-- what the next sign says of the next class
pub next_is : {s t : Sign} {before : List Mark} (c : Class) (answer : Bool) → IsNextSign s before → s ≡ t → same_class c (class_of t) ≡ answer → IsNextOf query_marks c before answer
next_is {s} {t} {before} c answer n e h = record { next = n.next; rest = n.rest; is = n.is; fits = ap (λ x. same_class c (class_of x)) (n.sign_is ∙ e) ∙ h }

pub next_not : {s : Sign} {before : List Mark} (c : Class) → IsNextSign s before → (IsOf c s → ⊥) → IsNextOf query_marks c before false
next_not {s} {before} c n other = record { next = n.next; rest = n.rest; is = n.is; fits = go (fits c n.next) refl }
  where
    go : (b : Bool) → fits c n.next ≡ b → fits c n.next ≡ false
    go true e = absurd (other (subst (λ (t : Sign). IsOf c t) n.sign_is (sign_is c n.next e)))
    go false e = e

-- what the next class says
pub class_is : {d : Class} {before : List Mark} (c : Class) (answer : Bool) → IsNextClass d before → same_class c d ≡ answer → IsNextOf query_marks c before answer
class_is {d} {before} c answer n h = record { next = n.next; rest = n.rest; is = n.is; fits = ap (same_class c) n.class_is ∙ h }

-- the next mark was taken
pub takes_sign : {s t : Sign} {m : Mark} {cs : List Class} {before now : List Mark} (c : Class) → IsNextSign s before → s ≡ t → same_class c (class_of t) ≡ true → before ≡ m ∷ now → TakesPart query_marks (one c) cs (Is t) before now
takes_sign {s} {t} {m} {cs} {before} {now} c n e h is =
    let same : n.next ≡ m = cc (n.is, is) in
    takes_next (next_is c true n e h) is (λ fit. (m, refl, ap (λ (x : Mark). x.sign) (sym same) ∙ n.sign_is ∙ e))

-- a mark of a class that has one sign
pub takes_as_sign : {cs : List Class} {before now : List Mark} (c : Class) (t : Sign) → ((s : Sign) → IsOf c s → s ≡ t) → TakesPart query_marks (one c) cs (IsOne (λ m. fits c m ≡ true)) before now → TakesPart query_marks (one c) cs (Is t) before now
takes_as_sign c t only h = takes_as (λ u (m, is, fit). (m, is, only m.sign (sign_is c m fit))) h
