-- What a class says of the sign of its marks, and what the next sign says of the next class.
use Rattle.std.proofs.Common.{◌≡◌, ℕ, List, [], ◌∷◌, Bool, true, false, Some, nat_eq, slice_get, refl, sym, ◌∙◌, ap, subst}
use Rattle.std.proofs.lemmas.Bool.{eqb-true, eq-eqb}
use Rattle.token_grammar.specs.Language.{one}
use Rattle.token_grammar.specs.Reading.{TakesPart, IsNextOf}
use Rattle.token_grammar.specs.Values.{IsOne}
use Rattle.token_grammar.proofs.Rows.{takes_next, takes_as}
use Rattle.rank_expr.specs.declared.expr.PairOp.{PairOp}
use Rattle.rank_expr.specs.declared.mark.Leaf.{Leaf}
use Rattle.rank_expr.specs.declared.mark.Mark.{Mark}
use Rattle.rank_expr.specs.declared.mark.Sign.{Sign}
use Rattle.rank_expr.specs.declared.mark.Sign.TheVariants as signs
use Rattle.rank_expr.specs.declared.mark.Single.{Single}
use Rattle.rank_expr.specs.declared.class.Class.{Class}
use Rattle.rank_expr.specs.declared.class.Class.TheVariants as classes
use Rattle.rank_expr.specs.Grammar.{Is}
use Rattle.rank_expr.specs.steps.Classes.{class_of, class_number, same_class, fits, is_end, IsBeforeEnd, IsNextSign}
use Rattle.rank_expr.specs.steps.MarkAlphabet.{expr_marks}

-- the signs of a class
abbrev pub IsOf : Class → Sign → Type 0
IsOf classes.Leaf sign = (leaf : Leaf) × (sign ≡ signs.Leaf leaf)
IsOf classes.Open sign = sign ≡ signs.Open
IsOf classes.Close sign = sign ≡ signs.Close
IsOf classes.Comma sign = sign ≡ signs.Comma
IsOf classes.Single sign = (call : Single) × (sign ≡ signs.Single call)
IsOf classes.Double sign = (op : PairOp) × (sign ≡ signs.Double op)
IsOf classes.Triple sign = sign ≡ signs.Triple
IsOf classes.Plus sign = sign ≡ signs.Plus
IsOf classes.Minus sign = sign ≡ signs.Minus
IsOf classes.Star sign = sign ≡ signs.Star
IsOf classes.Compare sign = (op : PairOp) × (sign ≡ signs.Compare op)
IsOf classes.Unfit sign = Unit {0}
IsOf classes.End sign = sign ≡ signs.End

of_its_class : (sign : Sign) → IsOf (class_of sign) sign
of_its_class (signs.Leaf leaf) = (leaf, refl)
of_its_class signs.TooLarge = tt
of_its_class signs.Unknown = tt
of_its_class signs.Misplaced = tt
of_its_class signs.Open = refl
of_its_class signs.Close = refl
of_its_class signs.Comma = refl
of_its_class (signs.Single call) = (call, refl)
of_its_class (signs.Double op) = (op, refl)
of_its_class signs.Triple = refl
of_its_class signs.Plus = refl
of_its_class signs.Minus = refl
of_its_class signs.Star = refl
of_its_class (signs.Compare op) = (op, refl)
of_its_class signs.Division = tt
of_its_class signs.Other = tt
of_its_class signs.End = refl

abbrev class_values : List Class
class_values =
    classes.Leaf ∷ classes.Open ∷ classes.Close ∷ classes.Comma ∷ classes.Single ∷ classes.Double ∷ classes.Triple ∷ classes.Plus ∷ classes.Minus
    ∷ classes.Star ∷ classes.Compare ∷ classes.Unfit ∷ classes.End ∷ []

class_numbered : (c : Class) → slice_get class_values (class_number c) ≡ Some c
class_numbered classes.Leaf = refl
class_numbered classes.Open = refl
class_numbered classes.Close = refl
class_numbered classes.Comma = refl
class_numbered classes.Single = refl
class_numbered classes.Double = refl
class_numbered classes.Triple = refl
class_numbered classes.Plus = refl
class_numbered classes.Minus = refl
class_numbered classes.Star = refl
class_numbered classes.Compare = refl
class_numbered classes.Unfit = refl
class_numbered classes.End = refl

some_same : (c d : Class) → Some c ≡ Some d → c ≡ d
some_same c d e = cc

pub class_same : (c d : Class) → same_class c d ≡ true → c ≡ d
class_same c d e =
    some_same c d (sym (class_numbered c) ∙ ap (λ n. slice_get class_values n) (eqb-true (class_number c) (class_number d) e) ∙ class_numbered d)

pub sign_is : (c : Class) (m : Mark) → fits c m ≡ true → IsOf c m.sign
sign_is c m fit = subst (λ (d : Class). IsOf d m.sign) (sym (class_same c (class_of m.sign) fit)) (of_its_class m.sign)

pub class_fits : (sign : Sign) (m : Mark) → m.sign ≡ sign → fits (class_of sign) m ≡ true
class_fits sign m is = eq-eqb (class_number (class_of sign)) (class_number (class_of m.sign)) (ap (λ (s : Sign). class_number (class_of s)) (sym is))

-- A mark of a class is of no other class.
pub next_other : {c : Class} {before : List Mark} (d : Class) → IsNextOf expr_marks c before true → same_class d c ≡ false → IsNextOf expr_marks d before false
next_other {c} {before} d n other = record { next = n.next; rest = n.rest; is = n.is; fits = ap (same_class d) (sym (class_same c (class_of n.next.sign) n.fits)) ∙ other }

-- what the next sign says of the next class
pub next_is : {s t : Sign} {before : List Mark} (c : Class) (answer : Bool) → IsNextSign s before → s ≡ t → same_class c (class_of t) ≡ answer → IsNextOf expr_marks c before answer
next_is {s} {t} {before} c answer n e h = record { next = n.next; rest = n.rest; is = n.is; fits = ap (λ x. same_class c (class_of x)) (n.sign_is ∙ e) ∙ h }

pub next_not : {s : Sign} {before : List Mark} (c : Class) → IsNextSign s before → (IsOf c s → ⊥) → IsNextOf expr_marks c before false
next_not {s} {before} c n other = record { next = n.next; rest = n.rest; is = n.is; fits = go (fits c n.next) refl }
  where
    go : (b : Bool) → fits c n.next ≡ b → fits c n.next ≡ false
    go true e = absurd (other (subst (λ (t : Sign). IsOf c t) n.sign_is (sign_is c n.next e)))
    go false e = e

-- the next mark was taken
pub takes_sign : {s t : Sign} {m : Mark} {cs : List Class} {before now : List Mark} (c : Class) → IsNextSign s before → s ≡ t → same_class c (class_of t) ≡ true → before ≡ m ∷ now → TakesPart expr_marks (one c) cs (Is t) before now
takes_sign {s} {t} {m} {cs} {before} {now} c n e h is =
    let same : n.next ≡ m = cc (n.is, is) in
    takes_next (next_is c true n e h) is (λ fit. (m, refl, ap (λ (x : Mark). x.sign) (sym same) ∙ n.sign_is ∙ e))

-- a mark of a class that has one sign
pub takes_as_sign : {cs : List Class} {before now : List Mark} (c : Class) (t : Sign) → ((s : Sign) → IsOf c s → s ≡ t) → TakesPart expr_marks (one c) cs (IsOne (λ m. fits c m ≡ true)) before now → TakesPart expr_marks (one c) cs (Is t) before now
takes_as_sign c t only h = takes_as (λ u (m, is, fit). (m, is, only m.sign (sign_is c m fit))) h

pub mark_taken : {c : Class} {cs : List Class} {m : Mark} {before now : List Mark} → IsNextOf expr_marks c before true → before ≡ m ∷ now → TakesPart expr_marks (one c) cs (IsOne (λ m. fits c m ≡ true)) before now
mark_taken {c} {cs} {m} {before} {now} n is = takes_next n is (λ fit. (m, refl, fit))

-- what two numbers of classes say
pub next_numbered : {s : Sign} {d : Class} {x y : ℕ} {before : List Mark} (c : Class) (answer : Bool) → IsNextSign s before → x ≡ class_number c → d ≡ class_of s → y ≡ class_number d → nat_eq x y ≡ answer → IsNextOf expr_marks c before answer
next_numbered {s} {d} {x} {y} c answer n first is second h =
    let same : same_class c (class_of s) ≡ answer = ap (λ k. nat_eq k (class_number (class_of s))) (sym first) ∙ ap (λ (k : ℕ). nat_eq x k) (ap class_number (sym is) ∙ sym second) ∙ h in
    next_is c answer n refl same

pub next_before : {s : Sign} {before : List Mark} → IsNextSign s before → is_end s ≡ false → IsBeforeEnd before
next_before n e = record { next = n.next; rest = n.rest; is = n.is; no_end = ap is_end n.sign_is ∙ e }
