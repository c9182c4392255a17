-- What a class says of the sign of its marks.
use Rattle.std.proofs.Common.{◌≡◌, ℕ, List, [], ◌∷◌, true, Some, ◌⊎◌, inl, inr, slice_get, refl, sym, ◌∙◌, ap, subst}
use Rattle.std.proofs.lemmas.Bool.{eqb-true, eq-eqb}
use Rattle.query_tree.specs.declared.key.Key.{Key}
use Rattle.query_tree.specs.declared.key.How.{How}
use Rattle.query_marks.specs.declared.mark.Mark.{Mark}
use Rattle.query_marks.specs.declared.mark.Sign.{Sign}
use Rattle.query_marks.specs.declared.mark.Sign.TheVariants as signs
use Rattle.query_grammar.specs.declared.class.Class.{Class}
use Rattle.query_grammar.specs.declared.class.Class.TheVariants as classes
use Rattle.query_grammar.specs.steps.Classes.{class_of, class_number, same_class, fits}

-- the signs of a class
abbrev pub IsOf : Class → Sign → Type 0
IsOf classes.Leaf sign = ((key : Key) × (sign ≡ signs.Bare key)) ⊎ ((keys : List Key) × (sign ≡ signs.Phrase keys))
IsOf classes.Loose sign = (keys : List Key) × (how : How) × (sign ≡ signs.Loose keys how)
IsOf classes.Open sign = sign ≡ signs.Open
IsOf classes.Close sign = sign ≡ signs.Close
IsOf classes.Or sign = sign ≡ signs.Or
IsOf classes.Before sign = sign ≡ signs.Before
IsOf classes.Not sign = sign ≡ signs.Not
IsOf classes.Maybe sign = sign ≡ signs.Maybe
IsOf classes.Sentence sign = sign ≡ signs.Sentence
IsOf classes.Paragraph sign = sign ≡ signs.Paragraph
IsOf classes.Near sign = (n : ℕ) × (sign ≡ signs.Near n)
IsOf classes.Limit sign = (sign ≡ signs.Limits) ⊎ ((zones : List ℕ) × (sign ≡ signs.Spans zones))
IsOf classes.Relaxed sign = sign ≡ signs.Relaxed
IsOf classes.Unclosed sign = sign ≡ signs.Unclosed
IsOf classes.End sign = sign ≡ signs.End

of_its_class : (sign : Sign) → IsOf (class_of sign) sign
of_its_class (signs.Bare key) = inl (key, refl)
of_its_class (signs.Phrase keys) = inr (keys, refl)
of_its_class (signs.Loose keys how) = (keys, how, refl)
of_its_class signs.Open = refl
of_its_class signs.Close = refl
of_its_class signs.Or = refl
of_its_class signs.Before = refl
of_its_class signs.Not = refl
of_its_class signs.Maybe = refl
of_its_class signs.Sentence = refl
of_its_class signs.Paragraph = refl
of_its_class (signs.Near n) = (n, refl)
of_its_class signs.Limits = inl refl
of_its_class (signs.Spans zones) = inr (zones, refl)
of_its_class signs.Relaxed = refl
of_its_class signs.Unclosed = refl
of_its_class signs.End = refl

abbrev class_values : List Class
class_values = classes.Leaf ∷ classes.Loose ∷ classes.Open ∷ classes.Close ∷ classes.Or ∷ classes.Before ∷ classes.Not ∷ classes.Maybe ∷ classes.Sentence ∷ classes.Paragraph ∷ classes.Near ∷ classes.Limit ∷ classes.Relaxed ∷ classes.Unclosed ∷ classes.End ∷ []

class_numbered : (c : Class) → slice_get class_values (class_number c) ≡ Some c
class_numbered classes.Leaf = refl
class_numbered classes.Loose = refl
class_numbered classes.Open = refl
class_numbered classes.Close = refl
class_numbered classes.Or = refl
class_numbered classes.Before = refl
class_numbered classes.Not = refl
class_numbered classes.Maybe = refl
class_numbered classes.Sentence = refl
class_numbered classes.Paragraph = refl
class_numbered classes.Near = refl
class_numbered classes.Limit = refl
class_numbered classes.Relaxed = refl
class_numbered classes.Unclosed = refl
class_numbered classes.End = refl

some_same : (c d : Class) → Some c ≡ Some d → c ≡ d
some_same c d e = cc

pub class_same : (c d : Class) → same_class c d ≡ true → c ≡ d
class_same c d e =
    some_same c d (sym (class_numbered c) ∙ ap (λ n. slice_get class_values n) (eqb-true (class_number c) (class_number d) e) ∙ class_numbered d)

pub sign_is : (c : Class) (m : Mark) → fits c m ≡ true → IsOf c m.sign
sign_is c m fit = subst (λ (d : Class). IsOf d m.sign) (sym (class_same c (class_of m.sign) fit)) (of_its_class m.sign)

pub class_fits : (sign : Sign) (m : Mark) → m.sign ≡ sign → fits (class_of sign) m ≡ true
class_fits sign m is = eq-eqb (class_number (class_of sign)) (class_number (class_of m.sign)) (ap (λ (s : Sign). class_number (class_of s)) (sym is))
