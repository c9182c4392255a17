-- Marks by their classes, and lists that are cut twice.
use Rattle.std.proofs.Common.{◌≡◌, List, [], ◌∷◌, ◌++◌, true, ◌⊎◌, inl, inr, refl, sym, ◌∙◌, ap}
use Rattle.std.specs.Prelude.{◌==◌, ◌||◌}
use Rattle.std.proofs.lemmas.Bool.{eqb-true}
use Rattle.query_marks.specs.declared.mark.Mark.{Mark}
use Rattle.query_grammar.specs.declared.class.Class.{Class}
use Rattle.query_grammar.specs.declared.class.Class.TheVariants as classes
use Rattle.query_grammar.specs.steps.Classes.{class_of, class_number, same_class, fits}
use Rattle.query_grammar.specs.steps.Joined.{is_joining, ends_joined}

-- a mark of a class is of another one exactly where the classes are the same
pub fits_like : (d c : Class) (m : Mark) → fits c m ≡ true → fits d m ≡ same_class d c
fits_like d c m e = ap (λ n. class_number d == n) (sym (eqb-true (class_number c) (class_number (class_of m.sign)) e))

pub joining_like : (c : Class) (m : Mark) → fits c m ≡ true → is_joining m ≡ (same_class classes.Sentence c || same_class classes.Paragraph c)
joining_like c m e =
    ap (λ b. b || fits classes.Paragraph m) (fits_like classes.Sentence c m e)
    ∙ ap (λ b. same_class classes.Sentence c || b) (fits_like classes.Paragraph c m e)

-- the last mark is that of the second list
pub ends_last : (a : List Mark) (m : Mark) (b : List Mark) → ends_joined (a ++ (m ∷ b)) ≡ ends_joined (m ∷ b)
ends_last [] m b = refl
ends_last (x ∷ []) m b = refl
ends_last (x ∷ y ∷ a) m b = ends_last (y ∷ a) m b

pub nothing_twice : {T : Type 0} (a b : List T) → a ++ b ≡ [] → (a ≡ []) × (b ≡ [])
nothing_twice [] b e = (refl, e)
nothing_twice (x ∷ a) b e = cc

-- Of a list cut twice the first cut is in the first part or after it; at its end it is in the first part.
pub split : {T : Type 0} (p q a b : List T) → p ++ q ≡ a ++ b → ((c : List T) × (a ≡ p ++ c) × (q ≡ c ++ b)) ⊎ ((x : T) × (c : List T) × (p ≡ a ++ (x ∷ c)) × (b ≡ (x ∷ c) ++ q))
split [] q a b e = inl (a, refl, e)
split (y ∷ p) q [] b e = inr (y, p, refl, sym e)
split {T} (y ∷ p) q (z ∷ a) b e =
    let same : y ≡ z = cc in
    let rest : p ++ q ≡ a ++ b = cc in
    elim (split p q a b rest) [
      | inl h ↦ let (c, f, g) = h in inl (c, ap (λ u. z ∷ u) f ∙ ap (λ (t : T). t ∷ (p ++ c)) (sym same), g)
      | inr h ↦ let (x, c, f, g) = h in inr (x, c, ap (λ u. y ∷ u) f ∙ ap (λ (t : T). t ∷ (a ++ (x ∷ c))) same, g)
    ]
