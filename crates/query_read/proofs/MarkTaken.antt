-- What the cursor makes of one mark.
use Rattle.std.proofs.Common.{◌≡◌, List, ◌∷◌, true, refl, sym, ◌∙◌, ap, arith}
use Rattle.std.proofs.lemmas.Bool.{eqb-true}
use Rattle.token_grammar.specs.Language.{one}
use Rattle.token_grammar.specs.Reading.{TakesPart, IsNextOf}
use Rattle.token_grammar.specs.Values.{IsOne}
use Rattle.token_grammar.proofs.Rows.{takes_next}
use Rattle.query_marks.specs.declared.mark.Mark.{Mark}
use Rattle.query_grammar.specs.declared.class.Class.{Class}
use Rattle.query_grammar.specs.declared.class.Class.TheVariants as classes
use Rattle.query_grammar.specs.steps.Classes.{class_of, class_number, fits, next_class}
use Rattle.query_grammar.specs.steps.MarkAlphabet.{query_marks}

pub mark_taken : {c : Class} {cs : List Class} {m : Mark} {before now : List Mark} → IsNextOf query_marks c before true → before ≡ m ∷ now → TakesPart query_marks (one c) cs (IsOne (λ m. fits c m ≡ true)) before now
mark_taken {c} {cs} {m} {before} {now} n is = takes_next n is (λ fit. (m, refl, fit))

-- a class with the number of the end is the end
end_only : (c : Class) → class_number c ≡ 14 → c ≡ classes.End
end_only classes.End e = refl
end_only classes.Leaf e = absurd (omega (arith, e))
end_only classes.Loose e = absurd (omega (arith, e))
end_only classes.Open e = absurd (omega (arith, e))
end_only classes.Close e = absurd (omega (arith, e))
end_only classes.Or e = absurd (omega (arith, e))
end_only classes.Before e = absurd (omega (arith, e))
end_only classes.Not e = absurd (omega (arith, e))
end_only classes.Maybe e = absurd (omega (arith, e))
end_only classes.Sentence e = absurd (omega (arith, e))
end_only classes.Paragraph e = absurd (omega (arith, e))
end_only classes.Near e = absurd (omega (arith, e))
end_only classes.Limit e = absurd (omega (arith, e))
end_only classes.Relaxed e = absurd (omega (arith, e))
end_only classes.Unclosed e = absurd (omega (arith, e))

pub no_end : {c : Class} {before : List Mark} → (c ≡ classes.End → ⊥) → IsNextOf query_marks c before true → next_class before ≡ classes.End → ⊥
no_end {c} {before} other n end =
    let class : class_of n.next.sign ≡ classes.End = ap next_class (sym n.is) ∙ end in
    other (end_only c (eqb-true (class_number c) (class_number (class_of n.next.sign)) n.fits ∙ ap class_number class))
