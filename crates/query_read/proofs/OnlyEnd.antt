-- A text of which nothing is left but its end is seen by its first mark.
use Rattle.std.proofs.Common.{◌≡◌, ◌⊎◌, inl, inr, ℕ, ◌<◌, Bool, true, false, List, [], ◌∷◌, ◌++◌, refl, sym, ap, ◌∙◌, subst, arith}
use Rattle.std.specs.Prelude.{None, not}
use Rattle.std.proofs.lemmas.Bool.{and_parts}
use Rattle.token_grammar.specs.Reading.{IsNextOf}
use Rattle.query_marks.specs.declared.mark.Mark.{Mark}
use Rattle.query_marks.specs.declared.mark.Sign.{Sign}
use Rattle.query_marks.specs.declared.mark.Sign.TheVariants as signs
use Rattle.query_marks.specs.Marks.{mark_at}
use Rattle.query_marks.specs.Enough.{AreEnough, has_not, has_wrong, depth_after}
use Rattle.query_grammar.specs.declared.class.Class.TheVariants as classes
use Rattle.query_grammar.specs.Grammar.{Is}
use Rattle.query_grammar.specs.steps.Classes.{class_of, same_class, fits, is_ended}
use Rattle.query_grammar.specs.steps.MarkAlphabet.{query_marks}

clash : (b : Bool) → b ≡ true → b ≡ false → ⊥
clash b e f = cc

not_true : (b : Bool) → not b ≡ true → b ≡ false
not_true true e = cc
not_true false e = refl

-- a sign of the class is the end
end_sign : (sign : Sign) → same_class classes.End (class_of sign) ≡ true → sign ≡ signs.End
end_sign signs.End e = refl
end_sign (signs.Bare key) e = cc
end_sign (signs.Phrase keys) e = cc
end_sign (signs.Loose keys how) e = cc
end_sign signs.Open e = cc
end_sign signs.Close e = cc
end_sign signs.Or e = cc
end_sign signs.Before e = cc
end_sign signs.Not e = cc
end_sign signs.Maybe e = cc
end_sign signs.Sentence e = cc
end_sign signs.Paragraph e = cc
end_sign (signs.Near n) e = cc
end_sign signs.Limits e = cc
end_sign (signs.Spans zones) e = cc
end_sign signs.Relaxed e = cc
end_sign signs.Unclosed e = cc

end_fits : (m : Mark) → m.sign ≡ signs.End → fits classes.End m ≡ true
end_fits m is = ap (λ sign. same_class classes.End (class_of sign)) is

-- the end is the last mark, so that nothing stands after it
alone : (m : Mark) (rest : List Mark) → is_ended (m ∷ rest) ≡ true → fits classes.End m ≡ true → rest ≡ []
alone m [] ended is = refl
alone m (n ∷ rest) ended is = absurd (clash (fits classes.End m) is (not_true (fits classes.End m) (and_parts (not (fits classes.End m)) (is_ended (n ∷ rest)) ended).0))

pub end_alone : {marks : List Mark} → is_ended marks ≡ true → IsNextOf query_marks classes.End marks true → Is signs.End marks
end_alone {marks} ended n =
    let none : n.rest ≡ [] = alone n.next n.rest (subst (λ l. is_ended l ≡ true) n.is ended) n.fits in
    (n.next, n.is ∙ ap (λ l. n.next ∷ l) none, end_sign n.next.sign n.fits)

pub more_than_end : {marks : List Mark} → IsNextOf query_marks classes.End marks false → Is signs.End marks → ⊥
more_than_end {marks} n (m, is, end) =
    let same : m ≡ n.next = cc (is, n.is) in
    clash (fits classes.End n.next) (ap (fits classes.End) (sym same) ∙ end_fits m end) n.fits

-- Where marks are cut short, something stands before the end that is given.
Decided : List Mark → Type 0
Decided read = (32 < depth_after 0 read) ⊎ ((has_wrong read ≡ true) × (has_not read ≡ false))

never_none : Decided [] → ⊥
unfolding Decided
never_none (inl deep) = omega (arith, deep)
never_none (inr wrong) = cc

-- .. so that nothing is left of all marks but the end exactly where it is so of those that are given
pub end_of_all : (size : ℕ) (all given : List Mark) → AreEnough size all given → Is signs.End given → Is signs.End all
unfolding Decided
end_of_all size all given (inl same) end = subst (λ l. Is signs.End l) same end
end_of_all size all given (inr cut) (m, is, end) = by cut.read (sym cut.given_is ∙ is) cut.decided
  where
    by : (read : List Mark) → read ++ mark_at size None signs.End ∷ [] ≡ m ∷ [] → Decided read → Is signs.End all
    by [] e decided = absurd (never_none decided)
    by (n ∷ []) e decided = cc
    by (n ∷ o ∷ read) e decided = cc

pub end_of_given : (size : ℕ) (all given : List Mark) → AreEnough size all given → Is signs.End all → Is signs.End given
unfolding Decided
end_of_given size all given (inl same) end = subst (λ l. Is signs.End l) (sym same) end
end_of_given size all given (inr cut) (m, is, end) = by cut.read cut.rest (sym cut.is ∙ is) cut.left cut.decided
  where
    by : (read rest : List Mark) → read ++ rest ≡ m ∷ [] → (rest ≡ [] → ⊥) → Decided read → Is signs.End given
    by [] rest e left decided = absurd (never_none decided)
    by (n ∷ []) [] e left decided = absurd (left refl)
    by (n ∷ []) (o ∷ rest) e left decided = cc
    by (n ∷ o ∷ read) rest e left decided = cc
