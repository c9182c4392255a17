-- A text that is cut goes on with groups that are nested less deep, if what stands before the cut isn't nested deeper: a group
-- after the cut is one loose piece, and one around it loses a level.
use Rattle.std.proofs.Common.{◌≡◌, ℕ, List, [], ◌∷◌, ◌++◌, false, inl, inr, refl, sym, ◌∙◌, ap, subst, append_assoc, append-nil}
use Rattle.token_grammar.specs.Language.{Re, one, seq, alt, many, Repeats, none, more, In, ◌⨾◌}
use Rattle.query_marks.specs.declared.mark.Mark.{Mark}
use Rattle.query_grammar.specs.declared.class.Class.{Class}
use Rattle.query_grammar.specs.declared.class.Class.TheVariants as classes
use Rattle.query_grammar.specs.steps.Classes.{same_class}
use Rattle.query_grammar.specs.steps.MarkAlphabet.{query_marks}
use Rattle.query_grammar.specs.steps.QueryGrammar.{leaf, leaves, join_of, alternatives_of, item_of, items_of, section_of, and_of, expr_of}
use Rattle.query_grammar.proofs.MarkClasses.{nothing_twice, split}
use Rattle.query_grammar.proofs.Rooms.{Balanced, balanced_kept, balanced_one, Fits, fits_front, fits_back}
use Rattle.query_grammar.proofs.KeptInTexts.{Keeps, keeps_seq, keeps_alt, keeps_many}

-- The tokens before a cut go on to a text of the part, and need nothing more where nothing stood after them.
pub record Cut (r : Re Class) (front later : List Mark) : Type 0 where
  pub tail : List Mark
  pub goes : In query_marks r (front ++ tail)
  pub whole : later ≡ [] → tail ≡ []

-- a text of the part r that is cut goes on to one of the part s
pub record Cuts (k : ℕ) (r s : Re Class) : Type 0 where
  pub balanced : Keeps (Balanced k) s
  pub cut : (p q : List Mark) → In query_marks r (p ++ q) → Fits k p → Cut s p q

pub cut_whole : {k : ℕ} {r s : Re Class} → Cuts k r s → (u : List Mark) → In query_marks r u → Fits k u → In query_marks s u
cut_whole {k} {r} {s} h u i fit =
    let c = h.cut u [] (subst (λ w. In query_marks r w) (sym (append-nil u)) i) fit in
    subst (λ w. In query_marks s w) (ap (λ w. u ++ w) (c.whole refl) ∙ append-nil u) c.goes

-- The cut is in the first of two parts, or in the second. There is a cut at the front of the second too.
pub cut_two : {k : ℕ} {r r' : Re Class} (s' : Re Class) → Cuts k r r' → (p q a b : List Mark) → p ++ q ≡ a ++ b → In query_marks r a → Fits k p → ((v w : List Mark) → b ≡ v ++ w → Fits k v → Cut s' v w) → Cut (seq r' s') p q
unfolding In
cut_two {k} {r} {r'} s' first p q a b e i fit second = elim (split p q a b e) [
  | inl h ↦
      let (c, f, g) = h in
      let x = first.cut p c (subst (λ w. In query_marks r w) f i) fit in
      let y = second [] b refl (k, refl) in
      record {
        tail = x.tail ++ y.tail;
        goes = (p ++ x.tail, y.tail, sym (append_assoc p x.tail y.tail), x.goes, y.goes);
        whole = λ nothing. let (n, o) = nothing_twice c b (sym g ∙ nothing) in ap (λ w. w ++ y.tail) (x.whole n) ∙ y.whole o;
      }
  | inr h ↦
      let (m, c, f, g) = h in
      let fit_all : Fits k (a ++ (m ∷ c)) = subst (λ w. Fits k w) f fit in
      let in_a : In query_marks r' a = cut_whole first a i (fits_front k a (m ∷ c) fit_all) in
      let y = second (m ∷ c) q g (fits_back k a (m ∷ c) (first.balanced.holds a in_a) fit_all) in
      record {
        tail = y.tail;
        goes = (a, (m ∷ c) ++ y.tail, ap (λ w. w ++ y.tail) f ∙ append_assoc a (m ∷ c) y.tail, in_a, y.goes);
        whole = y.whole;
      }
]

-- a part without groups is as it was
pub cut_same : {k : ℕ} {r : Re Class} → Keeps (Balanced k) r → Cuts k r r
cut_same balanced = record { balanced = balanced; cut = λ p q i fit. record { tail = q; goes = i; whole = λ e. e } }

pub cut_seq : {k : ℕ} {r s r' s' : Re Class} → Cuts k r r' → Cuts k s s' → Cuts k (seq r s) (seq r' s')
unfolding In
cut_seq {k} {r} {s} {r'} {s'} first second = record {
  balanced = keeps_seq (balanced_kept k) first.balanced second.balanced;
  cut = λ p q (a, b, e, i, j) fit. cut_two s' first p q a b e i fit (λ v w f fit_v. second.cut v w (subst (λ x. In query_marks s x) f j) fit_v);
}

pub cut_alt : {k : ℕ} {r s r' s' : Re Class} → Cuts k r r' → Cuts k s s' → Cuts k (alt r s) (alt r' s')
unfolding In
cut_alt {k} {r} {s} {r'} {s'} first second = record {
  balanced = keeps_alt (balanced_kept k) first.balanced second.balanced;
  cut = λ p q h fit. elim h [
    | inl i ↦ let c = first.cut p q i fit in record { tail = c.tail; goes = inl c.goes; whole = c.whole }
    | inr j ↦ let c = second.cut p q j fit in record { tail = c.tail; goes = inr c.goes; whole = c.whole }
  ];
}

repeats_cut : {k : ℕ} {r r' : Re Class} → Cuts k r r' → (u p q : List Mark) → u ≡ p ++ q → Repeats (In query_marks r) u → Fits k p → Cut (many r') p q
unfolding In
repeats_cut {k} {r} {r'} each u p q is (none e) fit =
    let (n, o) = nothing_twice p q (sym is ∙ e) in
    record { tail = []; goes = none (append-nil p ∙ n); whole = λ nothing. refl }
repeats_cut {k} {r} {r'} each u p q is (more a b e i rest) fit =
    let c = cut_two (many r') each p q a b (sym is ∙ e) i fit (λ v w f fit_v. repeats_cut each b v w f rest fit_v) in
    let (x, y, f, in_x, in_y) = c.goes in
    record { tail = c.tail; goes = more x y f in_x in_y; whole = c.whole }

pub cut_many : {k : ℕ} {r r' : Re Class} → Cuts k r r' → Cuts k (many r) (many r')
unfolding In
cut_many {k} each = record { balanced = keeps_many (balanced_kept k) each.balanced; cut = λ p q h fit. repeats_cut each (p ++ q) p q refl h fit }

-- a mark that is no bracket
pub cut_one : (k : ℕ) (c : Class) → same_class classes.Open c ≡ false → same_class classes.Close c ≡ false → Cuts k (one c) (one c)
cut_one k c unlike_open unlike_close = cut_same (balanced_one k c unlike_open unlike_close)

-- an expression, by its groups
pub expr_cut : (k : ℕ) (o o' : Re Class) → Cuts k o o' → Cuts k (expr_of o) (expr_of o')
expr_cut k o o' group =
    let leaf_cut : Cuts k leaf leaf = cut_one k classes.Leaf refl refl in
    let sentence : Cuts k (one classes.Sentence ⨾ leaf) (one classes.Sentence ⨾ leaf) = cut_seq (cut_one k classes.Sentence refl refl) leaf_cut in
    let paragraph : Cuts k (one classes.Paragraph ⨾ leaf) (one classes.Paragraph ⨾ leaf) = cut_seq (cut_one k classes.Paragraph refl refl) leaf_cut in
    let leaves_cut : Cuts k leaves leaves = cut_seq leaf_cut (cut_alt (cut_many sentence) (cut_many paragraph)) in
    let join_cut : Cuts k (join_of o) (join_of o') = cut_alt leaves_cut group in
    let choice : Cuts k (one classes.Or ⨾ join_of o) (one classes.Or ⨾ join_of o') = cut_seq (cut_one k classes.Or refl refl) join_cut in
    let maybe : Cuts k (one classes.Maybe ⨾ join_of o) (one classes.Maybe ⨾ join_of o') = cut_seq (cut_one k classes.Maybe refl refl) join_cut in
    let alternatives_cut : Cuts k (alternatives_of o) (alternatives_of o') = cut_seq join_cut (cut_many (cut_alt choice maybe)) in
    let item_cut : Cuts k (item_of o) (item_of o') = cut_alt (cut_seq (cut_one k classes.Not refl refl) join_cut) alternatives_cut in
    let items_cut : Cuts k (items_of o) (items_of o') = cut_seq item_cut (cut_many item_cut) in
    let limit : Cuts k (one classes.Limit) (one classes.Limit) = cut_one k classes.Limit refl refl in
    let section_cut : Cuts k (section_of o) (section_of o') = cut_seq (cut_many limit) items_cut in
    let and_cut : Cuts k (and_of o) (and_of o') = cut_seq section_cut (cut_many (cut_seq limit section_cut)) in
    let before : Cuts k (one classes.Before ⨾ and_of o) (one classes.Before ⨾ and_of o') = cut_seq (cut_one k classes.Before refl refl) and_cut in
    let near : Cuts k (one classes.Near ⨾ and_of o) (one classes.Near ⨾ and_of o') = cut_seq (cut_one k classes.Near refl refl) and_cut in
    cut_seq and_cut (cut_many (cut_alt before near))
