-- Queries that are cut, with groups nested so deep or less.
use Rattle.std.proofs.Common.{◌≡◌, ℕ, zero, suc, List, [], ◌∷◌, ◌++◌, true, false, inl, inr, refl, sym, ◌∙◌, ap, subst, append_assoc}
use Rattle.token_grammar.specs.Language.{Re, one, In, ◌⨾◌}
use Rattle.query_marks.specs.declared.mark.Mark.{Mark}
use Rattle.query_grammar.specs.declared.class.Class.{Class}
use Rattle.query_grammar.specs.declared.class.Class.TheVariants as classes
use Rattle.query_grammar.specs.steps.Classes.{fits}
use Rattle.query_grammar.specs.steps.ClassLaws.{some_mark}
use Rattle.query_grammar.specs.steps.MarkAlphabet.{query_marks}
use Rattle.query_grammar.specs.steps.QueryGrammar.{expr_of, others, query}
use Rattle.query_grammar.proofs.MarkClasses.{nothing_twice, split}
use Rattle.query_grammar.proofs.Rooms.{room, room_opened, unfit_opened, Balanced, balanced_kept, balanced_one, balanced_group, Fits, fits_front, fits_one_more}
use Rattle.query_grammar.proofs.KeptInTexts.{Keeps, keeps_empty}
use Rattle.query_grammar.proofs.Cutting.{Cut, Cuts, cut_whole, cut_same, cut_one, cut_seq, cut_alt, expr_cut}

-- an expression between brackets
abbrev pub group : Re Class → Re Class
group o = one classes.Open ⨾ expr_of o ⨾ one classes.Close

-- .. as its marks
pub record Bracketed (o : Re Class) (u : List Mark) : Type 0 where
  pub opening : Mark
  pub inside : List Mark
  pub closing : Mark
  pub is : u ≡ opening ∷ (inside ++ (closing ∷ []))
  pub opens : fits classes.Open opening ≡ true
  pub holds : In query_marks (expr_of o) inside
  pub closes : fits classes.Close closing ≡ true

pub bracketed : (o : Re Class) (u : List Mark) → In query_marks (group o) u → Bracketed o u
unfolding In
bracketed o u (a, bc, e, (m, em, fm), (b, c, f, holds, (z, ez, fz))) = record {
  opening = m;
  inside = b;
  closing = z;
  is = e ∙ ap (λ w. w ++ bc) em ∙ ap (λ w. m ∷ w) (f ∙ ap (λ w. b ++ w) ez);
  opens = fm;
  holds = holds;
  closes = fz;
}

pub in_group : (o : Re Class) (m : Mark) (b : List Mark) (z : Mark) → fits classes.Open m ≡ true → In query_marks (expr_of o) b → fits classes.Close z ≡ true → In query_marks (group o) (m ∷ (b ++ (z ∷ [])))
unfolding In
in_group o m b z fm holds fz = (m ∷ [], b ++ (z ∷ []), refl, (m, refl, fm), (b, z ∷ [], refl, holds, (z, refl, fz)))

-- a loose piece stands at every depth, ..
pub loose_in : (k : ℕ) (u : List Mark) → In query_marks (one classes.Loose) u → In query_marks (others k) u
unfolding others In
loose_in zero u i = i
loose_in (suc k) u i = inl i

-- .. and there is one
some_loose : (k : ℕ) → (m : Mark) × In query_marks (others k) (m ∷ [])
unfolding In
some_loose k = let (m, f) = some_mark classes.Loose in (m, loose_in k (m ∷ []) (m, refl, f))

group_balanced : (k : ℕ) (o : Re Class) → Keeps (Balanced k) (expr_of o) → (u : List Mark) → In query_marks (group o) u → Balanced (suc k) u
group_balanced k o inside u h =
    let g = bracketed o u h in
    subst (λ w. Balanced (suc k) w) (sym g.is) (balanced_group k g.opening g.closing g.inside g.opens (inside.holds g.inside g.holds) g.closes)

-- a group that is cut in its inside or at its end
cut_inside : (k : ℕ) (o : Re Class) → Cuts k o (expr_of (others k)) → (m : Mark) (inside : List Mark) (z : Mark) → fits classes.Open m ≡ true → In query_marks o inside → fits classes.Close z ≡ true → (p q : List Mark) → p ++ q ≡ inside ++ (z ∷ []) → Fits k p → Cut (group (others k)) (m ∷ p) q
cut_inside k o inner m inside z opens holds closes p q rest fit = elim (split p q inside (z ∷ []) rest) [
  | inl h ↦
      let (c, f, e) = h in
      let x = inner.cut p c (subst (λ w. In query_marks o w) f holds) fit in
      record {
        tail = x.tail ++ (z ∷ []);
        goes = subst (λ w. In query_marks (group (others k)) w) {y = m ∷ (p ++ (x.tail ++ (z ∷ [])))} (ap (λ w. m ∷ w) (append_assoc p x.tail (z ∷ []))) (in_group (others k) m (p ++ x.tail) z opens x.goes closes);
        whole = λ nothing. absurd (some (nothing_twice c (z ∷ []) (sym e ∙ nothing)).1);
      }
  | inr h ↦
      let (x, c, f, e) = h in
      let whole = cut_whole inner inside holds (fits_front k inside (x ∷ c) (subst (λ w. Fits k w) f fit)) in
      record {
        tail = q;
        goes = subst (λ w. In query_marks (group (others k)) w) {y = m ∷ (p ++ q)} (sym (ap (λ w. m ∷ w) rest)) (in_group (others k) m inside z opens whole closes);
        whole = λ nothing. nothing;
      }
]
  where
    some : z ∷ [] ≡ [] → ⊥
    some e = cc

in_others : (k : ℕ) (p q : List Mark) → Cut (group (others k)) p q → Cut (others (suc k)) p q
unfolding others In
in_others k p q c = record { tail = c.tail; goes = inr c.goes; whole = c.whole }

cut_bracketed : (d k : ℕ) → ((j : ℕ) → Cuts j (expr_of (others d)) (expr_of (others j))) → (p q : List Mark) → Bracketed (others d) (p ++ q) → Fits k p → Cut (others k) p q
cut_bracketed d k inner [] q g fit =
    let (m, i) = some_loose k in
    record { tail = m ∷ []; goes = i; whole = λ nothing. absurd (some nothing g.is) }
  where
    some : {m : Mark} {u : List Mark} → q ≡ [] → q ≡ m ∷ u → ⊥
    some e f = cc
cut_bracketed d zero inner (m ∷ p) q g fit =
    let same : g.opening ≡ m = cc (g.is) in
    absurd (unfit_opened m p (subst (λ (x : Mark). fits classes.Open x ≡ true) same g.opens) fit)
cut_bracketed d (suc k) inner (m ∷ p) q g (j, fit) =
    let same : g.opening ≡ m = cc (g.is) in
    let rest : p ++ q ≡ g.inside ++ (g.closing ∷ []) = cc (g.is) in
    let opens : fits classes.Open m ≡ true = subst (λ (x : Mark). fits classes.Open x ≡ true) same g.opens in
    let fit_p : Fits k p = (j, ap (λ o. room p o) (sym (room_opened k m opens)) ∙ fit) in
    in_others k (m ∷ p) q (cut_inside k (expr_of (others d)) (inner k) m g.inside g.closing opens g.holds g.closes p q rest fit_p)

cut_group : (d k : ℕ) → ((j : ℕ) → Cuts j (expr_of (others d)) (expr_of (others j))) → (p q : List Mark) → In query_marks (group (others d)) (p ++ q) → Fits k p → Cut (others k) p q
cut_group d k inner p q h fit = cut_bracketed d k inner p q (bracketed (others d) (p ++ q) h) fit

loose_cut : (k : ℕ) (p q : List Mark) → In query_marks (one classes.Loose) (p ++ q) → Cut (others k) p q
loose_cut k p q i = record { tail = q; goes = loose_in k (p ++ q) i; whole = λ nothing. nothing }

others_balanced : (k : ℕ) → Keeps (Balanced k) (others k)
unfolding others In
others_balanced zero = balanced_one 0 classes.Loose refl refl
others_balanced (suc k) = record {
  holds = λ u h. elim h [
    | inl i ↦ (balanced_one (suc k) classes.Loose refl refl).holds u i
    | inr g ↦ group_balanced k (others k) (expr_cut k (others k) (others k) (cut_same (others_balanced k))).balanced u g
  ];
}

others_cut : (d k : ℕ) → Cuts k (others d) (others k)
unfolding others In
others_cut zero k = record { balanced = others_balanced k; cut = λ p q h fit. loose_cut k p q h }
others_cut (suc d) k = record {
  balanced = others_balanced k;
  cut = λ p q h fit. elim h [
    | inl i ↦ loose_cut k p q i
    | inr g ↦ cut_group d k (λ j. expr_cut j (others d) (others j) (others_cut d j)) p q g fit
  ];
}

query_cut : (d k : ℕ) → Cuts k (query d) (query k)
unfolding query
query_cut d k =
    let relaxed = cut_one k classes.Relaxed refl refl in
    let end = cut_one k classes.End refl refl in
    cut_seq (cut_alt relaxed (cut_same (keeps_empty (balanced_kept k)))) (cut_seq (expr_cut k (others d) (others k) (others_cut d k)) end)

-- What begins a query of this depth goes on with a mark that opens no group, if it does so in a query of any depth.
pub goes_at_depth : (k d : ℕ) (front : List Mark) (m : Mark) (v w : List Mark) → fits classes.Open m ≡ false → In query_marks (query k) (front ++ v) → In query_marks (query d) ((front ++ (m ∷ [])) ++ w) → (tail : List Mark) × In query_marks (query k) ((front ++ (m ∷ [])) ++ tail)
goes_at_depth k d front m v w opens begins deeper =
    let balanced : Balanced k (front ++ v) = (query_cut k k).balanced.holds (front ++ v) begins in
    let fit : Fits k front = fits_front k front v (k, balanced) in
    let c = (query_cut d k).cut (front ++ (m ∷ [])) w deeper (fits_one_more k front m opens fit) in
    (c.tail, c.goes)
