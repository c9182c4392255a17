-- What queries have in common as lists of marks: nowhere more groups are open than they may nest, and the end is the last mark.
use Rattle.std.proofs.Common.{◌≡◌, ℕ, zero, suc, ◌+◌, ◌-◌, ◌≤◌, true, false, List, [], ◌∷◌, ◌++◌, inl, inr, refl, sym, ◌∙◌, ap, subst, arith, append_assoc}
use Rattle.std.specs.Prelude.{Contains}
use Rattle.std.proofs.lemmas.List.Elements.{Contains-append_cases}
use Rattle.token_grammar.specs.Language.{Re, empty, one, seq, alt, many, Repeats, none, more, In, ◌⨾◌}
use Rattle.token_grammar.specs.Values.{Begins}
use Rattle.query_marks.specs.declared.mark.Mark.{Mark}
use Rattle.query_marks.specs.declared.mark.Sign.{Sign}
use Rattle.query_marks.specs.declared.mark.Sign.TheVariants as signs
use Rattle.query_marks.specs.Enough.{depth_by, depth_after}
use Rattle.query_grammar.specs.declared.class.Class.{Class}
use Rattle.query_grammar.specs.declared.class.Class.TheVariants as classes
use Rattle.query_grammar.specs.Grammar.{IsQuery}
use Rattle.query_grammar.specs.QueryFaults.{Any}
use Rattle.query_grammar.specs.steps.Classes.{class_of, same_class, fits, is_ended}
use Rattle.query_grammar.specs.steps.MarkAlphabet.{query_marks}
use Rattle.query_grammar.specs.steps.QueryGrammar.{leaf, join_of, alternatives_of, item_of, items_of, section_of, and_of, expr_of, others, query}
use Rattle.query_grammar.proofs.MarkClasses.{fits_like, nothing_twice, split}
use Rattle.query_grammar.proofs.MarkSigns.{sign_is}
use Rattle.query_grammar.proofs.MarkPlaces.{none_contained, contained_cases}
use Rattle.query_grammar.proofs.MarkOrder.{ended_push}
use Rattle.query_grammar.proofs.KeptInTexts.{Keeps}
use Rattle.query_grammar.proofs.GroupsCut.{group, bracketed}
use Rattle.query_grammar.proofs.QueryAgreement.{query_agrees}

-- ---- properties of lists
-- The property holds of no marks, of two lists in a row, and of each mark that is no bracket and no end.
record IsHeld (P : List Mark → Type 0) : Type 0 where
  nothing : P []
  append : (a b : List Mark) → P a → P b → P (a ++ b)
  alone : (m : Mark) → fits classes.Open m ≡ false → fits classes.Close m ≡ false → fits classes.End m ≡ false → P (m ∷ [])

module _ {P : List Mark → Type 0} (held : IsHeld P) where
  held_empty : Keeps P empty
  unfolding In
  held_empty = record { holds = λ u e. subst P (sym e) held.nothing }

  held_one : (c : Class) → same_class classes.Open c ≡ false → same_class classes.Close c ≡ false → same_class classes.End c ≡ false → Keeps P (one c)
  unfolding In
  held_one c unlike_open unlike_close unlike_end = record {
    holds = λ u (m, e, f). subst P (sym e) (held.alone m (fits_like classes.Open c m f ∙ unlike_open) (fits_like classes.Close c m f ∙ unlike_close) (fits_like classes.End c m f ∙ unlike_end));
  }

  held_seq : {r s : Re Class} → Keeps P r → Keeps P s → Keeps P (seq r s)
  unfolding In
  held_seq first second = record { holds = λ u (a, b, e, i, j). subst P (sym e) (held.append a b (first.holds a i) (second.holds b j)) }

  held_alt : {r s : Re Class} → Keeps P r → Keeps P s → Keeps P (alt r s)
  unfolding In
  held_alt first second = record { holds = λ u h. elim h [ inl i ↦ first.holds u i | inr j ↦ second.holds u j ] }

  repeats_held : {r : Re Class} → Keeps P r → (u : List Mark) → Repeats (In query_marks r) u → P u
  repeats_held each u (none e) = subst P (sym e) held.nothing
  repeats_held each u (more a b e i rest) = subst P (sym e) (held.append a b (each.holds a i) (repeats_held each b rest))

  held_many : {r : Re Class} → Keeps P r → Keeps P (many r)
  unfolding In
  held_many each = record { holds = repeats_held each }

  held_expr : (o : Re Class) → Keeps P o → Keeps P (expr_of o)
  held_expr o group =
      let leaf_held : Keeps P leaf = held_one classes.Leaf refl refl refl in
      let sentence : Keeps P (one classes.Sentence ⨾ leaf) = held_seq (held_one classes.Sentence refl refl refl) leaf_held in
      let paragraph : Keeps P (one classes.Paragraph ⨾ leaf) = held_seq (held_one classes.Paragraph refl refl refl) leaf_held in
      let join : Keeps P (join_of o) = held_alt (held_seq leaf_held (held_alt (held_many sentence) (held_many paragraph))) group in
      let choice : Keeps P (one classes.Or ⨾ join_of o) = held_seq (held_one classes.Or refl refl refl) join in
      let maybe : Keeps P (one classes.Maybe ⨾ join_of o) = held_seq (held_one classes.Maybe refl refl refl) join in
      let alternatives : Keeps P (alternatives_of o) = held_seq join (held_many (held_alt choice maybe)) in
      let item : Keeps P (item_of o) = held_alt (held_seq (held_one classes.Not refl refl refl) join) alternatives in
      let items : Keeps P (items_of o) = held_seq item (held_many item) in
      let limit : Keeps P (one classes.Limit) = held_one classes.Limit refl refl refl in
      let section : Keeps P (section_of o) = held_seq (held_many limit) items in
      let and : Keeps P (and_of o) = held_seq section (held_many (held_seq limit section)) in
      let before : Keeps P (one classes.Before ⨾ and_of o) = held_seq (held_one classes.Before refl refl refl) and in
      let near : Keeps P (one classes.Near ⨾ and_of o) = held_seq (held_one classes.Near refl refl refl) and in
      held_seq and (held_many (held_alt before near))

-- ---- how many groups are open
depth_append : (n : ℕ) (a b : List Mark) → depth_after n (a ++ b) ≡ depth_after (depth_after n a) b
depth_append n [] b = refl
depth_append n (m ∷ a) b = depth_append (depth_by n m.sign) a b

-- As many are open after these marks as before, and nowhere more than so many more.
record Nests (d : ℕ) (u : List Mark) : Type 0 where
  flat : (n : ℕ) → depth_after n u ≡ n
  most : (n : ℕ) (p q : List Mark) → p ++ q ≡ u → depth_after n p ≤ n + d

sign_flat : (n : ℕ) (sign : Sign) → same_class classes.Open (class_of sign) ≡ false → same_class classes.Close (class_of sign) ≡ false → depth_by n sign ≡ n
sign_flat n signs.Open e f = cc
sign_flat n signs.Close e f = cc
sign_flat n (signs.Bare key) e f = refl
sign_flat n (signs.Phrase keys) e f = refl
sign_flat n (signs.Loose keys how) e f = refl
sign_flat n signs.Or e f = refl
sign_flat n signs.Before e f = refl
sign_flat n signs.Not e f = refl
sign_flat n signs.Maybe e f = refl
sign_flat n signs.Sentence e f = refl
sign_flat n signs.Paragraph e f = refl
sign_flat n (signs.Near k) e f = refl
sign_flat n signs.Limits e f = refl
sign_flat n (signs.Spans zones) e f = refl
sign_flat n signs.Relaxed e f = refl
sign_flat n signs.Unclosed e f = refl
sign_flat n signs.End e f = refl

nests_nothing : (d : ℕ) → Nests d []
nests_nothing d = record { flat = λ n. refl; most = λ n p q e. omega (arith, ap (depth_after n) (nothing_twice p q e).0) }

nests_append : (d : ℕ) (a b : List Mark) → Nests d a → Nests d b → Nests d (a ++ b)
nests_append d a b first second = record {
  flat = λ n. depth_append n a b ∙ ap (λ k. depth_after k b) (first.flat n) ∙ second.flat n;
  most = λ n p q e. elim (split p q a b e) [
    | inl h ↦ first.most n p h.0 (sym h.1)
    | inr h ↦
        let same : depth_after n p ≡ depth_after n (h.0 ∷ h.1) = ap (depth_after n) h.2 ∙ depth_append n a (h.0 ∷ h.1) ∙ ap (λ k. depth_after k (h.0 ∷ h.1)) (first.flat n) in
        omega (arith, same, second.most n (h.0 ∷ h.1) q (sym h.3))
  ];
}

nests_alone : (d : ℕ) (m : Mark) → fits classes.Open m ≡ false → fits classes.Close m ≡ false → Nests d (m ∷ [])
nests_alone d m opens closes = record { flat = λ n. flat n; most = most }
  where
    flat : (n : ℕ) → depth_by n m.sign ≡ n
    flat n = sign_flat n m.sign opens closes

    most : (n : ℕ) (p q : List Mark) → p ++ q ≡ m ∷ [] → depth_after n p ≤ n + d
    most n [] q e = omega arith
    most n (x ∷ []) q e =
        let same : x ≡ m = cc in
        omega (arith, ap (λ (y : Mark). depth_by n y.sign) same, flat n)
    most n (x ∷ y ∷ p) q e =
        let rest : y ∷ (p ++ q) ≡ [] = cc in
        cc

-- a group has one more in it
nests_group : (d : ℕ) (a c : Mark) (u : List Mark) → fits classes.Open a ≡ true → Nests d u → fits classes.Close c ≡ true → Nests (suc d) (a ∷ (u ++ (c ∷ [])))
nests_group d a c u opens inside closes = record { flat = flat; most = most }
  where
    opened : (n : ℕ) → depth_by n a.sign ≡ n + 1
    opened n = ap (depth_by n) (sign_is classes.Open a opens)

    closed : (n : ℕ) → depth_by (n + 1) c.sign ≡ n
    closed n = ap (depth_by (n + 1)) (sign_is classes.Close c closes) ∙ less n
      where
        less : (n : ℕ) → n + 1 - 1 ≡ n
        less n = omega arith

    flat : (n : ℕ) → depth_after n (a ∷ (u ++ (c ∷ []))) ≡ n
    flat n = ap (λ k. depth_after k (u ++ (c ∷ []))) (opened n) ∙ depth_append (n + 1) u (c ∷ []) ∙ ap (λ k. depth_by k c.sign) (inside.flat (n + 1)) ∙ closed n

    within : (n : ℕ) (p q : List Mark) → p ++ q ≡ u ++ (c ∷ []) → depth_after (n + 1) p ≤ n + suc d
    within n p q e = elim (split p q u (c ∷ []) e) [
      | inl h ↦ omega (arith, inside.most (n + 1) p h.0 (sym h.1))
      | inr h ↦
          let one : h.0 ≡ c = cc (h.3) in
          let last : h.1 ++ q ≡ [] = cc (h.3) in
          let same : depth_after (n + 1) p ≡ depth_after (n + 1) (h.0 ∷ h.1) = ap (depth_after (n + 1)) h.2 ∙ depth_append (n + 1) u (h.0 ∷ h.1) ∙ ap (λ k. depth_after k (h.0 ∷ h.1)) (inside.flat (n + 1)) in
          let whole : depth_after (n + 1) (h.0 ∷ h.1) ≡ n = ap (λ l. depth_after (n + 1) (h.0 ∷ l)) (nothing_twice h.1 q last).0 ∙ ap (λ (y : Mark). depth_by (n + 1) y.sign) one ∙ closed n in
          omega (arith, same, whole)
    ]

    most : (n : ℕ) (p q : List Mark) → p ++ q ≡ a ∷ (u ++ (c ∷ [])) → depth_after n p ≤ n + suc d
    most n [] q e = omega arith
    most n (x ∷ p) q e =
        let same : x ≡ a = cc in
        let rest : p ++ q ≡ u ++ (c ∷ []) = cc in
        let begun : depth_after n (x ∷ p) ≡ depth_after (n + 1) p = ap (λ (y : Mark). depth_after (depth_by n y.sign) p) same ∙ ap (λ k. depth_after k p) (opened n) in
        omega (arith, begun, within n p q rest)

nests_held : (d : ℕ) → IsHeld (Nests d)
nests_held d = record { nothing = nests_nothing d; append = nests_append d; alone = λ m opens closes ends. nests_alone d m opens closes }

others_nest : (d : ℕ) → Keeps (Nests d) (others d)
unfolding others In
others_nest zero = held_one (nests_held 0) classes.Loose refl refl refl
others_nest (suc d) = record {
  holds = λ u h. elim h [
    | inl i ↦ (held_one (nests_held (suc d)) classes.Loose refl refl refl).holds u i
    | inr g ↦
        let b = bracketed (others d) u g in
        subst (Nests (suc d)) (sym b.is) (nests_group d b.opening b.closing b.inside b.opens ((held_expr (nests_held d) (others d) (others_nest d)).holds b.inside b.holds) b.closes)
  ];
}

end_nests : (d : ℕ) → Keeps (Nests d) (one classes.End)
unfolding In
end_nests d = record { holds = λ u (m, e, f). subst (Nests d) (sym e) (nests_alone d m (fits_like classes.Open classes.End m f) (fits_like classes.Close classes.End m f)) }

query_nests : (d : ℕ) → Keeps (Nests d) (query d)
unfolding query
query_nests d =
    let held : IsHeld (Nests d) = nests_held d in
    held_seq held (held_alt held (held_one held classes.Relaxed refl refl refl) (held_empty held)) (held_seq held (held_expr held (others d) (others_nest d)) (end_nests d))

-- after marks with which a query begins no more groups are open than may nest
pub front_nests : (d : ℕ) (front : List Mark) → Begins (IsQuery Any d) front → depth_after 0 front ≤ d
front_nests d front (node, later, is) =
    let nests = (query_nests d).holds (front ++ later) ((query_agrees d).text node (front ++ later) is) in
    omega (arith, nests.most 0 front later refl)

-- ---- the end
abbrev HasNoEnd : List Mark → Type 0
HasNoEnd u = (m : Mark) → Contains u m → fits classes.End m ≡ false

no_end_alone : (m : Mark) → fits classes.End m ≡ false → HasNoEnd (m ∷ [])
no_end_alone m other n has = elim (contained_cases m [] n has) [
  | inl same ↦ ap (fits classes.End) (sym same) ∙ other
  | inr never ↦ absurd (none_contained n never)
]

no_end_held : IsHeld HasNoEnd
no_end_held = record {
  nothing = λ m has. absurd (none_contained m has);
  append = λ a b first second m has. elim (Contains-append_cases a b m has) [ inl h ↦ first m h | inr h ↦ second m h ];
  alone = λ m opens closes other. no_end_alone m other;
}

bracket_no_end : (c : Class) → same_class classes.End c ≡ false → Keeps HasNoEnd (one c)
unfolding In
bracket_no_end c unlike = record { holds = λ u (m, e, f). subst HasNoEnd (sym e) (no_end_alone m (fits_like classes.End c m f ∙ unlike)) }

others_no_end : (d : ℕ) → Keeps HasNoEnd (others d)
unfolding others
others_no_end zero = held_one no_end_held classes.Loose refl refl refl
others_no_end (suc d) =
    held_alt no_end_held (held_one no_end_held classes.Loose refl refl refl)
    (held_seq no_end_held (bracket_no_end classes.Open refl) (held_seq no_end_held (held_expr no_end_held (others d) (others_no_end d)) (bracket_no_end classes.Close refl)))

-- the end is the last mark of a query, and no other
pub query_ends : (d : ℕ) (u : List Mark) → In query_marks (query d) u → is_ended u ≡ true
unfolding query In
query_ends d u (a, bc, e, relaxed, (b, c, f, expr, (z, g, ends))) =
    let is : u ≡ (a ++ b) ++ z ∷ [] = e ∙ ap (λ w. a ++ w) (f ∙ ap (λ w. b ++ w) g) ∙ sym (append_assoc a b (z ∷ [])) in
    let first : HasNoEnd a = (held_alt no_end_held (held_one no_end_held classes.Relaxed refl refl refl) (held_empty no_end_held)).holds a relaxed in
    let second : HasNoEnd b = (held_expr no_end_held (others d) (others_no_end d)).holds b expr in
    ap is_ended is ∙ ended_push (a ++ b) z ends (no_end_held.append a b first second)
