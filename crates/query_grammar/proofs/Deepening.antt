-- A text that is cut goes on with a group, if groups may be nested one deeper, unless the cut is at the end of a part after
-- which none may stand, or after SENTENCE or PARAGRAPH.
use Rattle.std.proofs.Common.{◌≡◌, List, [], ◌∷◌, ◌++◌, true, false, inl, inr, refl, sym, ◌∙◌, ap, subst, append_assoc, append-nil}
use Rattle.token_grammar.specs.Language.{Re, empty, one, seq, alt, many, Repeats, none, more, In, ◌⨾◌}
use Rattle.token_grammar.proofs.Bools.{clash}
use Rattle.token_grammar.proofs.Laws.{some_text}
use Rattle.query_marks.specs.declared.mark.Mark.{Mark}
use Rattle.query_grammar.specs.declared.class.Class.{Class}
use Rattle.query_grammar.specs.declared.class.Class.TheVariants as classes
use Rattle.query_grammar.specs.steps.Joined.{is_joining, ends_joined}
use Rattle.query_grammar.specs.steps.MarkAlphabet.{query_marks}
use Rattle.query_grammar.specs.steps.QueryGrammar.{leaf}
use Rattle.query_grammar.proofs.MarkClasses.{ends_last, nothing_twice, split}

-- The marks go on with this one in a text of the part, or are a text where they may be one: Whole says so.
pub data Further (m : Mark) (Whole : Type 0) (r : Re Class) (front : List Mark) : Type 0 where
  goes_on : (later : List Mark) → In query_marks r (front ++ (m ∷ later)) → Further m Whole r front
  is_whole : Whole → In query_marks r front → Further m Whole r front

-- A text of the part r is one of the part s, and cut it goes on there.
pub record Deepens (m : Mark) (Whole : Type 0) (r s : Re Class) : Type 0 where
  pub whole : (u : List Mark) → In query_marks r u → In query_marks s u
  pub goes : (x : Mark) (p q : List Mark) → In query_marks r ((x ∷ p) ++ q) → ends_joined (x ∷ p) ≡ false → Further m Whole s (x ∷ p)

-- a text of the part begins with the mark
pub record BeginsWith (m : Mark) (r : Re Class) : Type 0 where
  pub later : List Mark
  pub is : In query_marks r (m ∷ later)

module _ {m : Mark} where
  -- what stands before a part with which they go on
  pub follows : {Whole : Type 0} {r s : Re Class} → Further m Whole s [] → (u : List Mark) → In query_marks r u → Further m Whole (seq r s) u
  unfolding In
  follows next u i = elim next [
    | goes_on v j ↦ goes_on v (u, m ∷ v, refl, i, j)
    | is_whole may j ↦ is_whole may (u, [], sym (append-nil u), i, j)
  ]

  -- The cut is in the first of two parts or at its end, or in the second.
  deepens_two : {E F : Type 0} {r r' : Re Class} (s' : Re Class) → Deepens m E r r' → (x : Mark) (p q a b : List Mark) → (x ∷ p) ++ q ≡ a ++ b → In query_marks r a → In query_marks s' b → ends_joined (x ∷ p) ≡ false → ((y : Mark) (c : List Mark) → b ≡ (y ∷ c) ++ q → ends_joined (y ∷ c) ≡ false → Further m F s' (y ∷ c)) → (E → In query_marks r' (x ∷ p) → Further m F (seq r' s') (x ∷ p)) → Further m F (seq r' s') (x ∷ p)
  unfolding In
  deepens_two {E} {F} {r} {r'} s' first x p q a b e i j joins second after = elim (split (x ∷ p) q a b e) [
    | inl h ↦
        let (c, f, g) = h in
        elim (first.goes x p c (subst (λ w. In query_marks r w) f i) joins) [
          | goes_on v k ↦ goes_on (v ++ b) ((x ∷ p) ++ (m ∷ v), b, sym (append_assoc (x ∷ p) (m ∷ v) b), k, j)
          | is_whole may k ↦ after may k
        ]
    | inr h ↦
        let (y, c, f, g) = h in
        let joins_c : ends_joined (y ∷ c) ≡ false = sym (ends_last a y c) ∙ ap ends_joined (sym f) ∙ joins in
        elim (second y c g joins_c) [
          | goes_on v k ↦ goes_on v (a, (y ∷ c) ++ (m ∷ v), ap (λ w. w ++ (m ∷ v)) f ∙ append_assoc a (y ∷ c) (m ∷ v), first.whole a i, k)
          | is_whole may k ↦ is_whole may (a, y ∷ c, f, first.whole a i, k)
        ]
  ]

  pub deepens_seq : {E F : Type 0} {r s r' s' : Re Class} → Deepens m E r r' → Deepens m F s s' → ((u : List Mark) → E → ends_joined u ≡ false → In query_marks r' u → Further m F (seq r' s') u) → Deepens m F (seq r s) (seq r' s')
  unfolding In
  deepens_seq {E} {F} {r} {s} {r'} {s'} first second after = record {
    whole = λ u (a, b, e, i, j). (a, b, e, first.whole a i, second.whole b j);
    goes = λ x p q (a, b, e, i, j) joins.
        deepens_two s' first x p q a b e i (second.whole b j) joins (λ y c f joins_c. second.goes y c q (subst (λ w. In query_marks s w) f j) joins_c) (λ may k. after (x ∷ p) may joins k);
  }

  -- the second part goes on with it
  pub deepens_next : {E F : Type 0} {r s r' s' : Re Class} → Deepens m E r r' → Deepens m F s s' → Further m F s' [] → Deepens m F (seq r s) (seq r' s')
  deepens_next first second next = deepens_seq first second (λ u may joins i. follows next u i)

  -- the first part always goes on
  pub deepens_after : {F : Type 0} {r s r' s' : Re Class} → Deepens m ⊥ r r' → Deepens m F s s' → Deepens m F (seq r s) (seq r' s')
  deepens_after first second = deepens_seq first second (λ u may joins i. absurd may)

  pub deepens_alt : {E : Type 0} {r s r' s' : Re Class} → Deepens m E r r' → Deepens m E s s' → Deepens m E (alt r s) (alt r' s')
  unfolding In
  deepens_alt {E} {r} {s} {r'} {s'} first second = record {
    whole = λ u h. elim h [ inl i ↦ inl (first.whole u i) | inr j ↦ inr (second.whole u j) ];
    goes = λ x p q h joins. elim h [
      | inl i ↦ elim (first.goes x p q i joins) [ goes_on v k ↦ goes_on v (inl k) | is_whole may k ↦ is_whole may (inl k) ]
      | inr j ↦ elim (second.goes x p q j joins) [ goes_on v k ↦ goes_on v (inr k) | is_whole may k ↦ is_whole may (inr k) ]
    ];
  }

  -- .. or is one of the alternatives
  pub deepens_left : {E : Type 0} {r r' : Re Class} (s : Re Class) → Deepens m E r r' → Deepens m E r (alt r' s)
  unfolding In
  deepens_left s first = record {
    whole = λ u i. inl (first.whole u i);
    goes = λ x p q i joins. elim (first.goes x p q i joins) [ goes_on v k ↦ goes_on v (inl k) | is_whole may k ↦ is_whole may (inl k) ];
  }

  pub deepens_one : (c : Class) → Deepens m (Unit {0}) (one c) (one c)
  unfolding In
  deepens_one c = record {
    whole = λ u i. i;
    goes = λ x p q (t, e, f) joins.
        let same : x ≡ t = cc in
        let rest : p ++ q ≡ [] = cc in
        is_whole tt (t, ap (λ (y : Mark). y ∷ p) same ∙ ap (λ w. t ∷ w) (nothing_twice p q rest).0, f);
  }

  pub deepens_empty : Deepens m (Unit {0}) empty empty
  unfolding In
  deepens_empty = record { whole = λ u i. i; goes = λ x p q e joins. absurd (some x (p ++ q) e) }
    where
      some : (x : Mark) (u : List Mark) → x ∷ u ≡ [] → ⊥
      some x u e = cc

  repeats_whole : {E : Type 0} {r r' : Re Class} → Deepens m E r r' → (u : List Mark) → Repeats (In query_marks r) u → Repeats (In query_marks r') u
  repeats_whole each u (none e) = none e
  repeats_whole each u (more a b e i rest) = more a b e (each.whole a i) (repeats_whole each b rest)

  repeats_deepen : {E F : Type 0} {r r' : Re Class} → Deepens m E r r' → (E → Further m F (many r') []) → (u : List Mark) (x : Mark) (p q : List Mark) → u ≡ (x ∷ p) ++ q → Repeats (In query_marks r) u → ends_joined (x ∷ p) ≡ false → Further m F (many r') (x ∷ p)
  unfolding In
  repeats_deepen {E} {F} {r} {r'} each next u x p q is (none e) joins = cc
  repeats_deepen {E} {F} {r} {r'} each next u x p q is (more a b e i rest) joins =
      elim (deepens_two (many r') each x p q a b (sym is ∙ e) i (repeats_whole each b rest) joins (λ y c f joins_c. repeats_deepen each next b y c q f rest joins_c) (λ may k. follows (next may) (x ∷ p) k)) [
        | goes_on v k ↦ let (c, d, f, j, l) = k in goes_on v (more c d f j l)
        | is_whole may k ↦ let (c, d, f, j, l) = k in is_whole may (more c d f j l)
      ]

  pub deepens_many : {E F : Type 0} {r r' : Re Class} → Deepens m E r r' → (E → Further m F (many r') []) → Deepens m F (many r) (many r')
  unfolding In
  deepens_many each next = record { whole = repeats_whole each; goes = λ x p q h joins. repeats_deepen each next ((x ∷ p) ++ q) x p q refl h joins }

  -- the end of a row is the end of it, ..
  pub ended_row : {r : Re Class} → Further m (Unit {0}) (many r) []
  unfolding In
  ended_row = is_whole tt (none refl)

  pub ended_left : {r s : Re Class} → Further m (Unit {0}) r [] → Further m (Unit {0}) (alt r s) []
  unfolding In
  ended_left h = elim h [ goes_on v i ↦ goes_on v (inl i) | is_whole may i ↦ is_whole may (inl i) ]

  -- .. unless one more is begun
  pub one_more : {Whole : Type 0} {r : Re Class} → BeginsWith m r → Further m Whole (many r) []
  unfolding In
  one_more h = goes_on h.later (more (m ∷ h.later) [] (sym (append-nil (m ∷ h.later))) h.is (none refl))

  pub begun : {Whole : Type 0} {r : Re Class} → BeginsWith m r → Further m Whole r []
  begun h = goes_on h.later h.is

  pub begins_first : {r : Re Class} (s : Re Class) → BeginsWith m r → BeginsWith m (seq r s)
  unfolding In
  begins_first s h = let (w, j) = some_text query_marks s in record { later = h.later ++ w; is = (m ∷ h.later, w, refl, h.is, j) }

  pub begins_later : {r s : Re Class} → In query_marks r [] → BeginsWith m s → BeginsWith m (seq r s)
  unfolding In
  begins_later nothing h = record { later = h.later; is = ([], m ∷ h.later, refl, nothing, h.is) }

  pub begins_other : {r s : Re Class} → BeginsWith m s → BeginsWith m (alt r s)
  unfolding In
  begins_other h = record { later = h.later; is = inr h.is }

  -- SENTENCE or PARAGRAPH, and the leaf after it
  pub deepens_joined : (c : Class) → ((x : Mark) → query_marks.fits c x ≡ true → is_joining x ≡ true) → Deepens m (Unit {0}) (one c ⨾ leaf) (one c ⨾ leaf)
  unfolding In
  deepens_joined c joining = deepens_seq (deepens_one c) (deepens_one classes.Leaf) (λ u may joins i. absurd (never u joins i))
    where
      never : (u : List Mark) → ends_joined u ≡ false → In query_marks (one c) u → ⊥
      never u joins (t, e, f) = clash (is_joining t) (joining t f) (ap ends_joined (sym e) ∙ joins)
