-- What follows a token in the texts of a grammar that begin with it.
use Rattle.std.proofs.Common.{◌≡◌, List, [], ◌∷◌, ◌++◌, Bool, true, false, Option, Some, None, ◌⊎◌, inl, inr, refl, sym, ◌∙◌, ap, subst}
use Rattle.std.specs.Prelude.{IsTrue, if◌then◌else◌}
use Rattle.token_grammar.specs.Alphabets.{Alphabet}
use Rattle.token_grammar.specs.Language.{Re, empty, one, seq, alt, many, Repeats, none, more, In, nullable, joined, chain, either, derivative, after}
use Rattle.token_grammar.proofs.Bools.{and_first, and_second, both_true, or_cases, or_left, or_right}

-- a text of what follows, where something does
abbrev pub InAny : {C T : Type 0} → Alphabet C T → Option (Re C) → List T → Type 0
InAny Σ None u = ⊥
InAny Σ (Some r) u = In Σ r u

-- a list of no tokens is two lists of no tokens
nothing_twice : {T : Type 0} (a b : List T) → [] ≡ a ++ b → (a ≡ []) × (b ≡ [])
nothing_twice [] b e = (refl, sym e)
nothing_twice (x ∷ a) b e = cc

module _ {C T : Type 0} (Σ : Alphabet C T) where
  pub nullable_has : (r : Re C) → nullable r ≡ true → In Σ r []
  unfolding In
  nullable_has empty e = refl
  nullable_has (one c) e = cc
  nullable_has (seq r s) e =
      let both : (nullable r ≡ true) × (nullable s ≡ true) = (and_first (nullable r) (nullable s) e, and_second (nullable r) (nullable s) e) in
      ([], [], refl, nullable_has r both.0, nullable_has s both.1)
  nullable_has (alt r s) e = elim (or_cases (nullable r) (nullable s) e) [ inl first ↦ inl (nullable_has r first) | inr second ↦ inr (nullable_has s second) ]
  nullable_has (many r) e = none refl

  pub has_nullable : (r : Re C) → In Σ r [] → nullable r ≡ true
  unfolding In
  has_nullable empty e = refl
  has_nullable (one c) (t, e, f) = cc
  has_nullable (seq r s) (a, b, e, first, second) =
      let no = nothing_twice a b e in
      both_true (nullable r) (nullable s) (has_nullable r (subst (λ u. In Σ r u) no.0 first)) (has_nullable s (subst (λ u. In Σ s u) no.1 second))
  has_nullable (alt r s) (inl first) = or_left (nullable r) (nullable s) (has_nullable r first)
  has_nullable (alt r s) (inr second) = or_right (nullable r) (nullable s) (has_nullable s second)
  has_nullable (many r) e = refl

  joined_to : (r s : Re C) (u : List T) → In Σ (joined r s) u → In Σ (seq r s) u
  unfolding In
  joined_to empty s u h = ([], u, refl, refl, h)
  joined_to (one c) s u h = h
  joined_to (seq a b) s u h = h
  joined_to (alt a b) s u h = h
  joined_to (many a) s u h = h

  joined_from : (r s : Re C) (u : List T) → In Σ (seq r s) u → In Σ (joined r s) u
  unfolding In
  joined_from empty s u (a, b, e, first, second) = subst (λ w. In Σ s w) (sym (e ∙ ap (λ w. w ++ b) first)) second
  joined_from (one c) s u h = h
  joined_from (seq a b) s u h = h
  joined_from (alt a b) s u h = h
  joined_from (many a) s u h = h

  -- the texts of a chain
  Chained : Option (Re C) → Re C → List T → Type 0
  Chained o s u = (a : List T) × (b : List T) × (u ≡ a ++ b) × InAny Σ o a × In Σ s b

  chain_to : (o : Option (Re C)) (s : Re C) (u : List T) → InAny Σ (chain o s) u → Chained o s u
  unfolding In Chained
  chain_to None s u h = absurd h
  chain_to (Some r) s u h = joined_to r s u h

  chain_from : (o : Option (Re C)) (s : Re C) (u : List T) → Chained o s u → InAny Σ (chain o s) u
  unfolding In Chained
  chain_from None s u (a, b, e, first, second) = absurd first
  chain_from (Some r) s u h = joined_from r s u h

  either_to : (o p : Option (Re C)) (u : List T) → InAny Σ (either o p) u → InAny Σ o u ⊎ InAny Σ p u
  unfolding In
  either_to None p u h = inr h
  either_to (Some r) None u h = inl h
  either_to (Some r) (Some s) u h = h

  either_left : (o p : Option (Re C)) (u : List T) → InAny Σ o u → InAny Σ (either o p) u
  unfolding In
  either_left None p u h = absurd h
  either_left (Some r) None u h = h
  either_left (Some r) (Some s) u h = inl h

  either_right : (o p : Option (Re C)) (u : List T) → InAny Σ p u → InAny Σ (either o p) u
  unfolding In
  either_right None p u h = h
  either_right (Some r) None u h = absurd h
  either_right (Some r) (Some s) u h = inr h

  when_to : (b : Bool) (o : Option (Re C)) (u : List T) → InAny Σ (if b then o else None) u → (b ≡ true) × InAny Σ o u
  when_to true o u h = (refl, h)
  when_to false o u h = absurd h

  when_from : (b : Bool) (o : Option (Re C)) (u : List T) → b ≡ true → InAny Σ o u → InAny Σ (if b then o else None) u
  when_from true o u e h = h
  when_from false o u e h = cc

  -- A text that begins with a token goes on by what follows the token. The test says of each class of the token that it is one.
  module _ (g : C → Bool) (t : T) (says : (c : C) → Σ.fits c t ≡ true → g c ≡ true) where
    derivative_one : (c : C) (x : T) (u : List T) → (t ∷ u) ≡ (x ∷ []) → IsTrue (Σ.fits c x) → InAny Σ (if g c then Some empty else None) u
    unfolding In
    derivative_one c x u e f =
        let same : x ≡ t = cc in
        let end : u ≡ [] = cc in
        when_from (g c) (Some empty) u (says c (subst (λ (y : T). Σ.fits c y ≡ true) same f)) end

    derivative_seq : (r s : Re C) (u a b : List T) → (t ∷ u) ≡ a ++ b → In Σ r a → In Σ s b → ((v : List T) → In Σ r (t ∷ v) → InAny Σ (derivative g r) v) → ((v : List T) → In Σ s (t ∷ v) → InAny Σ (derivative g s) v) → InAny Σ (derivative g (seq r s)) u
    unfolding Chained
    derivative_seq r s u [] b e first second left right =
        either_right (chain (derivative g r) s) (if nullable r then derivative g s else None) u (when_from (nullable r) (derivative g s) u (has_nullable r first) (right u (subst (λ v. In Σ s v) (sym e) second)))
    derivative_seq r s u (x ∷ a) b e first second left right =
        let same : x ≡ t = cc in
        let rest : u ≡ a ++ b = cc in
        either_left (chain (derivative g r) s) (if nullable r then derivative g s else None) u (chain_from (derivative g r) s u (a, b, rest, left a (subst (λ (y : T). In Σ r (y ∷ a)) same first), second))

    derivative_many : (r : Re C) (u w : List T) → w ≡ (t ∷ u) → Repeats (In Σ r) w → ((v : List T) → In Σ r (t ∷ v) → InAny Σ (derivative g r) v) → InAny Σ (derivative g (many r)) u
    unfolding Chained In
    derivative_many r u w is (none e) left = cc
    derivative_many r u w is (more [] b e first rest) left = derivative_many r u b (sym e ∙ is) rest left
    derivative_many r u w is (more (x ∷ a) b e first rest) left =
        let same : x ≡ t = cc in
        let behind : u ≡ a ++ b = cc in
        chain_from (derivative g r) (many r) u (a, b, behind, left a (subst (λ (y : T). In Σ r (y ∷ a)) same first), rest)

    pub derivative_from : (r : Re C) (u : List T) → In Σ r (t ∷ u) → InAny Σ (derivative g r) u
    unfolding In
    derivative_from empty u h = cc
    derivative_from (one c) u (x, e, f) = derivative_one c x u e f
    derivative_from (seq r s) u (a, b, e, first, second) = derivative_seq r s u a b e first second (derivative_from r) (derivative_from s)
    derivative_from (alt r s) u (inl first) = either_left (derivative g r) (derivative g s) u (derivative_from r u first)
    derivative_from (alt r s) u (inr second) = either_right (derivative g r) (derivative g s) u (derivative_from s u second)
    derivative_from (many r) u h = derivative_many r u (t ∷ u) refl h (derivative_from r)

  -- A text of what follows a token is one after the token. The test says it of no other class.
  module _ (g : C → Bool) (t : T) (means : (c : C) → g c ≡ true → Σ.fits c t ≡ true) where
    to_seq : (r s : Re C) (u : List T) → Chained (derivative g r) s u → ((v : List T) → InAny Σ (derivative g r) v → In Σ r (t ∷ v)) → In Σ (seq r s) (t ∷ u)
    unfolding In Chained
    to_seq r s u (a, b, e, first, second) left = (t ∷ a, b, ap (λ v. t ∷ v) e, left a first, second)

    pub derivative_to : (r : Re C) (u : List T) → InAny Σ (derivative g r) u → In Σ r (t ∷ u)
    unfolding In Chained
    derivative_to empty u h = absurd h
    derivative_to (one c) u h =
        let both = when_to (g c) (Some empty) u h in
        (t, ap (λ v. t ∷ v) both.1, means c both.0)
    derivative_to (seq r s) u h =
        elim (either_to (chain (derivative g r) s) (if nullable r then derivative g s else None) u h) [
          | inl first ↦ to_seq r s u (chain_to (derivative g r) s u first) (derivative_to r)
          | inr second ↦ let both = when_to (nullable r) (derivative g s) u second in ([], t ∷ u, refl, nullable_has r both.0, derivative_to s u both.1)
        ]
    derivative_to (alt r s) u h = elim (either_to (derivative g r) (derivative g s) u h) [ inl first ↦ inl (derivative_to r u first) | inr second ↦ inr (derivative_to s u second) ]
    derivative_to (many r) u h =
        let (a, b, e, first, rest) = chain_to (derivative g r) (many r) u h in
        more (t ∷ a) b (ap (λ v. t ∷ v) e) (derivative_to r a first) rest

  pub after_from : (r : Re C) (t : T) (u : List T) → In Σ r (t ∷ u) → InAny Σ (after Σ t r) u
  after_from r t u h = derivative_from (λ c. Σ.fits c t) t (λ c e. e) r u h

  pub after_to : (r : Re C) (t : T) (u : List T) → InAny Σ (after Σ t r) u → In Σ r (t ∷ u)
  after_to r t u h = derivative_to (λ c. Σ.fits c t) t (λ c e. e) r u h

  -- each grammar has a text
  pub some_text : (r : Re C) → (u : List T) × In Σ r u
  unfolding In
  some_text empty = ([], refl)
  some_text (one c) = let (t, f) = Σ.some c in (t ∷ [], (t, refl, f))
  some_text (seq r s) = let (a, first) = some_text r in let (b, second) = some_text s in (a ++ b, (a, b, refl, first, second))
  some_text (alt r s) = let (a, first) = some_text r in (a, inl first)
  some_text (many r) = ([], none refl)
