-- Parts whose tokens stand for one value only: choices, parts that may be left out, and parts in a row.
use Rattle.std.proofs.Common.{◌≡◌, List, [], ◌∷◌, ◌++◌, true, false, Option, Some, None, ◌⊎◌, inl, inr, refl, sym, ◌∙◌, ap, subst, append_assoc, append-nil}
use Rattle.std.specs.Prelude.{◌||◌, not}
use Rattle.token_grammar.specs.Alphabets.{Alphabet}
use Rattle.token_grammar.specs.Language.{Re, one, seq, alt, many, optional, listed, repeated, Repeats, none, more, In, nullable, derivative}
use Rattle.token_grammar.specs.Values.{◌then◌, IsPerhaps, IsGiven, AreGiven, AreListed, AreInRow}
use Rattle.token_grammar.specs.Firsts.{fits_some, is_in, apart}
use Rattle.token_grammar.specs.steps.Deciding.{clear}
use Rattle.token_grammar.proofs.Bools.{and_first, and_second, or_left, implied, clash}
use Rattle.token_grammar.proofs.Laws.{InAny, derivative_from, has_nullable}
use Rattle.token_grammar.proofs.Beginnings.{apart_no, apart_none, fits_in}
use Rattle.token_grammar.proofs.Agreement.{IsEither}
use Rattle.token_grammar.proofs.Once.{StartsApart, Once, IsOnce, firsts, firsts_fit, apart_left, apart_right, follows, taken, goes, in_halves, once_as, once_seq, once_after}

-- The two parts don't stand at the front of one list, where what follows begins with no token of the classes.
pub record Parted {C T : Type 0} (Σ : Alphabet C T) (cs : List C) (r s : Re C) : Type 0 where
  pub never : (u v p q : List T) → In Σ r u → In Σ s v → u ++ p ≡ v ++ q → StartsApart Σ cs p → StartsApart Σ cs q → ⊥

-- one part, and others after separators
pub as_row : {T A : Type 0} (S : List T → Type 0) (P : A → List T → Type 0) (x : A) (xs : List A) (u : List T) → AreListed S P (x ∷ xs) u → (P x then AreInRow (λ y. S then P y) xs) u
as_row S P x [] u i = (u, [], sym (append-nil u), i, refl)
as_row S P x (y ∷ xs) u (a, bd, e, i, (b, d, f, s, rest)) =
    let (v, vs, g, j, row) = as_row S P y xs d rest in
    (a, bd, e, i, (b ++ v, vs, f ∙ ap (λ w. b ++ w) g ∙ sym (append_assoc b v vs), (b, v, refl, s, j), row))

module _ {C T : Type 0} (Σ : Alphabet C T) where
  -- .. or the one begins with two tokens with which the other doesn't go on.
  goes_on_no : (cs : List C) (d : C) (o : Option (Re C)) (v q rest : List T) (t : T) → clear Σ d cs o ≡ true → Σ.fits d t ≡ true → InAny Σ o v → v ++ q ≡ t ∷ rest → StartsApart Σ cs q → ⊥
  goes_on_no cs d None v q rest t e is i g h = absurd i
  goes_on_no cs d (Some y) [] q rest t e is i g h =
      let fit = fits_in Σ d cs t (implied (nullable y) (is_in Σ d cs) (has_nullable Σ y i) (and_second (apart Σ (d ∷ []) y) (not (nullable y) || is_in Σ d cs) e)) is in
      clash (fits_some Σ cs t) fit (subst (λ w. StartsApart Σ cs w) g h)
  goes_on_no cs d (Some y) (z ∷ v) q rest t e is i g h =
      let same : z ≡ t = cc in
      apart_no Σ (d ∷ []) y t (and_first (apart Σ (d ∷ []) y) (not (nullable y) || is_in Σ d cs) e) (or_left (Σ.fits d t) false is) v (subst (λ (z : T). InAny Σ (Some y) (z ∷ v)) same i)

module _ {C T : Type 0} {Σ : Alphabet C T} where
  -- They begin with other tokens, ..
  pub parted_first : {cs : List C} {r s : Re C} → nullable r ≡ false → nullable s ≡ false → apart Σ (firsts r) s ≡ true → Parted Σ cs r s
  parted_first {cs} {r} {s} filled filled' free = record { never = go }
    where
      go : (u v p q : List T) → In Σ r u → In Σ s v → u ++ p ≡ v ++ q → StartsApart Σ cs p → StartsApart Σ cs q → ⊥
      go [] v p q i j g _ _ = clash (nullable r) (has_nullable Σ r i) filled
      go (t ∷ u) [] p q i j g _ _ = clash (nullable s) (has_nullable Σ s j) filled'
      go (t ∷ u) (x ∷ v) p q i j g _ _ =
          let same : x ≡ t = cc in
          apart_no Σ (firsts r) s t free (firsts_fit Σ r t u i) v (subst (λ (y : T). In Σ s (y ∷ v)) same j)

  -- .. or with one token, and go on with parts that aren't together, ..
  pub parted_after : {cs : List C} {c d : C} {r s : Re C} → Parted Σ cs r s → Parted Σ cs (seq (one c) r) (seq (one d) s)
  unfolding In
  parted_after {cs} {c} {d} {r} {s} h = record { never = go }
    where
      go : (u v p q : List T) → In Σ (seq (one c) r) u → In Σ (seq (one d) s) v → u ++ p ≡ v ++ q → StartsApart Σ cs p → StartsApart Σ cs q → ⊥
      go u v p q (a, b, e, (t, f, fit), j) (a', b', e', (t', f', fit'), j') g hp hq =
          let all : (t ∷ (b ++ p)) ≡ (t' ∷ (b' ++ q)) = ap (λ w. w ++ p) (ap (λ w. w ++ b) (sym f) ∙ sym e) ∙ g ∙ ap (λ w. w ++ q) (e' ∙ ap (λ w. w ++ b') f') in
          let rest : b ++ p ≡ b' ++ q = cc in
          h.never b b' p q j j' rest hp hq

  pub parted_two : {cs : List C} {c d : C} {r s : Re C} → nullable s ≡ false → clear Σ d cs (derivative (Σ.meets c) s) ≡ true → Parted Σ cs (seq (one c) (seq (one d) r)) s
  unfolding In
  parted_two {cs} {c} {d} {r} {s} filled free = record { never = go }
    where
      at : (v p q : List T) (t z : T) → Σ.fits c t ≡ true → Σ.fits d z ≡ true → In Σ s v → t ∷ z ∷ p ≡ v ++ q → StartsApart Σ cs q → ⊥
      at [] p q t z k l j g h = clash (nullable s) (has_nullable Σ s j) filled
      at (y ∷ v) p q t z k l j g h =
          let same : y ≡ t = cc in
          let rest : v ++ q ≡ z ∷ p = cc in
          goes_on_no Σ cs d (derivative (Σ.meets c) s) v q p z free l (derivative_from Σ (Σ.meets c) t (λ f i. Σ.meeting c f t k i) s v (subst (λ (y : T). In Σ s (y ∷ v)) same j)) rest h

      go : (u v p q : List T) → In Σ (seq (one c) (seq (one d) r)) u → In Σ s v → u ++ p ≡ v ++ q → StartsApart Σ cs p → StartsApart Σ cs q → ⊥
      go u v p q (a, b, e, (t, f, fit), (a', b', e', (z, f', fit'), i)) j g hp hq =
          let front : u ≡ t ∷ z ∷ b' = e ∙ ap (λ w. w ++ b) f ∙ ap (λ w. t ∷ w) (e' ∙ ap (λ w. w ++ b') f') in
          at v (b' ++ p) q t z fit fit' j (ap (λ w. w ++ p) (sym front) ∙ g) hq

  -- Both parts of a choice aren't there together with another part.
  pub parted_left : {cs : List C} {r s k : Re C} → Parted Σ cs r k → Parted Σ cs s k → Parted Σ cs (alt r s) k
  unfolding In
  parted_left first second = record {
    never = λ u v p q i j g hp hq. elim i [ inl i ↦ first.never u v p q i j g hp hq | inr i ↦ second.never u v p q i j g hp hq ];
  }

  pub parted_right : {cs : List C} {r s k : Re C} → Parted Σ cs k r → Parted Σ cs k s → Parted Σ cs k (alt r s)
  unfolding In
  parted_right first second = record {
    never = λ u v p q i j g hp hq. elim j [ inl j ↦ first.never u v p q i j g hp hq | inr j ↦ second.never u v p q i j g hp hq ];
  }

  pub parted_choice : {cs : List C} {r s t k : Re C} → Parted Σ cs k (seq r t) → Parted Σ cs k (seq s t) → Parted Σ cs k (seq (alt r s) t)
  unfolding In
  parted_choice {cs} {r} {s} {t} {k} first second = record { never = go }
    where
      go : (u v p q : List T) → In Σ k u → In Σ (seq (alt r s) t) v → u ++ p ≡ v ++ q → StartsApart Σ cs p → StartsApart Σ cs q → ⊥
      go u v p q i (a, b, e, inl j, l) g hp hq = first.never u v p q i (a, b, e, j, l) g hp hq
      go u v p q i (a, b, e, inr j, l) g hp hq = second.never u v p q i (a, b, e, j, l) g hp hq

  -- the one value or the other
  pub once_or : {A B : Type 0} {r s : Re C} {cs ds : List C} {P : A → List T → Type 0} {Q : B → List T → Type 0} (es : List C) → Once Σ r cs P → Once Σ s ds Q → Parted Σ es r s → Once Σ (alt r s) (es ++ (cs ++ ds)) (IsEither P Q)
  unfolding In
  once_or {A} {B} {r} {s} {cs} {ds} {P} {Q} es first second parted = record { text = there; once = both }
    where
      there : (x : A ⊎ B) (u : List T) → IsEither P Q x u → In Σ (alt r s) u
      there (inl x) u i = inl (first.text x u i)
      there (inr x) u i = inr (second.text x u i)

      of_first : (p : List T) → StartsApart Σ (es ++ (cs ++ ds)) p → StartsApart Σ cs p
      of_first p h = apart_left Σ cs ds p (apart_right Σ es (cs ++ ds) p h)

      of_second : (p : List T) → StartsApart Σ (es ++ (cs ++ ds)) p → StartsApart Σ ds p
      of_second p h = apart_right Σ cs ds p (apart_right Σ es (cs ++ ds) p h)

      both : (x y : A ⊎ B) (u v p q : List T) → IsEither P Q x u → IsEither P Q y v → u ++ p ≡ v ++ q → StartsApart Σ (es ++ (cs ++ ds)) p → StartsApart Σ (es ++ (cs ++ ds)) q → (x ≡ y) × (u ≡ v) × (p ≡ q)
      both (inl x) (inl y) u v p q i j g hp hq =
          let (m, n, o) = first.once x y u v p q i j g (of_first p hp) (of_first q hq) in (ap (λ (z : A). inl z) m, n, o)
      both (inr x) (inr y) u v p q i j g hp hq =
          let (m, n, o) = second.once x y u v p q i j g (of_second p hp) (of_second q hq) in (ap (λ (z : B). inr z) m, n, o)
      both (inl x) (inr y) u v p q i j g hp hq =
          absurd (parted.never u v p q (first.text x u i) (second.text y v j) g (apart_left Σ es (cs ++ ds) p hp) (apart_left Σ es (cs ++ ds) q hq))
      both (inr x) (inl y) u v p q i j g hp hq =
          absurd (parted.never v u q p (first.text y v j) (second.text x u i) (sym g) (apart_left Σ es (cs ++ ds) q hq) (apart_left Σ es (cs ++ ds) p hp))

  -- a choice by the first token
  pub once_either : {A B : Type 0} {r s : Re C} {cs ds : List C} {P : A → List T → Type 0} {Q : B → List T → Type 0} → Once Σ r cs P → Once Σ s ds Q → nullable r ≡ false → nullable s ≡ false → apart Σ (firsts r) s ≡ true → Once Σ (alt r s) (cs ++ ds) (IsEither P Q)
  once_either first second e f free = once_or [] first second (parted_first e f free)

  -- a part that may be left out: it has a value, ..
  pub once_optional : {A : Type 0} {r : Re C} {cs : List C} {P : A → List T → Type 0} → Once Σ r cs P → nullable r ≡ false → Once Σ (optional r) (firsts r ++ cs) (IsGiven P)
  unfolding In
  once_optional {A} {r} {cs} {P} h filled = record { text = there; once = both }
    where
      there : (x : Option A) (u : List T) → IsGiven P x u → In Σ (optional r) u
      there None u e = inr e
      there (Some x) u i = inl (h.text x u i)

      both : (x y : Option A) (u v p q : List T) → IsGiven P x u → IsGiven P y v → u ++ p ≡ v ++ q → StartsApart Σ (firsts r ++ cs) p → StartsApart Σ (firsts r ++ cs) q → (x ≡ y) × (u ≡ v) × (p ≡ q)
      both None None u v p q e f g hp hq = (refl, e ∙ sym f, ap (λ w. w ++ p) (sym e) ∙ g ∙ ap (λ w. w ++ q) f)
      both (Some x) None u v p q i f g hp hq = absurd (taken Σ r cs u p q filled (h.text x u i) (g ∙ ap (λ w. w ++ q) f) hq)
      both None (Some y) u v p q e j g hp hq = absurd (taken Σ r cs v q p filled (h.text y v j) (sym g ∙ ap (λ w. w ++ p) e) hp)
      both (Some x) (Some y) u v p q i j g hp hq =
          let (m, n, o) = h.once x y u v p q i j g (apart_right Σ (firsts r) cs p hp) (apart_right Σ (firsts r) cs q hq) in (ap (λ (z : A). Some z) m, n, o)

  -- .. or none, ..
  pub once_perhaps : {r : Re C} {cs : List C} {S : List T → Type 0} → IsOnce Σ r cs S → nullable r ≡ false → IsOnce Σ (optional r) (firsts r ++ cs) (IsPerhaps S)
  once_perhaps {r} {cs} {S} h filled = once_as (once_optional h filled) (λ _. tt) back
    where
      back : (y : Unit {0}) (u : List T) → IsPerhaps S u → (x : Option (Unit {0})) × IsGiven (λ _. S) x u × (tt ≡ y)
      back y u (inl i) = (Some tt, i, refl)
      back y u (inr e) = (None, e, refl)

  -- .. or several
  pub once_lists : {A : Type 0} {r : Re C} {cs : List C} (Are : List A → List T → Type 0) → Once Σ r cs Are → nullable r ≡ false → Once Σ (optional r) (firsts r ++ cs) (AreGiven Are)
  once_lists {A} {r} {cs} Are h filled = once_as (once_optional h filled) values back
    where
      values : Option (List A) → List A
      values None = []
      values (Some xs) = xs

      back : (ys : List A) (u : List T) → AreGiven Are ys u → (x : Option (List A)) × IsGiven Are x u × (values x ≡ ys)
      back [] u e = (None, e, refl)
      back (y ∷ ys) u i = (Some (y ∷ ys), i, refl)

  -- any number of parts in a row
  pub once_row : {A : Type 0} {r : Re C} {cs : List C} {P : A → List T → Type 0} → Once Σ r cs P → nullable r ≡ false → apart Σ cs r ≡ true → Once Σ (many r) (firsts r ++ cs) (AreInRow P)
  unfolding In
  once_row {A} {r} {cs} {P} h filled free = record { text = there; once = both }
    where
      there : (xs : List A) (u : List T) → AreInRow P xs u → Repeats (In Σ r) u
      there [] u e = none e
      there (x ∷ xs) u (a, b, e, i, j) = more a b e (h.text x a i) (there xs b j)

      both : (xs ys : List A) (u v p q : List T) → AreInRow P xs u → AreInRow P ys v → u ++ p ≡ v ++ q → StartsApart Σ (firsts r ++ cs) p → StartsApart Σ (firsts r ++ cs) q → (xs ≡ ys) × (u ≡ v) × (p ≡ q)
      both [] [] u v p q e f g hp hq = (refl, e ∙ sym f, ap (λ w. w ++ p) (sym e) ∙ g ∙ ap (λ w. w ++ q) f)
      both (x ∷ xs) [] u v p q (a, b, e, i, j) f g hp hq =
          absurd (taken Σ r cs a (b ++ p) q filled (h.text x a i) (sym (append_assoc a b p) ∙ ap (λ w. w ++ p) (sym e) ∙ g ∙ ap (λ w. w ++ q) f) hq)
      both [] (y ∷ ys) u v p q e (c, d, f, k, l) g hp hq =
          absurd (taken Σ r cs c (d ++ q) p filled (h.text y c k) (sym (append_assoc c d q) ∙ ap (λ w. w ++ q) (sym f) ∙ sym g ∙ ap (λ w. w ++ p) e) hp)
      both (x ∷ xs) (y ∷ ys) u v p q (a, b, e, i, j) (c, d, f, k, l) g hp hq =
          let all : a ++ (b ++ p) ≡ c ++ (d ++ q) = in_halves u v a b c d p q e f g in
          let (m, n, o) = h.once x y a c (b ++ p) (d ++ q) i k all
          (follows Σ cs (many r) b p free (there xs b j) (λ _. apart_right Σ (firsts r) cs p hp))
          (follows Σ cs (many r) d q free (there ys d l) (λ _. apart_right Σ (firsts r) cs q hq)) in
          let (m', n', o') = both xs ys b d p q j l o hp hq in
          (ap (λ (z : A). z ∷ xs) m ∙ ap (λ (zs : List A). y ∷ zs) m', e ∙ ap (λ w. w ++ b) n ∙ ap (λ w. c ++ w) n' ∙ sym f, o')

  pub once_listed : {A : Type 0} {c : C} {r : Re C} {cs : List C} {S : List T → Type 0} {P : A → List T → Type 0} → IsOnce Σ (one c) [] S → Once Σ r cs P → apart Σ cs (repeated c r) ≡ true → apart Σ (goes [] r cs) (seq (one c) r) ≡ true → Once Σ (listed c r) (cs ++ (c ∷ goes [] r cs)) (AreListed S P)
  once_listed {A} {c} {r} {cs} {S} {P} between h free free' = once_as (once_seq h (once_row (once_after between h (apart_none Σ r)) refl free') free) (λ x. x.0 ∷ x.1) back
    where
      back : (ys : List A) (u : List T) → AreListed S P ys u → (x : A × List A) × (P x.0 then AreInRow (λ y. S then P y) x.1) u × ((x.0 ∷ x.1) ≡ ys)
      back [] u i = absurd i
      back (y ∷ ys) u i = ((y, ys), as_row S P y ys u i, refl)
