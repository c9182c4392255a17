-- A grammar and the values of its texts: each text has a value, and each value's tokens are a text.
use Rattle.std.proofs.Common.{◌≡◌, List, [], ◌∷◌, ◌++◌, true, Option, Some, None, ◌⊎◌, inl, inr, refl, sym, ◌∙◌, ap, subst, append_assoc, append-nil}
use Rattle.token_grammar.specs.Alphabets.{Alphabet}
use Rattle.token_grammar.specs.Language.{Re, one, seq, alt, many, optional, listed, Repeats, none, more, In}
use Rattle.token_grammar.specs.Values.{◌then◌, IsOne, IsPerhaps, IsGiven, AreGiven, AreListed, AreInRow}

pub record Agree {C T A : Type 0} (Σ : Alphabet C T) (r : Re C) (P : A → List T → Type 0) : Type 0 where
  pub text : (x : A) (u : List T) → P x u → In Σ r u
  pub value : (u : List T) → In Σ r u → (x : A) × P x u

-- the same of a part without a value
abbrev pub Agrees : {C T : Type 0} → Alphabet C T → Re C → (List T → Type 0) → Type 0
Agrees Σ r P = Agree {A = Unit {0}} Σ r (λ _. P)

-- the one value or the other
abbrev pub IsEither : {T A B : Type 0} → (A → List T → Type 0) → (B → List T → Type 0) → A ⊎ B → List T → Type 0
IsEither P Q (inl x) = P x
IsEither P Q (inr y) = Q y

module _ {C T : Type 0} (Σ : Alphabet C T) where
  -- one token that tells its value
  pub agree_one : {A : Type 0} (c : C) (P : A → T → Type 0) → ((x : A) (t : T) → P x t → Σ.fits c t ≡ true) → ((t : T) → Σ.fits c t ≡ true → (x : A) × P x t) → Agree Σ (one c) (λ x. IsOne (P x))
  unfolding In
  agree_one c P fit value = record {
    text = λ x u (t, e, h). (t, e, fit x t h);
    value = λ u (t, e, f). let (x, h) = value t f in (x, (t, e, h));
  }

  list_text : {A : Type 0} (c : C) (S : List T → Type 0) (r : Re C) (P : A → List T → Type 0) → Agrees Σ (one c) S → Agree Σ r P → (xs : List A) (u : List T) → AreListed S P xs u → In Σ (listed c r) u
  unfolding In
  list_text c S r P m h [] u p = absurd p
  list_text c S r P m h (x ∷ []) u p = (u, [], sym (append-nil u), h.text x u p, none refl)
  list_text c S r P m h (x ∷ y ∷ xs) u (a, bd, e, p, (b, d, f, q, rest)) =
      let (v, vs, g, i, is) = list_text c S r P m h (y ∷ xs) d rest in
      (a, bd, e, h.text x a p, more (b ++ v) vs (f ∙ ap (λ w. b ++ w) g ∙ sym (append_assoc b v vs)) (b, v, refl, m.text tt b q, i) is)

  list_value : {A : Type 0} (c : C) (S : List T → Type 0) (r : Re C) (P : A → List T → Type 0) → Agrees Σ (one c) S → Agree Σ r P → (a bs : List T) → In Σ r a → Repeats (In Σ (seq (one c) r)) bs → (xs : List A) × AreListed S P xs (a ++ bs)
  unfolding In
  list_value {A} c S r P m h a bs i (none e) =
      let (x, p) = h.value a i in
      (x ∷ [], subst (λ v. P x v) (sym (ap (λ v. a ++ v) e ∙ append-nil a)) p)
  list_value {A} c S r P m h a bs i (more b vs e (w, d, f, j, k) rest) =
      let (x, p) = h.value a i in
      let (ys, q) = list_value c S r P m h d vs k rest in
      let g : bs ≡ w ++ (d ++ vs) = e ∙ ap (λ v. v ++ vs) f ∙ append_assoc w d vs in
      grow ys q x p g (m.value w j).1
    where
      grow : (ys : List A) → AreListed S P ys (d ++ vs) → (x : A) → P x a → bs ≡ w ++ (d ++ vs) → S w → (xs : List A) × AreListed S P xs (a ++ bs)
      grow [] q x p g n = absurd q
      grow (y ∷ ys) q x p g n = (x ∷ y ∷ ys, (a, bs, refl, p, (w, d ++ vs, g, n, q)))

module _ {C T : Type 0} {Σ : Alphabet C T} where
  -- before a part without a value
  pub agree_before : {A : Type 0} {r s : Re C} {P : A → List T → Type 0} {S : List T → Type 0} → Agree Σ r P → Agrees Σ s S → Agree Σ (seq r s) (λ x. P x then S)
  unfolding In
  agree_before first second = record {
    text = λ x u (a, b, e, p, q). (a, b, e, first.text x a p, second.text tt b q);
    value = λ u (a, b, e, i, j). let (x, p) = first.value a i in let (y, q) = second.value b j in (x, (a, b, e, p, q));
  }

  pub agree_seq : {A B : Type 0} {r s : Re C} {P : A → List T → Type 0} {Q : B → List T → Type 0} → Agree Σ r P → Agree Σ s Q → Agree Σ (seq r s) (λ (x : A × B). P x.0 then Q x.1)
  unfolding In
  agree_seq first second = record {
    text = λ x u (a, b, e, p, q). (a, b, e, first.text x.0 a p, second.text x.1 b q);
    value = λ u (a, b, e, p, q). let (x, px) = first.value a p in let (y, qy) = second.value b q in ((x, y), (a, b, e, px, qy));
  }

  pub agree_alt : {A : Type 0} {r s : Re C} {P Q R : A → List T → Type 0} → Agree Σ r P → Agree Σ s Q → ((x : A) (u : List T) → P x u ⊎ Q x u → R x u) → ((x : A) (u : List T) → R x u → P x u ⊎ Q x u) → Agree Σ (alt r s) R
  unfolding In
  agree_alt first second to from = record {
    text = λ x u h. elim (from x u h) [ inl p ↦ inl (first.text x u p) | inr q ↦ inr (second.text x u q) ];
    value = λ u h. elim h [ inl p ↦ let (x, px) = first.value u p in (x, to x u (inl px)) | inr q ↦ let (x, qx) = second.value u q in (x, to x u (inr qx)) ];
  }

  -- other values for the same tokens
  pub agree_as : {A B : Type 0} {r : Re C} {P : A → List T → Type 0} {Q : B → List T → Type 0} → Agree Σ r P → ((x : A) (u : List T) → P x u → (y : B) × Q y u) → ((y : B) (u : List T) → Q y u → (x : A) × P x u) → Agree Σ r Q
  agree_as h there back = record {
    text = λ y u q. let (x, p) = back y u q in h.text x u p;
    value = λ u i. let (x, p) = h.value u i in there x u p;
  }

  pub agree_listed : {A : Type 0} {c : C} {S : List T → Type 0} {r : Re C} {P : A → List T → Type 0} → Agrees Σ (one c) S → Agree Σ r P → Agree Σ (listed c r) (AreListed S P)
  unfolding In
  agree_listed {A} {c} {S} {r} {P} m h = record {
    text = list_text Σ c S r P m h;
    value = λ u (a, bs, e, i, is). let (xs, p) = list_value Σ c S r P m h a bs i is in (xs, subst (λ v. AreListed S P xs v) (sym e) p);
  }

  -- after a part without a value
  pub agree_after : {A : Type 0} {r s : Re C} {S : List T → Type 0} {P : A → List T → Type 0} → Agrees Σ r S → Agree Σ s P → Agree Σ (seq r s) (λ x. S then P x)
  unfolding In
  agree_after first second = record {
    text = λ x u (a, b, e, p, q). (a, b, e, first.text tt a p, second.text x b q);
    value = λ u (a, b, e, i, j). let (y, p) = first.value a i in let (x, q) = second.value b j in (x, (a, b, e, p, q));
  }

  pub agree_or : {A B : Type 0} {r s : Re C} {P : A → List T → Type 0} {Q : B → List T → Type 0} → Agree Σ r P → Agree Σ s Q → Agree Σ (alt r s) (IsEither P Q)
  unfolding In
  agree_or {A} {B} {r} {s} {P} {Q} first second = record { text = there; value = back }
    where
      there : (x : A ⊎ B) (u : List T) → IsEither P Q x u → In Σ (alt r s) u
      there (inl x) u p = inl (first.text x u p)
      there (inr y) u q = inr (second.text y u q)

      back : (u : List T) → In Σ (alt r s) u → (x : A ⊎ B) × IsEither P Q x u
      back u (inl i) = let (x, p) = first.value u i in (inl x, p)
      back u (inr i) = let (y, q) = second.value u i in (inr y, q)

  -- a part that may be left out: it has no value, ..
  pub agree_perhaps : {r : Re C} {S : List T → Type 0} → Agrees Σ r S → Agrees Σ (optional r) (IsPerhaps S)
  unfolding In
  agree_perhaps {r} {S} h = record { text = there; value = back }
    where
      there : (x : Unit {0}) (u : List T) → IsPerhaps S u → In Σ (optional r) u
      there x u (inl p) = inl (h.text tt u p)
      there x u (inr e) = inr e

      back : (u : List T) → In Σ (optional r) u → (x : Unit {0}) × IsPerhaps S u
      back u (inl i) = (tt, inl (h.value u i).1)
      back u (inr e) = (tt, inr e)

  -- .. or one, ..
  pub agree_optional : {A : Type 0} {r : Re C} {P : A → List T → Type 0} → Agree Σ r P → Agree Σ (optional r) (IsGiven P)
  unfolding In
  agree_optional {A} {r} {P} h = record { text = there; value = back }
    where
      there : (x : Option A) (u : List T) → IsGiven P x u → In Σ (optional r) u
      there None u e = inr e
      there (Some x) u p = inl (h.text x u p)

      back : (u : List T) → In Σ (optional r) u → (x : Option A) × IsGiven P x u
      back u (inl i) = let (x, p) = h.value u i in (Some x, p)
      back u (inr e) = (None, e)

  -- .. or several
  pub agree_lists : {A : Type 0} {r : Re C} (Are : List A → List T → Type 0) → ((u : List T) → Are [] u → ⊥) → Agree Σ r Are → Agree Σ (optional r) (AreGiven Are)
  unfolding In
  agree_lists {A} {r} Are never h = record { text = there; value = back }
    where
      there : (xs : List A) (u : List T) → AreGiven Are xs u → In Σ (optional r) u
      there [] u e = inr e
      there (x ∷ xs) u p = inl (h.text (x ∷ xs) u p)

      some : (xs : List A) (u : List T) → Are xs u → (ys : List A) × AreGiven Are ys u
      some [] u p = absurd (never u p)
      some (x ∷ xs) u p = (x ∷ xs, p)

      back : (u : List T) → In Σ (optional r) u → (xs : List A) × AreGiven Are xs u
      back u (inl i) = let (xs, p) = h.value u i in some xs u p
      back u (inr e) = ([], e)

  -- any number of parts in a row
  pub agree_row : {A : Type 0} {r : Re C} {P : A → List T → Type 0} → Agree Σ r P → Agree Σ (many r) (AreInRow P)
  unfolding In
  agree_row {A} {r} {P} h = record { text = there; value = back }
    where
      there : (xs : List A) (u : List T) → AreInRow P xs u → Repeats (In Σ r) u
      there [] u e = none e
      there (x ∷ xs) u (a, b, e, p, q) = more a b e (h.text x a p) (there xs b q)

      back : (u : List T) → Repeats (In Σ r) u → (xs : List A) × AreInRow P xs u
      back u (none e) = ([], e)
      back u (more a b e i rest) = let (x, p) = h.value a i in let (xs, q) = back b rest in (x ∷ xs, (a, b, e, p, q))
