-- A choice of parts with names: each value is a name and a value of the part of this name. So an alternative is reached by its
-- name, and one that is put among them moves no other.
use Rattle.std.proofs.Common.{◌≡◌, List, [], ◌∷◌, ◌++◌, Bool, true, false, ◌⊎◌, inl, inr, refl, sym, ap, subst}
use Rattle.std.specs.Prelude.{◌&&◌, not}
use Rattle.token_grammar.specs.Alphabets.{Alphabet}
use Rattle.token_grammar.specs.Language.{Re, ◌∣◌, In, nullable}
use Rattle.token_grammar.specs.Firsts.{apart}
use Rattle.token_grammar.proofs.Bools.{and_all, and_first, and_second}
use Rattle.token_grammar.proofs.Agreement.{Agree}
use Rattle.token_grammar.proofs.Once.{StartsApart, Once, firsts}
use Rattle.token_grammar.proofs.OnceChoices.{Parted, parted_first}

-- the name is the first or one of the others
abbrev pub IsListed : {N : Type 0} → N → List N → N → Type 0
IsListed first [] name = first ≡ name
IsListed first (next ∷ others) name = (first ≡ name) ⊎ IsListed next others name

-- the choice of the parts of these names, in their order
abbrev pub choice : {C N : Type 0} → (N → Re C) → N → List N → Re C
choice part first [] = part first
choice part first (next ∷ others) = part first ∣ choice part next others

-- No two of the parts stand at the front of one list, where what follows begins with no token of the classes.
abbrev pub AreParted : {C T N : Type 0} → Alphabet C T → List C → (N → Re C) → N → List N → Type 0
AreParted Σ cs part first [] = Unit {0}
AreParted Σ cs part first (next ∷ others) = Parted Σ cs (part first) (choice part next others) × AreParted Σ cs part next others

-- two parts begin with different tokens, and neither may be left out
abbrev pub begin_apart : {C T : Type 0} → Alphabet C T → Re C → Re C → Bool
begin_apart Σ r s = not (nullable r) && not (nullable s) && apart Σ (firsts r) s

-- each part and the choice of those after it
abbrev pub all_begin_apart : {C T N : Type 0} → Alphabet C T → (N → Re C) → N → List N → Bool
all_begin_apart Σ part first [] = true
all_begin_apart Σ part first (next ∷ others) = begin_apart Σ (part first) (choice part next others) && all_begin_apart Σ part next others

is_false : (b : Bool) → not b ≡ true → b ≡ false
is_false true e = cc
is_false false e = refl

parted_if : {C T : Type 0} (Σ : Alphabet C T) (cs : List C) (r s : Re C) → begin_apart Σ r s ≡ true → Parted Σ cs r s
parted_if Σ cs r s e =
    let (filled, filled', free) = and_all (not (nullable r)) (not (nullable s)) (apart Σ (firsts r) s) e in
    parted_first (is_false (nullable r) filled) (is_false (nullable s) filled') free

pub parted_firsts : {C T N : Type 0} (Σ : Alphabet C T) (cs : List C) (part : N → Re C) (first : N) (others : List N) → all_begin_apart Σ part first others ≡ true → AreParted Σ cs part first others
parted_firsts Σ cs part first [] e = tt
parted_firsts Σ cs part first (next ∷ others) e =
    let here = begin_apart Σ (part first) (choice part next others) in
    let later = all_begin_apart Σ part next others in
    (parted_if Σ cs (part first) (choice part next others) (and_first here later e), parted_firsts Σ cs part next others (and_second here later e))

module _ {C T N : Type 0} (Σ : Alphabet C T) (part : N → Re C) where
  -- a text of a part is one of the choice, ..
  of_part : (first : N) (others : List N) (name : N) (u : List T) → IsListed first others name → In Σ (part name) u → In Σ (choice part first others) u
  unfolding In
  of_part first [] name u is i = subst (λ (n : N). In Σ (part n) u) (sym is) i
  of_part first (next ∷ others) name u (inl is) i = inl (subst (λ (n : N). In Σ (part n) u) (sym is) i)
  of_part first (next ∷ others) name u (inr listed) i = inr (of_part next others name u listed i)

  -- .. and a text of the choice one of a part
  part_of : (first : N) (others : List N) (u : List T) → In Σ (choice part first others) u → (name : N) × In Σ (part name) u
  unfolding In
  part_of first [] u i = (first, i)
  part_of first (next ∷ others) u (inl i) = (first, i)
  part_of first (next ∷ others) u (inr i) = part_of next others u i

  -- two texts at the front of one list are texts of one part
  one_name : (cs : List C) (first : N) (others : List N) → AreParted Σ cs part first others → (m n : N) → IsListed first others m → IsListed first others n → (u v p q : List T) → In Σ (part m) u → In Σ (part n) v → u ++ p ≡ v ++ q → StartsApart Σ cs p → StartsApart Σ cs q → m ≡ n
  one_name cs first [] parted m n is is' u v p q i j e h k = cc
  one_name cs first (next ∷ others) (parted, rest) m n (inl is) (inl is') u v p q i j e h k = cc
  one_name cs first (next ∷ others) (parted, rest) m n (inl is) (inr listed) u v p q i j e h k =
      absurd (parted.never u v p q (subst (λ (n : N). In Σ (part n) u) (sym is) i) (of_part next others n v listed j) e h k)
  one_name cs first (next ∷ others) (parted, rest) m n (inr listed) (inl is) u v p q i j e h k =
      absurd (parted.never v u q p (subst (λ (n : N). In Σ (part n) v) (sym is) j) (of_part next others m u listed i) (sym e) k h)
  one_name cs first (next ∷ others) (parted, rest) m n (inr listed) (inr listed') u v p q i j e h k =
      one_name cs next others rest m n listed listed' u v p q i j e h k

module _ {C T N : Type 0} {Σ : Alphabet C T} {part : N → Re C} {A : N → Type 0} {P : (name : N) → A name → List T → Type 0} where
  pub agree_named : (first : N) (others : List N) → ((name : N) → IsListed first others name) → ((name : N) → Agree Σ (part name) (P name)) → Agree Σ (choice part first others) (λ (x : (name : N) × A name). P x.0 x.1)
  agree_named first others all agree = record {
    text = λ x u i. of_part Σ part first others x.0 u (all x.0) ((agree x.0).text x.1 u i);
    value = λ u i. let (name, j) = part_of Σ part first others u i in let (x, h) = (agree name).value u j in ((name, x), h);
  }

  pub once_named : {cs : List C} (first : N) (others : List N) → ((name : N) → IsListed first others name) → AreParted Σ cs part first others → ((name : N) → Once Σ (part name) cs (P name)) → Once Σ (choice part first others) cs (λ (x : (name : N) × A name). P x.0 x.1)
  once_named {cs} first others all parted once = record {
    text = λ x u i. of_part Σ part first others x.0 u (all x.0) ((once x.0).text x.1 u i);
    once = λ x y u v p q i j e h k.
        let same = one_name Σ part cs first others parted x.0 y.0 (all x.0) (all y.0) u v p q ((once x.0).text x.1 u i) ((once y.0).text y.1 v j) e h k in
        subst (AreOne x u v p q) same (at_name x u v p q i e h k) y.1 j;
  }
    where
      Named : Type 0
      Named = (name : N) × A name

      AreOne : Named → (u v p q : List T) → N → Type 0
      AreOne x u v p q name = (y : A name) → P name y v → (x ≡ (name, y)) × (u ≡ v) × (p ≡ q)

      at_name : (x : Named) (u v p q : List T) → P x.0 x.1 u → u ++ p ≡ v ++ q → StartsApart Σ cs p → StartsApart Σ cs q → AreOne x u v p q x.0
      at_name (name, x) u v p q i e h k y j =
          let (f, g, r) = (once name).once x y u v p q i j e h k in (ap (λ (z : A name). (name, z)) f, g, r)
