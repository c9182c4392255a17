-- Values in a row, read and written: what is said of all, from what is said of one.
use Rattle.std.proofs.Common.{◌≡◌, ℕ, zero, suc, ◌<◌, All, List, [], ◌∷◌, ◌++◌, length, Result, Ok, refl, sym, ap, subst, ◌∙◌, append_assoc}
use Rattle.std.specs.List.{AllByRecursion, flat_map}
use Rattle.std.specs.Int.{Width, to_le_bytes}
use Rattle.std.proofs.lemmas.List.Concat.{flat_map-cons}
use Rattle.std.proofs.lemmas.List.Elements.{All-from_recursion, All-head, All-tail}
use Rattle.byte_fields.specs.Fields.{◌>>=◌, Read, each, number_at, many, AllFrom}
use Rattle.byte_fields.proofs.Taking.{Inverse, IsBytes, IsWide, Takes, Takes-then, bind_ok, number_inverse, ok_is}

module _ {S A : Type 0} (read : S → List ℕ → Result (A × List ℕ) ℕ) (next : A → S) (write : A → List ℕ) (Fits : S → A → Type 0) where
  -- what is said of many, from what is said of one
  pub many_takes : ((s : S) (bytes : List ℕ) (x : A × List ℕ) → IsBytes bytes → read s bytes ≡ Ok x → Takes bytes (write x.0) x.1 × Fits s x.0)
      → (n : ℕ) (s : S) (bytes : List ℕ) (x : List A × List ℕ) → IsBytes bytes → many read next n s bytes ≡ Ok x → Takes bytes (flat_map write x.0) x.1 × (length x.0 ≡ n) × AllFrom Fits next s x.0
  unfolding many
  many_takes one zero s bytes x fits e =
      subst (λ (y : List A × List ℕ). Takes bytes (flat_map write y.0) y.1 × (length y.0 ≡ 0) × AllFrom Fits next s y.0) (ok_is ([], bytes) x e) (record { parts = refl; rest_fits = fits }, refl, tt)
  many_takes one (suc n) s bytes x fits e =
      let a = bind_ok (read s bytes) (λ first. many read next n (next first.0) first.1 >>= λ others. Ok (first.0 ∷ others.0, others.1)) x e in
      let b = bind_ok (many read next n (next a.0.0) a.0.1) (λ others. Ok (a.0.0 ∷ others.0, others.1)) x a.2 in
      let first = one s bytes a.0 fits a.1 in
      let second = many_takes one n (next a.0.0) a.0.1 b.0 first.0.rest_fits b.1 in
      let both = Takes-then bytes (write a.0.0) a.0.1 (flat_map write b.0.0) b.0.1 first.0 second.0 in
      let made : List A × List ℕ = (a.0.0 ∷ b.0.0, b.0.1) in
      subst (λ (y : List A × List ℕ). Takes bytes (flat_map write y.0) y.1 × (length y.0 ≡ suc n) × AllFrom Fits next s y.0) (ok_is made x b.2) (rw flat_map-cons both, ap suc second.1, (first.1, second.2))

  pub many_again : ((s : S) (x : A) (rest : List ℕ) → Fits s x → read s (write x ++ rest) ≡ Ok (x, rest))
      → (s : S) (xs : List A) (rest : List ℕ) → AllFrom Fits next s xs → many read next (length xs) s (flat_map write xs ++ rest) ≡ Ok (xs, rest)
  unfolding many
  many_again one s [] rest fits = refl
  many_again one s (x ∷ xs) rest fits =
      let regrouped : flat_map write (x ∷ xs) ++ rest ≡ write x ++ (flat_map write xs ++ rest) = ap (λ (l : List ℕ). l ++ rest) (flat_map-cons write x xs) ∙ append_assoc (write x) (flat_map write xs) rest in
      ap (many read next (suc (length xs)) s) regrouped ∙ rw (one s x (flat_map write xs ++ rest) fits.0, many_again one (next x) xs rest fits.1) refl

  pub many_inverse : ((s : S) → Inverse (read s) write (Fits s)) → (n : ℕ) (s : S) → Inverse (many read next n s) (flat_map write) (λ xs. (length xs ≡ n) × AllFrom Fits next s xs)
  many_inverse one n s = record {
    takes = λ bytes x fits e. let t = many_takes (λ u. (one u).takes) n s bytes x fits e in (t.0, (t.1, t.2));
    again = λ xs rest fits. subst (λ (m : ℕ). many read next m s (flat_map write xs ++ rest) ≡ Ok (xs, rest)) fits.0 (many_again (λ u. (one u).again) s xs rest fits.1);
  }

  -- the number of the values, and these
  counted : (w : Width) → S → List ℕ → Read (List A)
  counted w s bytes = number_at w bytes >>= λ count. many read next count.0 s count.1

  counted_takes : (w : Width) (limit : ℕ) → IsWide w limit → ((s : S) → Inverse (read s) write (Fits s)) → (s : S) (bytes : List ℕ) (x : List A × List ℕ) → IsBytes bytes → counted w s bytes ≡ Ok x
      → Takes bytes (to_le_bytes w (length x.0) ++ flat_map write x.0) x.1 × ((length x.0 < limit) × AllFrom Fits next s x.0)
  unfolding counted
  counted_takes w limit wide one s bytes x fits e =
      let a = bind_ok (number_at w bytes) (λ count. many read next count.0 s count.1) x e in
      let size = (number_inverse w limit wide).takes bytes a.0 fits a.1 in
      let values = (many_inverse one a.0.0 s).takes a.0.1 x size.0.rest_fits a.2 in
      let both = Takes-then bytes (to_le_bytes w a.0.0) a.0.1 (flat_map write x.0) x.1 size.0 values.0 in (
        subst (λ (n : ℕ). Takes bytes (to_le_bytes w n ++ flat_map write x.0) x.1) (sym values.1.0) both,
        (subst (λ (n : ℕ). n < limit) (sym values.1.0) size.1, values.1.1),
      )

  counted_again : (w : Width) (limit : ℕ) → IsWide w limit → ((s : S) → Inverse (read s) write (Fits s)) → (s : S) (xs : List A) (rest : List ℕ) → (length xs < limit) × AllFrom Fits next s xs
      → counted w s ((to_le_bytes w (length xs) ++ flat_map write xs) ++ rest) ≡ Ok (xs, rest)
  unfolding counted
  counted_again w limit wide one s xs rest fits =
      ap (counted w s) (append_assoc (to_le_bytes w (length xs)) (flat_map write xs) rest)
      ∙ rw ((number_inverse w limit wide).again (length xs) (flat_map write xs ++ rest) fits.0) (many_again (λ u. (one u).again) s xs rest fits.1)

  pub counted_inverse : (w : Width) (limit : ℕ) → IsWide w limit → ((s : S) → Inverse (read s) write (Fits s)) → (s : S)
      → Inverse (λ bytes. number_at w bytes >>= λ count. many read next count.0 s count.1) (λ xs. to_le_bytes w (length xs) ++ flat_map write xs) (λ xs. (length xs < limit) × AllFrom Fits next s xs)
  unfolding counted
  counted_inverse w limit wide one s = record { takes = counted_takes w limit wide one s; again = counted_again w limit wide one s }

-- ---- values that don't depend on the ones before

by_each : {A : Type 0} (Fits : A → Type 0) (xs : List A) → AllFrom (λ (_ : Unit {0}). Fits) (λ _. tt) tt xs → AllByRecursion Fits xs
by_each Fits [] all = tt
by_each Fits (x ∷ xs) all = (all.0, by_each Fits xs all.1)

pub all_each : {A : Type 0} (Fits : A → Type 0) (xs : List A) → AllFrom (λ (_ : Unit {0}). Fits) (λ _. tt) tt xs → All Fits xs
all_each Fits xs all = All-from_recursion Fits xs (by_each Fits xs all)

pub each_all : {A : Type 0} (Fits : A → Type 0) (xs : List A) → All Fits xs → AllFrom (λ (_ : Unit {0}). Fits) (λ _. tt) tt xs
each_all Fits [] all = tt
each_all Fits (x ∷ xs) all = (All-head Fits x xs all, each_all Fits xs (All-tail Fits x xs all))

pub each_inverse : {A : Type 0} (read : List ℕ → Read A) (write : A → List ℕ) (Fits : A → Type 0) → Inverse read write Fits → (n : ℕ) → Inverse (each read n) (flat_map write) (λ xs. (length xs ≡ n) × All Fits xs)
each_inverse read write Fits one n =
    let all = many_inverse (λ (_ : Unit {0}). read) (λ _. tt) write (λ (_ : Unit {0}). Fits) (λ _. one) n tt in
    record {
      takes = λ bytes x fits e. let t = all.takes bytes x fits e in (t.0, (t.1.0, all_each Fits x.0 t.1.1));
      again = λ xs rest fits. all.again xs rest (fits.0, each_all Fits xs fits.1);
    }
