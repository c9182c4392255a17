-- Readers and writers that are each other's inverse: what is read is what was written, and what was written is read again.
use Rattle.std.proofs.Common.{◌≡◌, ℕ, suc, ◌+◌, ◌^◌, ◌<◌, ◌≤◌, Bool, true, false, cond, ltb, List, [], ◌∷◌, ◌++◌, length, get_or, take, drop, Result, Ok, Err, refl, sym, ap, subst, ◌∙◌, append_assoc, arith, inl, inr}
use Rattle.std.specs.Int.{Width, w16, w32, w64, byte_len, from_le_bytes, to_le_bytes}
use Rattle.std.proofs.lemmas.Bool.{cases_lt, ltb-false, le-ltb}
use Rattle.std.proofs.lemmas.List.{take_at, drop_at, take-append-drop, length-append, length-take, get_or-drop, get_or-take, get_or_past}
use Rattle.std.proofs.lemmas.Nat.{le_bytes_2, le_bytes_4, le_bytes_8, from_le_bytes-to_le_bytes_2, from_le_bytes-to_le_bytes_4, from_le_bytes-to_le_bytes_8}
use Rattle.byte_fields.specs.Fields.{◌>>=◌, Read, byte_at, as_one, begun_at, checked, number_at, piece_at}

abbrev pub IsBytes : List ℕ → Type 0
IsBytes bytes = (i : ℕ) → get_or bytes i 0 < 256

pub IsBytes-drop : (n : ℕ) (bytes : List ℕ) → IsBytes bytes → IsBytes (drop n bytes)
IsBytes-drop n bytes h i = rw get_or-drop (h (n + i))

pub IsBytes-take : (n : ℕ) (bytes : List ℕ) → IsBytes bytes → IsBytes (take n bytes)
IsBytes-take n bytes h i =
    elim (cases_lt i n) [
      | inl lt ↦ rw (get_or-take n bytes i 0 lt) (h i)
      | inr le ↦ rw (get_or_past (take n bytes) i 0 (omega (arith, length-take n bytes))) (omega arith)
    ]

pub IsBytes-rest : (b : ℕ) (bytes : List ℕ) → IsBytes (b ∷ bytes) → IsBytes bytes
IsBytes-rest b bytes h i = h (suc i)

abbrev pub done : {A : Type 0} → A → Result A ℕ
done x = Ok x

-- the value of a step that did not fail
pub bind_ok : {A B : Type 0} (r : Result A ℕ) (f : A → Result B ℕ) (y : B) → (r >>= f) ≡ Ok y → (x : A) × (r ≡ Ok x) × (f x ≡ Ok y)
bind_ok (Ok x) f y e = (x, refl, e)
bind_ok (Err d) f y e = absurd cc

-- a test that did not fail
pub guard_ok : {A : Type 0} (b : Bool) (d : ℕ) (r : Result A ℕ) (y : A) → cond b (Err d) r ≡ Ok y → (b ≡ false) × (r ≡ Ok y)
guard_ok true d r y e = absurd cc
guard_ok false d r y e = (refl, e)

-- a test that passed
pub guard_kept : {A : Type 0} (b : Bool) (d : ℕ) (x y : A) → cond b (done x) (Err d) ≡ Ok y → (b ≡ true) × (x ≡ y)
guard_kept true d x y e = (refl, cc)
guard_kept false d x y e = absurd cc

pub ok_is : {A : Type 0} (x y : A) → done x ≡ done y → x ≡ y
ok_is x y e = cc

-- what a reader took from the front
pub record Takes (bytes text rest : List ℕ) : Type 0 where
  pub parts : bytes ≡ text ++ rest
  pub rest_fits : IsBytes rest

pub Takes-then : (a x b y c : List ℕ) → Takes a x b → Takes b y c → Takes a (x ++ y) c
Takes-then a x b y c p q = record { parts = p.parts ∙ ap (λ (t : List ℕ). x ++ t) q.parts ∙ sym (append_assoc x y c); rest_fits = q.rest_fits }

-- what a reader takes is what a writer wrote, and the other way round
pub record Inverse {A : Type 0} (read : List ℕ → Read A) (write : A → List ℕ) (Fits : A → Type 0) : Type 0 where
  pub takes : (bytes : List ℕ) (x : A × List ℕ) → IsBytes bytes → read bytes ≡ Ok x → Takes bytes (write x.0) x.1 × Fits x.0
  pub again : (x : A) (rest : List ℕ) → Fits x → read (write x ++ rest) ≡ Ok (x, rest)

-- ---- bytes and pieces

byte_takes : (bytes : List ℕ) (x : ℕ × List ℕ) → IsBytes bytes → byte_at bytes ≡ Ok x → Takes bytes (x.0 ∷ []) x.1 × (x.0 < 256)
byte_takes [] x fits e = absurd cc
byte_takes (b ∷ rest) x fits e = subst (λ (y : ℕ × List ℕ). Takes (b ∷ rest) (y.0 ∷ []) y.1 × (y.0 < 256)) (ok_is (b, rest) x e) (record { parts = refl; rest_fits = IsBytes-rest b rest fits }, fits 0)

pub byte_inverse : Inverse byte_at (λ b. b ∷ []) (λ b. b < 256)
byte_inverse = record { takes = byte_takes; again = λ b rest lt. refl }

piece_takes : (n : ℕ) (bytes : List ℕ) (x : List ℕ × List ℕ) → IsBytes bytes → piece_at n bytes ≡ Ok x → Takes bytes x.0 x.1 × (length x.0 ≡ n)
piece_takes n bytes x fits e =
    let g = guard_ok (ltb (length bytes) n) (length bytes) (Ok (take n bytes, drop n bytes)) x e in
    let long : n ≤ length bytes = ltb-false _ _ g.0 in
    subst (λ (y : List ℕ × List ℕ). Takes bytes y.0 y.1 × (length y.0 ≡ n)) (ok_is (take n bytes, drop n bytes) x g.1) (record { parts = sym (take-append-drop n bytes); rest_fits = IsBytes-drop n bytes fits }, omega (arith, length-take n bytes, long))

piece_again : (n : ℕ) (piece rest : List ℕ) → length piece ≡ n → piece_at n (piece ++ rest) ≡ Ok (piece, rest)
piece_again n piece rest len =
    let long : ltb (length (piece ++ rest)) n ≡ false = le-ltb _ _ (omega (arith, length-append piece rest, len)) in
    rw (long, take_at piece rest n len, drop_at piece rest n len) refl

pub piece_inverse : (n : ℕ) → Inverse (piece_at n) (λ piece. piece) (λ piece. length piece ≡ n)
piece_inverse n = record { takes = piece_takes n; again = piece_again n }

-- ---- a test

module _ {A : Type 0} (test : A → Bool) (read : List ℕ → Read A) (write : A → List ℕ) (Fits : A → Type 0) (inverse : Inverse read write Fits) where
  checked_takes : (bytes : List ℕ) (x : A × List ℕ) → IsBytes bytes → checked test read bytes ≡ Ok x → Takes bytes (write x.0) x.1 × (Fits x.0 × (test x.0 ≡ true))
  checked_takes bytes x fits e =
      let a = bind_ok (read bytes) (λ field. cond (test field.0) (done field) (Err (length bytes))) x e in
      let g = guard_kept (test a.0.0) (length bytes) a.0 x a.2 in
      let t = inverse.takes bytes a.0 fits a.1 in
      subst (λ (y : A × List ℕ). Takes bytes (write y.0) y.1 × (Fits y.0 × (test y.0 ≡ true))) g.1 (t.0, (t.1, g.0))

  checked_again : (x : A) (rest : List ℕ) → Fits x × (test x ≡ true) → checked test read (write x ++ rest) ≡ Ok (x, rest)
  checked_again x rest fits = rw (inverse.again x rest fits.0, fits.1) refl

  pub checked_inverse : Inverse (checked test read) write (λ x. Fits x × (test x ≡ true))
  checked_inverse = record { takes = checked_takes; again = checked_again }

-- ---- several fields as one

begun_ok : {A : Type 0} (left : ℕ) (read : Result A ℕ) (x : A) → begun_at left read ≡ Ok x → read ≡ Ok x
begun_ok left (Ok y) x e = e
begun_ok left (Err inside) x e = absurd cc

pub one_inverse : {A : Type 0} (read : List ℕ → Read A) (write : A → List ℕ) (Fits : A → Type 0) → Inverse read write Fits → Inverse (as_one read) write Fits
one_inverse read write Fits inverse = record {
  takes = λ bytes x fits e. inverse.takes bytes x fits (begun_ok (length bytes) (read bytes) x e);
  again = λ x rest fits. ap (begun_at (length (write x ++ rest))) (inverse.again x rest fits);
}

-- ---- numbers

pub record IsWide (w : Width) (limit : ℕ) : Type 0 where
  pub len : (n : ℕ) → length (to_le_bytes w n) ≡ byte_len w
  pub back : (bytes : List ℕ) → length bytes ≡ byte_len w → IsBytes bytes → to_le_bytes w (from_le_bytes w bytes) ≡ bytes
  pub again : (n : ℕ) → n < limit → from_le_bytes w (to_le_bytes w n) ≡ n
  pub below : (bytes : List ℕ) → IsBytes bytes → from_le_bytes w bytes < limit

pub wide16 : IsWide w16 (2 ^ 16)
wide16 = record {
  len = λ n. refl;
  back = λ bytes len fits. le_bytes_2 bytes _ len fits refl;
  again = λ n lt. from_le_bytes-to_le_bytes_2 n lt;
  below = λ bytes fits. omega (arith, fits 0, fits 1);
}

pub wide32 : IsWide w32 (2 ^ 32)
wide32 = record {
  len = λ n. refl;
  back = λ bytes len fits. le_bytes_4 bytes _ len fits refl;
  again = λ n lt. from_le_bytes-to_le_bytes_4 n lt;
  below = λ bytes fits. omega (arith, fits 0, fits 1, fits 2, fits 3);
}

pub wide64 : IsWide w64 (2 ^ 64)
wide64 = record {
  len = λ n. refl;
  back = λ bytes len fits. le_bytes_8 bytes _ len fits refl;
  again = λ n lt. from_le_bytes-to_le_bytes_8 n lt;
  below = λ bytes fits. omega (arith, fits 0, fits 1, fits 2, fits 3, fits 4, fits 5, fits 6, fits 7);
}

pub number_takes : (w : Width) (limit : ℕ) (wide : IsWide w limit) (bytes : List ℕ) (n : ℕ) (rest : List ℕ) → IsBytes bytes → number_at w bytes ≡ Ok (n, rest) → Takes bytes (to_le_bytes w n) rest × (n < limit)
number_takes w limit wide bytes n rest fits e =
    let g = guard_ok (ltb (length bytes) (byte_len w)) (length bytes) (Ok (from_le_bytes w (take (byte_len w) bytes), drop (byte_len w) bytes)) (n, rest) e in
    let long : byte_len w ≤ length bytes = ltb-false _ _ g.0 in
    let both = ok_is (from_le_bytes w (take (byte_len w) bytes), drop (byte_len w) bytes) (n, rest) g.1 in
    let n-is : from_le_bytes w (take (byte_len w) bytes) ≡ n = ap (λ (p : ℕ × List ℕ). p.0) both in
    let rest-is : drop (byte_len w) bytes ≡ rest = ap (λ (p : ℕ × List ℕ). p.1) both in
    let front : to_le_bytes w n ≡ take (byte_len w) bytes = rw (← n-is) (wide.back (take (byte_len w) bytes) (omega (arith, length-take (byte_len w) bytes)) (IsBytes-take (byte_len w) bytes fits)) in
    (record { parts = rw (front, ← rest-is) (sym (take-append-drop (byte_len w) bytes)); rest_fits = rw (← rest-is) (IsBytes-drop (byte_len w) bytes fits) }, rw (← n-is) (wide.below (take (byte_len w) bytes) (IsBytes-take (byte_len w) bytes fits)))

pub number_again : (w : Width) (limit : ℕ) (wide : IsWide w limit) (n : ℕ) (rest : List ℕ) → n < limit → number_at w (to_le_bytes w n ++ rest) ≡ Ok (n, rest)
number_again w limit wide n rest lt =
    let len = wide.len n in
    let long : ltb (length (to_le_bytes w n ++ rest)) (byte_len w) ≡ false = le-ltb _ _ (omega (arith, length-append (to_le_bytes w n) rest)) in
    rw (long, take_at (to_le_bytes w n) rest (byte_len w) len, drop_at (to_le_bytes w n) rest (byte_len w) len, wide.again n lt) refl

pub number_inverse : (w : Width) (limit : ℕ) → IsWide w limit → Inverse (number_at w) (to_le_bytes w) (λ n. n < limit)
number_inverse w limit wide = record {
  takes = λ bytes x fits e. number_takes w limit wide bytes x.0 x.1 fits e;
  again = λ n rest lt. number_again w limit wide n rest lt;
}

pub inverse16 : Inverse (number_at w16) (to_le_bytes w16) (λ n. n < 2 ^ 16)
inverse16 = number_inverse w16 (2 ^ 16) wide16

pub inverse32 : Inverse (number_at w32) (to_le_bytes w32) (λ n. n < 2 ^ 32)
inverse32 = number_inverse w32 (2 ^ 32) wide32

pub inverse64 : Inverse (number_at w64) (to_le_bytes w64) (λ n. n < 2 ^ 64)
inverse64 = number_inverse w64 (2 ^ 64) wide64
