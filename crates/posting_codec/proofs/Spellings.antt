-- Short numbers: no spelling begins another, and what the first byte says.
use Rattle.std.proofs.Common.{◌≡◌, ℕ, zero, suc, ◌+◌, ◌-◌, ◌*◌, add-one, ◌/◌, ◌%◌, ◌<◌, ◌≤◌, ◌^◌, List, [], ◌∷◌, ◌++◌, length, get_or, drop, refl, sym, ap, subst, ◌∙◌, arith, inl, inr}
use Rattle.std.proofs.Math.Seq.{drop-cons}
use Rattle.std.proofs.lemmas.Bool.{cases_lt, le-ltb, lt-ltb}
use Rattle.posting_codec.specs.Numbers.{spelled, number, IsNumberAt}
use Rattle.posting_codec.specs.steps.Parts.{limit, IsPart}

-- the two forms of a spelling
pub short : (more n : ℕ) → n < 128 → spelled more n ≡ n ∷ []
short zero n low = refl
short (suc more) n low = rw (lt-ltb n 128 low) refl

pub long : (more n : ℕ) → 128 ≤ n → spelled (suc more) n ≡ (128 + n % 128) ∷ spelled more (n / 128)
long more n high = rw (le-ltb n 128 high) refl

pub apart : (more m n : ℕ) (x y : List ℕ) → spelled more m ++ x ≡ spelled more n ++ y → (m ≡ n) × (x ≡ y)
apart zero m n x y e = (cc, cc)
apart (suc more) m n x y e =
    elim (cases_lt m 128) [
      | inl lm ↦ elim (cases_lt n 128) [
        | inl ln ↦ let f : m ∷ x ≡ n ∷ y = ap (λ l. l ++ x) (sym (short (suc more) m lm)) ∙ e ∙ ap (λ l. l ++ y) (short (suc more) n ln) in (cc, cc)
        | inr hn ↦ let f : m ∷ x ≡ (128 + n % 128) ∷ (spelled more (n / 128) ++ y) = ap (λ l. l ++ x) (sym (short (suc more) m lm)) ∙ e ∙ ap (λ l. l ++ y) (long more n hn) in
            let g : m ≡ 128 + n % 128 = cc in absurd (omega (arith, g, lm))
      ]
      | inr hm ↦ elim (cases_lt n 128) [
        | inl ln ↦ let f : (128 + m % 128) ∷ (spelled more (m / 128) ++ x) ≡ n ∷ y = ap (λ l. l ++ x) (sym (long more m hm)) ∙ e ∙ ap (λ l. l ++ y) (short (suc more) n ln) in
            let g : 128 + m % 128 ≡ n = cc in absurd (omega (arith, g, ln))
        | inr hn ↦ let f : (128 + m % 128) ∷ (spelled more (m / 128) ++ x) ≡ (128 + n % 128) ∷ (spelled more (n / 128) ++ y) = ap (λ l. l ++ x) (sym (long more m hm)) ∙ e ∙ ap (λ l. l ++ y) (long more n hn) in
            let g : 128 + m % 128 ≡ 128 + n % 128 = cc in
            let rest : spelled more (m / 128) ++ x ≡ spelled more (n / 128) ++ y = cc in
            let its = apart more (m / 128) (n / 128) x y rest in
            (omega (arith, g, its.0), its.1)
      ]
    ]

-- the byte at a place, and what lies after it
pub first_at : (bytes : List ℕ) (at b : ℕ) (rest : List ℕ) → drop at bytes ≡ b ∷ rest → (get_or bytes at 0 ≡ b) × (drop (at + 1) bytes ≡ rest) × (at < length bytes)
first_at [] zero b rest e = absurd cc
first_at [] (suc at) b rest e = absurd cc
first_at (x ∷ xs) zero b rest e = (cc, cc, omega arith)
first_at (x ∷ xs) (suc at) b rest e = let its = first_at xs at b rest e in (its.0, subst (λ k. drop k (x ∷ xs) ≡ rest) (sym (add-one (suc at))) (subst (λ k. drop k xs ≡ rest) (add-one at) its.1), omega (arith, its.2))

-- what is known of a part where it is spelled
pub record Part (more : ℕ) (bytes : List ℕ) (at n : ℕ) (rest : List ℕ) : Type 0 where
  pub within : at < length bytes
  pub great : 128 ≤ get_or bytes at 0 → 128 ≤ n
  pub low : get_or bytes at 0 < 128 → (n ≡ get_or bytes at 0) × (length (spelled more n) ≡ 1)
  pub high : 128 ≤ get_or bytes at 0 → (k : ℕ) × (k ≡ more - 1) × (more ≡ k + 1) × (n / 128 < limit k) × (n ≡ (get_or bytes at 0 - 128) + 128 * (n / 128)) × (drop (at + 1) bytes ≡ spelled k (n / 128) ++ rest) × (length (spelled more n) ≡ 1 + length (spelled k (n / 128)))

pub part : (more : ℕ) (bytes : List ℕ) (at n : ℕ) (rest : List ℕ) → n < limit more → drop at bytes ≡ spelled more n ++ rest → Part more bytes at n rest
part zero bytes at n rest few e =
    let its = first_at bytes at n rest e in
    record { within = its.2; great = λ h. absurd (omega (arith, few, its.0, h)); low = λ l. (sym its.0, refl); high = λ h. absurd (omega (arith, few, its.0, h)) }
part (suc more) bytes at n rest few e =
    elim (cases_lt n 128) [
      | inl low ↦
          let its = first_at bytes at n rest (e ∙ ap (λ l. l ++ rest) (short (suc more) n low)) in
          record { within = its.2; great = λ h. absurd (omega (arith, low, its.0, h)); low = λ l. (sym its.0, ap length (short (suc more) n low)); high = λ h. absurd (omega (arith, low, its.0, h)) }
      | inr high ↦
          let longer : length (spelled (suc more) n) ≡ suc (length (spelled more (n / 128))) = ap length (long more n high) in
          let its = first_at bytes at (128 + n % 128) (spelled more (n / 128) ++ rest) (e ∙ ap (λ l. l ++ rest) (long more n high)) in
          record { within = its.2; great = λ h. high; low = λ l. absurd (omega (arith, its.0, l)); high = λ h. (more, omega arith, omega arith, omega (arith, few), omega (arith, its.0), its.1, omega (arith, longer)) }
    ]

-- what the call for the bytes after the first requires, and what it answers then
pub record Onward (more : ℕ) (bytes : List ℕ) (at n : ℕ) (rest : List ℕ) : Type 0 where
  pub some : 0 < more
  pub great : 1 ≤ n / 128
  pub few : n / 128 < limit (more - 1)
  pub whole : n ≡ (get_or bytes at 0 - 128) + 128 * (n / 128)
  pub next : drop (at + 1) bytes ≡ spelled (more - 1) (n / 128) ++ rest
  pub long : length (spelled more n) ≡ 1 + length (spelled (more - 1) (n / 128))

pub onward : (more : ℕ) (bytes : List ℕ) (at n : ℕ) (rest : List ℕ) → n < limit more → drop at bytes ≡ spelled more n ++ rest → 128 ≤ get_or bytes at 0 → Onward more bytes at n rest
onward more bytes at n rest few e high =
    let its = (part more bytes at n rest few e).high high in
    let great : 128 ≤ n = (part more bytes at n rest few e).great high in
    record {
      great = omega (arith, great);
      some = omega (arith, its.2);
      few = subst (λ k. n / 128 < limit k) its.1 its.3;
      whole = its.4;
      next = subst (λ k. drop (at + 1) bytes ≡ spelled k (n / 128) ++ rest) its.1 its.5;
      long = subst (λ k. length (spelled more n) ≡ 1 + length (spelled k (n / 128))) its.1 its.6;
    }

in_limit : (more n : ℕ) → n < 128 → n < limit more
in_limit zero n low = low
in_limit (suc more) n low = omega (arith, in_limit more n low)

-- the byte at a place, before the rest
first_there : (bytes : List ℕ) (at first : ℕ) → at < length bytes → first ≡ get_or bytes at 0 → drop at bytes ≡ first ∷ drop (at + 1) bytes
first_there bytes at first h e = rw (add-one at) (drop-cons bytes at 0 h ∙ ap (λ x. x ∷ drop (suc at) bytes) (sym e))

-- what is read where a byte has no high bit
pub read_short : (more : ℕ) (bytes : List ℕ) (at first : ℕ) → at < length bytes → first ≡ get_or bytes at 0 → first < 128 → (rest : List ℕ) × IsPart more bytes at first rest × (at + 1 ≡ at + length (spelled more first))
read_short more bytes at first h e low =
    let spelling : spelled more first ≡ first ∷ [] = short more first low in
    let long : length (spelled more first) ≡ 1 = ap length spelling in
    (drop (at + 1) bytes, record { few = in_limit more first low; here = first_there bytes at first h e ∙ ap (λ l. l ++ drop (at + 1) bytes) (sym spelling) }, omega (arith, long))

-- and where it has one, and what lies behind it is read too
pub read_long : (more k : ℕ) (bytes : List ℕ) (at first high end : ℕ) (rest : List ℕ) → more ≡ k + 1 → at < length bytes → first ≡ get_or bytes at 0 → 128 ≤ first → first < 256 → 0 < high → IsPart k bytes (at + 1) high rest → end ≡ at + 1 + length (spelled k high) → IsPart more bytes at (first - 128 + 128 * high) rest × (end ≡ at + length (spelled more (first - 128 + 128 * high)))
read_long more k bytes at first high end rest one h e great byte some is ends =
    let n : ℕ = first - 128 + 128 * high in
    let part : n / 128 ≡ high = omega (arith, great, byte) in
    let low : 128 + n % 128 ≡ first = omega (arith, great, byte, part) in
    let m : more ≡ suc k = omega (arith, one) in
    let spelling : spelled more n ≡ first ∷ spelled k high = ap (λ j. spelled j n) m ∙ long k n (omega (arith, some)) ∙ ap (λ b. b ∷ spelled k (n / 128)) low ∙ ap (λ j. first ∷ spelled k j) part in
    let longer : length (spelled more n) ≡ suc (length (spelled k high)) = ap length spelling in
    let bound : limit more ≡ 128 * limit k = ap limit m in
    (record { few = omega (arith, is.few, bound, byte); here = first_there bytes at first h e ∙ ap (λ l. first ∷ l) is.here ∙ ap (λ l. l ++ rest) (sym spelling) }, omega (arith, ends, longer))

-- where the bytes end no number is spelled
pub none_past : (more : ℕ) (bytes : List ℕ) (at n : ℕ) (rest : List ℕ) → length bytes ≤ at → IsPart more bytes at n rest → ⊥
none_past more bytes at n rest past is = absurd (omega (arith, past, (part more bytes at n rest is.few is.here).within))

-- what a number with a high bit in its first byte goes on with
pub next_part : (more : ℕ) (bytes : List ℕ) (at n : ℕ) (rest : List ℕ) → IsPart more bytes at n rest → 128 ≤ get_or bytes at 0 → (0 < more) × (1 ≤ n / 128) × IsPart (more - 1) bytes (at + 1) (n / 128) rest
next_part more bytes at n rest is high =
    let o = onward more bytes at n rest is.few is.here high in
    (o.some, o.great, record { few = o.few; here = o.next })

-- parts at one place are of one number
pub one_part : (more : ℕ) (bytes : List ℕ) (at m n : ℕ) (x y : List ℕ) → IsPart more bytes at m x → IsPart more bytes at n y → m ≡ n
one_part more bytes at m n x y is it = (apart more m n x y (sym is.here ∙ it.here)).0

-- no spelling of a number begins another
pub one_number : (m n : ℕ) (x y : List ℕ) → number m ++ x ≡ number n ++ y → (m ≡ n) × (x ≡ y)
unfolding number
one_number = apart 4

-- what few bytes can spell
pub limit_small : (more : ℕ) → more ≤ 4 → limit more ≤ 2 ^ 35
limit_small zero few = omega arith
limit_small (suc zero) few = omega arith
limit_small (suc (suc zero)) few = omega arith
limit_small (suc (suc (suc zero))) few = omega arith
limit_small (suc (suc (suc (suc zero)))) few = omega arith
limit_small (suc (suc (suc (suc (suc more))))) few = absurd (omega (arith, few))

-- a number of 32 bits is one that five bytes can spell
pub part_of_number : (bytes : List ℕ) (at n : ℕ) (rest : List ℕ) → IsNumberAt bytes at n rest → IsPart 4 bytes at n rest
unfolding number
part_of_number bytes at n rest is = record { few = omega (arith, is.fits); here = is.here }

pub number_of_part : (bytes : List ℕ) (at n : ℕ) (rest : List ℕ) → IsPart 4 bytes at n rest → n < 2 ^ 32 → IsNumberAt bytes at n rest
unfolding number
number_of_part bytes at n rest is low = record { fits = low; here = is.here }
