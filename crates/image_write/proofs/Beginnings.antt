-- The first bytes of words as numbers keep the order of the words.
use Rattle.std.proofs.Common.{◌≡◌, ◌⊎◌, inl, inr, ℕ, zero, suc, ◌+◌, ◌*◌, ◌%◌, ◌<◌, ◌≤◌, List, [], ◌∷◌, true, refl, sym, ap, ◌∙◌, arith, drop, get_or, length, subst}
use Rattle.std.specs.Ordering.{nat_cmp, ordering_then}
use Rattle.std.specs.Cmp.Lexicographic.{slice_cmp}
use Rattle.std.specs.declared.cmp.Ordering.TheVariants.{Less}
use Rattle.std.proofs.lemmas.Cmp.{ranked, by_ranked, nat_cmp_total, tied_itself}
use Rattle.std.specs.Prelude.{nat_lt}
use Rattle.image_write.specs.Heads.{HasBytes, IsRead, ending, followed, head, tells}
use Rattle.image_write.proofs.Endings.{eighth_less, eighth_told, eighth_within, ending_small, long_of, rest_before, rest_same, short_of, told_ending}

-- a smaller number with bytes behind it is smaller, whatever is behind the greater one
greater : (n m k : ℕ) (a b : List ℕ) → m < k → HasBytes n a → followed n m a < followed n k b
greater zero m k a b less bytes = less
greater (suc n) m k [] [] less bytes = greater n (m * 256) (k * 256) [] [] (omega (arith, less)) (none n)
  where
    none : (n : ℕ) → HasBytes n []
    none zero = tt
    none (suc n) = tt
greater (suc n) m k [] (y ∷ ys) less bytes = greater n (m * 256) (k * 256 + y) [] ys (omega (arith, less)) (none n)
  where
    none : (n : ℕ) → HasBytes n []
    none zero = tt
    none (suc n) = tt
greater (suc n) m k (x ∷ xs) [] less bytes = greater n (m * 256 + x) (k * 256) xs [] (omega (arith, less, bytes.0)) bytes.1
greater (suc n) m k (x ∷ xs) (y ∷ ys) less bytes = greater n (m * 256 + x) (k * 256 + y) xs ys (omega (arith, less, bytes.0)) bytes.1

least : (n m k : ℕ) (b : List ℕ) → m ≤ k → followed n m [] ≤ followed n k b
least zero m k b low = low
least (suc n) m k [] low = least n (m * 256) (k * 256) [] (omega (arith, low))
least (suc n) m k (y ∷ ys) low = least n (m * 256) (k * 256 + y) ys (omega (arith, low))

before : (n m : ℕ) (a b : List ℕ) → HasBytes n b → followed n m a < followed n m b → slice_cmp nat_cmp a b ≡ Less
before zero m a b bytes less = absurd (omega (arith, less))
before (suc n) m [] [] bytes less = absurd (omega (arith, less))
before (suc n) m [] (y ∷ ys) bytes less = refl
before (suc n) m (x ∷ xs) [] bytes less = absurd (omega (arith, less, least n (m * 256) (m * 256 + x) xs (omega arith)))
before (suc n) m (x ∷ xs) (y ∷ ys) bytes less =
    by_ranked (x < y) (x ≡ y) (y < x) (nat_cmp x y) (ranked x y (nat_cmp x y) refl)
    (λ o _. ap (λ p. ordering_then p (slice_cmp nat_cmp xs ys)) o)
    (λ o e. ap (λ p. ordering_then p (slice_cmp nat_cmp xs ys)) o ∙ before n (m * 256 + y) xs ys bytes.1 (subst (λ k. followed n (m * 256 + k) xs < followed n (m * 256 + y) ys) e less))
    (λ o low. absurd (omega (arith, less, greater n (m * 256 + y) (m * 256 + x) ys xs (omega (arith, low)) bytes.1)))

-- numbers that are equal with bytes behind them are equal
alike_from : (n m k : ℕ) (a b : List ℕ) → HasBytes n a → HasBytes n b → followed n m a ≡ followed n k b → m ≡ k
alike_from n m k a b bytes its e =
    by_ranked (m < k) (m ≡ k) (k < m) (nat_cmp m k) (ranked m k (nat_cmp m k) refl)
    (λ _ less. absurd (omega (arith, e, greater n m k a b less bytes)))
    (λ _ same. same)
    (λ _ less. absurd (omega (arith, e, greater n k m b a less its)))

same_byte : (n m x y : ℕ) (xs ys : List ℕ) → HasBytes n xs → HasBytes n ys → followed n (m * 256 + x) xs ≡ followed n (m * 256 + y) ys → x ≡ y
same_byte n m x y xs ys bytes its e = let number : m * 256 + x ≡ m * 256 + y = alike_from n (m * 256 + x) (m * 256 + y) xs ys bytes its e in omega (arith, number)

-- a word that has no more bytes than these, and fewer than another one with the same, stands before that
begins : (n m : ℕ) (a b : List ℕ) → HasBytes n a → HasBytes n b → followed n m a ≡ followed n m b → length a ≤ n → length a < length b → slice_cmp nat_cmp a b ≡ Less
begins zero m [] [] bytes its e few less = absurd (omega (arith, less))
begins zero m [] (y ∷ ys) bytes its e few less = refl
begins zero m (x ∷ xs) b bytes its e few less = absurd (omega (arith, few))
begins (suc n) m [] [] bytes its e few less = absurd (omega (arith, less))
begins (suc n) m [] (y ∷ ys) bytes its e few less = refl
begins (suc n) m (x ∷ xs) [] bytes its e few less = absurd (omega (arith, less))
begins (suc n) m (x ∷ xs) (y ∷ ys) bytes its e few less =
    let same : x ≡ y = same_byte n m x y xs ys bytes.1 its.1 e in
    ap (λ k. ordering_then (nat_cmp x k) (slice_cmp nat_cmp xs ys)) (sym same) ∙ ap (λ o. ordering_then o (slice_cmp nat_cmp xs ys)) (tied_itself nat_cmp_total x)
    ∙ begins n (m * 256 + y) xs ys bytes.1 its.1 (subst (λ k. followed n (m * 256 + k) xs ≡ followed n (m * 256 + y) ys) same e) (omega (arith, few)) (omega (arith, less))

-- words of so many bytes at most are told by these
told_by : (n m : ℕ) (a b : List ℕ) → HasBytes n a → HasBytes n b → followed n m a ≡ followed n m b → length a ≤ n → length a ≡ length b → a ≡ b
told_by zero m [] [] bytes its e few same = refl
told_by zero m [] (y ∷ ys) bytes its e few same = absurd (omega (arith, same))
told_by zero m (x ∷ xs) b bytes its e few same = absurd (omega (arith, few))
told_by (suc n) m [] [] bytes its e few same = refl
told_by (suc n) m [] (y ∷ ys) bytes its e few same = absurd (omega (arith, same))
told_by (suc n) m (x ∷ xs) [] bytes its e few same = absurd (omega (arith, same))
told_by (suc n) m (x ∷ xs) (y ∷ ys) bytes its e few same =
    let one : x ≡ y = same_byte n m x y xs ys bytes.1 its.1 e in
    ap (λ k. k ∷ xs) one ∙ ap (λ l. y ∷ l) (told_by n (m * 256 + y) xs ys bytes.1 its.1 (subst (λ k. followed n (m * 256 + k) xs ≡ followed n (m * 256 + y) ys) one e) (omega (arith, few)) (omega (arith, same)))

-- what lies behind bytes that are alike decides
behind : (n m : ℕ) (a b : List ℕ) → HasBytes n a → HasBytes n b → followed n m a ≡ followed n m b → n ≤ length a → n ≤ length b → slice_cmp nat_cmp a b ≡ slice_cmp nat_cmp (drop n a) (drop n b)
behind zero m a b bytes its e long far = refl
behind (suc n) m [] b bytes its e long far = absurd (omega (arith, long))
behind (suc n) m (x ∷ xs) [] bytes its e long far = absurd (omega (arith, far))
behind (suc n) m (x ∷ xs) (y ∷ ys) bytes its e long far =
    let same : x ≡ y = same_byte n m x y xs ys bytes.1 its.1 e in
    ap (λ k. ordering_then (nat_cmp x k) (slice_cmp nat_cmp xs ys)) (sym same) ∙ ap (λ o. ordering_then o (slice_cmp nat_cmp xs ys)) (tied_itself nat_cmp_total x)
    ∙ behind n (m * 256 + y) xs ys bytes.1 its.1 (subst (λ k. followed n (m * 256 + k) xs ≡ followed n (m * 256 + y) ys) same e) (omega (arith, long)) (omega (arith, far))

same_behind : (n m : ℕ) (a b : List ℕ) → HasBytes n a → HasBytes n b → followed n m a ≡ followed n m b → n ≤ length a → n ≤ length b → drop n a ≡ drop n b → a ≡ b
same_behind zero m a b bytes its e long far rest = rest
same_behind (suc n) m [] b bytes its e long far rest = absurd (omega (arith, long))
same_behind (suc n) m (x ∷ xs) [] bytes its e long far rest = absurd (omega (arith, far))
same_behind (suc n) m (x ∷ xs) (y ∷ ys) bytes its e long far rest =
    let one : x ≡ y = same_byte n m x y xs ys bytes.1 its.1 e in
    ap (λ k. k ∷ xs) one ∙ ap (λ l. y ∷ l) (same_behind n (m * 256 + y) xs ys bytes.1 its.1 (subst (λ k. followed n (m * 256 + k) xs ≡ followed n (m * 256 + y) ys) one e) (omega (arith, long)) (omega (arith, far)) rest)

-- words with the same first bytes, of which one has the smaller ending
ends_before : (a b r s : List ℕ) → drop 7 a ≡ r → drop 7 b ≡ s → IsRead a → IsRead b → followed 7 0 a ≡ followed 7 0 b → ending (length a) r < ending (length b) s → slice_cmp nat_cmp a b ≡ Less
ends_before a b [] [] own their is its same less =
    begins 7 0 a b is.bytes its.bytes same (short_of a own) less
ends_before a b [] (y ∷ ys) own their is its same less =
    begins 7 0 a b is.bytes its.bytes same (short_of a own) (omega (arith, short_of a own, long_of b y ys their))
ends_before a b (x ∷ xs) [] own their is its same less =
    absurd (omega (arith, less, short_of b their, (eighth_within (nat_lt 0 (length xs)) x).0))
ends_before a b (x ∷ xs) (y ∷ ys) own their is its same less =
    behind 7 0 a b is.bytes its.bytes same (omega (arith, long_of a x xs own)) (omega (arith, long_of b y ys their))
    ∙ ap (λ l. slice_cmp nat_cmp l (drop 7 b)) own ∙ ap (slice_cmp nat_cmp (x ∷ xs)) their
    ∙ rest_before x y xs ys (eighth_less (nat_lt 0 (length xs)) (nat_lt 0 (length ys)) x y less)

-- and of which the endings are one that tells the word
ends_alike : (a b r s : List ℕ) → drop 7 a ≡ r → drop 7 b ≡ s → IsRead a → IsRead b → followed 7 0 a ≡ followed 7 0 b → ending (length a) r ≡ ending (length b) s → (ending (length a) r < 8) ⊎ (ending (length a) r % 2 ≡ 0) → a ≡ b
ends_alike a b [] [] own their is its same e tell = told_by 7 0 a b is.bytes its.bytes same (short_of a own) e
ends_alike a b [] (y ∷ ys) own their is its same e tell = absurd (omega (arith, e, short_of a own, (eighth_within (nat_lt 0 (length ys)) y).0))
ends_alike a b (x ∷ xs) [] own their is its same e tell = absurd (omega (arith, e, short_of b their, (eighth_within (nat_lt 0 (length xs)) x).0))
ends_alike a b (x ∷ xs) (y ∷ ys) own their is its same e (inl low) = absurd (omega (arith, low, (eighth_within (nat_lt 0 (length xs)) x).0))
ends_alike a b (x ∷ xs) (y ∷ ys) own their is its same e (inr even) =
    let alike = eighth_told (nat_lt 0 (length xs)) (nat_lt 0 (length ys)) x y e even in
    same_behind 7 0 a b is.bytes its.bytes same (omega (arith, long_of a x xs own)) (omega (arith, long_of b y ys their))
    (own ∙ rest_same x y xs ys alike.0 alike.1.0 alike.1.1 ∙ sym their)

-- of two words the one with the smaller head stands before the other
pub heads_order : (a b : List ℕ) → IsRead a → IsRead b → head a < head b → slice_cmp nat_cmp a b ≡ Less
unfolding head
heads_order a b is its less =
    let m = followed 7 0 a in
    let k = followed 7 0 b in
    let low = ending_small a (drop 7 a) refl in
    let its_low = ending_small b (drop 7 b) refl in
    by_ranked (m < k) (m ≡ k) (k < m) (nat_cmp m k) (ranked m k (nat_cmp m k) refl)
    (λ _ lower. before 7 0 a b its.bytes lower)
    (λ _ same. ends_before a b (drop 7 a) (drop 7 b) refl refl is its same (omega (arith, less, same)))
    (λ _ high. absurd (omega (arith, less, high, low, its_low)))

-- words of one head that tells them are equal
pub told : (a b : List ℕ) → IsRead a → IsRead b → head a ≡ head b → tells (head a) ≡ true → a ≡ b
unfolding head
told a b is its e tell =
    let m = followed 7 0 a in
    let k = followed 7 0 b in
    let low = ending_small a (drop 7 a) refl in
    let its_low = ending_small b (drop 7 b) refl in
    let same : m ≡ k = omega (arith, e, low, its_low) in
    ends_alike a b (drop 7 a) (drop 7 b) refl refl is its same (omega (arith, e, same)) (told_ending m (ending (length a) (drop 7 a)) low tell)

-- the bytes that the code reads
read_bytes : (w : List ℕ) (high low s : ℕ)
    → high ≡ get_or w 0 0 * 16777216 + get_or w 1 0 * 65536 + get_or w 2 0 * 256 + get_or w 3 0
    → low ≡ get_or w 4 0 * 16777216 + get_or w 5 0 * 65536 + get_or w 6 0 * 256 + s
    → high * 4294967296 + low ≡ followed 7 0 w * 256 + s
read_bytes [] high low s h l = omega (arith, h, l)
read_bytes (a ∷ []) high low s h l = omega (arith, h, l)
read_bytes (a ∷ b ∷ []) high low s h l = omega (arith, h, l)
read_bytes (a ∷ b ∷ c ∷ []) high low s h l = omega (arith, h, l)
read_bytes (a ∷ b ∷ c ∷ d ∷ []) high low s h l = omega (arith, h, l)
read_bytes (a ∷ b ∷ c ∷ d ∷ e ∷ []) high low s h l = omega (arith, h, l)
read_bytes (a ∷ b ∷ c ∷ d ∷ e ∷ f ∷ []) high low s h l = omega (arith, h, l)
read_bytes (a ∷ b ∷ c ∷ d ∷ e ∷ f ∷ g ∷ w) high low s h l = omega (arith, h, l)

pub eight : (w : List ℕ) (high low s : ℕ)
    → high ≡ get_or w 0 0 * 16777216 + get_or w 1 0 * 65536 + get_or w 2 0 * 256 + get_or w 3 0
    → low ≡ get_or w 4 0 * 16777216 + get_or w 5 0 * 65536 + get_or w 6 0 * 256 + s
    → s ≡ ending (length w) (drop 7 w) → high * 4294967296 + low ≡ head w
unfolding head
eight w high low s h l e = read_bytes w high low s h l ∙ ap (λ k. followed 7 0 w * 256 + k) e

pub eight_bytes : (w : List ℕ) → get_or w 0 0 < 256 → get_or w 1 0 < 256 → get_or w 2 0 < 256 → get_or w 3 0 < 256
    → get_or w 4 0 < 256 → get_or w 5 0 < 256 → get_or w 6 0 < 256 → IsRead w
eight_bytes [] a0 a1 a2 a3 a4 a5 a6 = record { bytes = tt }
eight_bytes (a ∷ []) a0 a1 a2 a3 a4 a5 a6 = record { bytes = (a0, tt) }
eight_bytes (a ∷ b ∷ []) a0 a1 a2 a3 a4 a5 a6 = record { bytes = (a0, (a1, tt)) }
eight_bytes (a ∷ b ∷ c ∷ []) a0 a1 a2 a3 a4 a5 a6 = record { bytes = (a0, (a1, (a2, tt))) }
eight_bytes (a ∷ b ∷ c ∷ d ∷ []) a0 a1 a2 a3 a4 a5 a6 = record { bytes = (a0, (a1, (a2, (a3, tt)))) }
eight_bytes (a ∷ b ∷ c ∷ d ∷ e ∷ []) a0 a1 a2 a3 a4 a5 a6 = record { bytes = (a0, (a1, (a2, (a3, (a4, tt))))) }
eight_bytes (a ∷ b ∷ c ∷ d ∷ e ∷ f ∷ []) a0 a1 a2 a3 a4 a5 a6 = record { bytes = (a0, (a1, (a2, (a3, (a4, (a5, tt)))))) }
eight_bytes (a ∷ b ∷ c ∷ d ∷ e ∷ f ∷ g ∷ w) a0 a1 a2 a3 a4 a5 a6 = record { bytes = (a0, (a1, (a2, (a3, (a4, (a5, (a6, tt))))))) }
