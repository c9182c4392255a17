-- Bits as a list.
use Rattle.std.proofs.Common.{◌≡◌, ◌≢◌, ℕ, ◌+◌, ◌-◌, ◌*◌, ◌/◌, ◌%◌, ◌<◌, ◌≤◌, ◌^◌, List, ◌++◌, length, get_or, set, replicate, refl, sym, ap, subst, ◌∙◌, arith, inl, inr, take, drop, eqb, eq-eqb, true, false, length-append}
use Rattle.std.specs.Int.{bit_at, w8}
use Rattle.std.specs.Int.Bits.{bit_or}
use Rattle.std.proofs.lemmas.Bool.{cases_lt}
use Rattle.std.proofs.lemmas.List.{ext_get_or, get_or_append_left, get_or-append_right, get_or_past, get_or-replicate, get_or-set_other, get_or-set_same, length-replicate, length-set}
use Rattle.std.proofs.lemmas.List.FromFn.{get_or-map-range_with_len, length-map-range_with_len}
use Rattle.std.proofs.Math.Seq.{take-append_seam}
use Rattle.std.proofs.lemmas.Nat.Bits.{bit_at-lt, bit_at_ones, bit_at_set_other, bit_at_set_same}
use Rattle.bit_lists.specs.Bits.{bit_in, bits_in}

pub long : (bytes : List ℕ) (count : ℕ) → length (bits_in bytes count) ≡ count
unfolding bits_in
long bytes count = length-map-range_with_len (bit_in bytes) 0 count

pub at : (bytes : List ℕ) (count k : ℕ) → k < count → get_or (bits_in bytes count) k 0 ≡ bit_in bytes k
unfolding bits_in
at bytes count k low = get_or-map-range_with_len (bit_in bytes) 0 count k k 0 low (omega arith)

pub with_one : (bytes after : List ℕ) (count k : ℕ) → k < count → bit_in after k ≡ 1 → ((j : ℕ) → j ≢ k → bit_in after j ≡ bit_in bytes j) → bits_in after count ≡ set (bits_in bytes count) k 1
with_one bytes after count k low own others = ext_get_or 0 (bits_in after count) (set (bits_in bytes count) k 1) (omega (arith, long after count, length-set (bits_in bytes count) k 1, long bytes count)) (λ i h.
    let small : i < count = omega (arith, h, long after count) in
    elim (cases_lt i k) [
      | inl below ↦ at after count i small ∙ others i (λ e. omega (arith, e, below)) ∙ sym (at bytes count i small) ∙ sym (get_or-set_other (bits_in bytes count) k i 1 0 (λ e. omega (arith, e, below)))
      | inr above ↦ elim (cases_lt k i) [
        | inl past ↦ at after count i small ∙ others i (λ e. omega (arith, e, past)) ∙ sym (at bytes count i small) ∙ sym (get_or-set_other (bits_in bytes count) k i 1 0 (λ e. omega (arith, e, past)))
        | inr not_past ↦
            let same : i ≡ k = omega (arith, above, not_past) in
            subst (λ n. get_or (bits_in after count) n 0 ≡ get_or (set (bits_in bytes count) k 1) n 0) (sym same) (at after count k low ∙ own ∙ sym (get_or-set_same (bits_in bytes count) k 1 0 (omega (arith, long bytes count, low))))
      ]
    ])

-- bits of bytes with more bytes behind them, none of which is set
pub longer : (bytes : List ℕ) (more k : ℕ) → bit_in (bytes ++ replicate more 0) k ≡ bit_in bytes k
longer bytes more k = elim (cases_lt (k / 8) (length bytes)) [
  | inl low ↦ ap (λ n. bit_at n (k % 8)) (get_or_append_left bytes (replicate more 0) 0 (k / 8) low)
  | inr high ↦ ap (λ n. bit_at n (k % 8)) (get_or-append_right bytes (replicate {A = ℕ} more 0) (length bytes) (k / 8) 0 refl high ∙ zeros more (k / 8 - length bytes)) ∙ sym (ap (λ n. bit_at n (k % 8)) (get_or_past bytes (k / 8) 0 high))
]
  where
    zeros : (n i : ℕ) → get_or (replicate {A = ℕ} n 0) i 0 ≡ 0
    zeros n i = elim (cases_lt i n) as (λ _. get_or (replicate {A = ℕ} n 0) i 0 ≡ 0) [ inl low ↦ get_or-replicate {A = ℕ} n i 0 0 low | inr high ↦ past n i high ]
      where
        past : (n i : ℕ) → n ≤ i → get_or (replicate {A = ℕ} n 0) i 0 ≡ 0
        past n i high = get_or_past (replicate n 0) i 0 (omega (arith, high, length-replicate {A = ℕ} n 0))

pub grown : (bytes after : List ℕ) (count more : ℕ) → ((k : ℕ) → bit_in after k ≡ bit_in bytes k) → ((k : ℕ) → count ≤ k → bit_in bytes k ≡ 0) → bits_in after (count + more) ≡ bits_in bytes count ++ replicate more 0
grown bytes after count more same none = ext_get_or 0 (bits_in after (count + more)) (bits_in bytes count ++ replicate more 0)
    (omega (arith, long after (count + more), length-append (bits_in bytes count) (replicate more 0), long bytes count, length-replicate {A = ℕ} more 0)) (λ i h.
    let small : i < count + more = omega (arith, h, long after (count + more)) in
    elim (cases_lt i count) [
      | inl low ↦ at after (count + more) i small ∙ same i ∙ sym (at bytes count i low) ∙ sym (get_or_append_left (bits_in bytes count) (replicate more 0) 0 i (omega (arith, long bytes count, low)))
      | inr high ↦ at after (count + more) i small ∙ same i ∙ none i high
          ∙ sym (get_or-append_right (bits_in bytes count) (replicate more 0) (length (bits_in bytes count)) i 0 refl (omega (arith, long bytes count, high)) ∙ get_or-replicate more (i - length (bits_in bytes count)) 0 0 (omega (arith, long bytes count, high, small)))
    ])

-- ---- a byte

pub bit_set : (bytes : List ℕ) (k : ℕ) → k / 8 < length bytes → bit_in (set bytes (k / 8) (bit_or (get_or bytes (k / 8) 0) (1 * 2 ^ (k % 8) % 256))) k ≡ 1
bit_set bytes k low =
    ap (λ n. bit_at n (k % 8)) (get_or-set_same bytes (k / 8) (bit_or (get_or bytes (k / 8) 0) (1 * 2 ^ (k % 8) % 256)) 0 low)
    ∙ bit_at_set_same w8 (get_or bytes (k / 8) 0) (k % 8) (omega arith)

pub bit_kept : (bytes : List ℕ) (k j : ℕ) → k / 8 < length bytes → j ≢ k → bit_in (set bytes (k / 8) (bit_or (get_or bytes (k / 8) 0) (1 * 2 ^ (k % 8) % 256))) j ≡ bit_in bytes j
bit_kept bytes k j low other =
    let made = bit_or (get_or bytes (k / 8) 0) (1 * 2 ^ (k % 8) % 256) in
    elim (cases_lt (j / 8) (k / 8)) [
      | inl below ↦ ap (λ n. bit_at n (j % 8)) (get_or-set_other bytes (k / 8) (j / 8) made 0 (λ e. omega (arith, e, below)))
      | inr not_below ↦ elim (cases_lt (k / 8) (j / 8)) [
        | inl above ↦ ap (λ n. bit_at n (j % 8)) (get_or-set_other bytes (k / 8) (j / 8) made 0 (λ e. omega (arith, e, above)))
        | inr not_above ↦
            let same : j / 8 ≡ k / 8 = omega (arith, not_below, not_above) in
            let apart : j % 8 ≢ k % 8 = λ e. other (omega (arith, same, e)) in
            ap (λ n. bit_at (get_or (set bytes (k / 8) made) n 0) (j % 8)) same
            ∙ ap (λ n. bit_at n (j % 8)) (get_or-set_same bytes (k / 8) made 0 low)
            ∙ bit_at_set_other w8 (get_or bytes (k / 8) 0) (k % 8) (omega arith) (j % 8) apart
            ∙ ap (λ n. bit_at (get_or bytes n 0) (j % 8)) (sym same)
      ]
    ]

-- what is written back where all of it was lent
pub rebuilt : (old new : List ℕ) (size : ℕ) → size ≡ length old → length new ≡ length old → take size (new ++ drop (length new) old) ≡ new
rebuilt old new size s l = ap (λ n. take n (new ++ drop (length new) old)) (s ∙ sym l) ∙ take-append_seam new (drop (length new) old)

-- a byte with all bits set
pub all_set : (bytes : List ℕ) (full k : ℕ) → ((i : ℕ) → i < full → get_or bytes i 0 ≡ 255) → k < 8 * full → bit_in bytes k ≡ 1
all_set bytes full k each low = ap (λ n. bit_at n (k % 8)) (each (k / 8) (omega (arith, low))) ∙ bit_at_ones 8 (k % 8) (omega arith)

-- a bit that isn't 1 is 0
pub not_one : (bytes : List ℕ) (k : ℕ) → eqb (bit_in bytes k) 1 ≡ false → bit_in bytes k ≡ 0
not_one bytes k e = elim (cases_lt (bit_in bytes k) 1) [
  | inl none ↦ omega (arith, none)
  | inr some ↦ let one : eqb (bit_in bytes k) 1 ≡ true = eq-eqb (bit_in bytes k) 1 (omega (arith, some, bit_at-lt (get_or bytes (k / 8) 0) (k % 8))) in absurd cc
]
