-- The fields of a hit list while it is read.
use Rattle.std.proofs.Common.{◌≡◌, ℕ, suc, ◌+◌, ◌-◌, ◌/◌, ◌<◌, ◌≤◌, ◌^◌, true, false, cond, List, [], ◌∷◌, ◌++◌, length, drop, refl, sym, ap, subst, ◌∙◌, arith}
use Rattle.std.specs.Prelude.{nat_lt, if◌then◌else◌}
use Rattle.std.proofs.lemmas.Bool.{ltb-false}
use Rattle.std.proofs.Math.Nat.{pow-le-pow_right, two-pow-succ}
use Rattle.posting_codec.specs.Numbers.{number, IsNumberAt}
use Rattle.posting_codec.specs.HitLists.{IsHit, key, Ascend, AreHitsAt, differences}
use Rattle.posting_codec.proofs.HitSteps.{behind, key_small}
use Rattle.posting_codec.proofs.Reading.{Left, Next, count_there, next}
use Rattle.image_chunk.specs.steps.FieldBits.{field_bits}

-- of the hits so many less are left, spelled at this place behind this key, and the bits of the others are known, which lie below
-- that of the next field
pub record Seen (bytes : List ℕ) (hits : List (ℕ × ℕ)) (rest : List ℕ) (at last : ℕ) (known : ℕ × ℕ) (count i : ℕ) : Type 0 where
  pub left : List (ℕ × ℕ)
  pub counted : length left + i ≡ count
  pub ascend : Ascend last left
  pub small : last < 2 ^ 21
  pub here : drop at bytes ≡ differences last left ++ rest
  pub below : known.0 < 2 ^ known.1
  pub sum : known.0 + field_bits known.1 left ≡ field_bits 0 hits

pub seen_none : (bytes : List ℕ) (at : ℕ) (hits : List (ℕ × ℕ)) (rest : List ℕ) (place count : ℕ) → AreHitsAt bytes at hits rest → (count ≡ length hits) × (place ≡ at + length (number (length hits))) → Seen bytes hits rest place 0 (0, 0) count 0
seen_none bytes at hits rest place count are its = record {
  left = hits;
  counted = omega (arith, its.0);
  ascend = are.are.ascend;
  small = omega arith;
  here = behind bytes (number (length hits)) (differences 0 hits ++ rest) at place (count_there bytes at hits rest are).here its.1;
  below = omega arith;
  sum = omega arith;
}

abbrev as_left : (bytes : List ℕ) (hits : List (ℕ × ℕ)) (rest : List ℕ) (at last : ℕ) (known : ℕ × ℕ) (count i : ℕ) (seen : Seen bytes hits rest at last known count i) → Left bytes seen.left rest [] [] at last count i
as_left bytes hits rest at last known count i seen = record {
  done = [];
  left = seen.left;
  both = refl;
  grown = refl;
  counted = seen.counted;
  ascend = seen.ascend;
  small = seen.small;
  here = seen.here;
}

pub seen_next : (bytes : List ℕ) (hits : List (ℕ × ℕ)) (rest : List ℕ) (at last : ℕ) (known : ℕ × ℕ) (count i : ℕ) (seen : Seen bytes hits rest at last known count i) → i < count → Next bytes seen.left rest at last
seen_next bytes hits rest at last known count i seen more = next bytes seen.left rest [] [] at last count i (as_left bytes hits rest at last known count i seen) more

-- bits with that of one hit more
bits_more : (known after : ℕ × ℕ) (hit : ℕ × ℕ) (later : List (ℕ × ℕ)) (all : ℕ) → known.0 < 2 ^ known.1 → known.0 + field_bits known.1 (hit ∷ later) ≡ all → after ≡ (if nat_lt hit.0 known.1 then known else (known.0 + 2 ^ hit.0, hit.0 + 1))
    → (after.0 < 2 ^ after.1) × (after.0 + field_bits after.1 later ≡ all)
bits_more known after hit later all below sum is =
    elim (nat_lt hit.0 known.1) as (λ b. nat_lt hit.0 known.1 ≡ b → known.0 + cond b (field_bits known.1 later) (2 ^ hit.0 + field_bits (hit.0 + 1) later) ≡ all → after ≡ cond b known (known.0 + 2 ^ hit.0, hit.0 + 1) → (after.0 < 2 ^ after.1) × (after.0 + field_bits after.1 later ≡ all)) [
      | true ↦ λ test s a. rw a (below, s)
      | false ↦ λ test s a.
          let order : known.1 ≤ hit.0 = ltb-false hit.0 known.1 test in
          let powers : 2 ^ known.1 ≤ 2 ^ hit.0 = pow-le-pow_right {n = 2} (omega arith) order in
          let double : hit.0 + 1 ≡ suc hit.0 = omega arith in
          let small : known.0 + 2 ^ hit.0 < 2 ^ (hit.0 + 1) = rw double (omega (arith, below, powers, two-pow-succ hit.0)) in
          let same : known.0 + 2 ^ hit.0 + field_bits (hit.0 + 1) later ≡ all = omega (arith, s) in
          rw a (small, same)
    ] refl sum is

-- the field of a key
field_of : (hit : ℕ × ℕ) (k : ℕ) → IsHit hit → k ≡ key hit → k / 65536 ≡ hit.0
field_of hit k is e = omega (arith, e, is.within)

pub seen_more : (bytes : List ℕ) (hits : List (ℕ × ℕ)) (rest : List ℕ) (at end last step : ℕ) (known after : ℕ × ℕ) (count i : ℕ) (seen : Seen bytes hits rest at last known count i) (more : i < count)
    → ((n : ℕ) (rest : List ℕ) → IsNumberAt bytes at n rest → (step ≡ n) × (end ≡ at + length (number n))) → after ≡ (if nat_lt ((last + step) / 65536) known.1 then known else (known.0 + 2 ^ ((last + step) / 65536), (last + step) / 65536 + 1))
    → Seen bytes hits rest end (last + step) after count (i + 1)
seen_more bytes hits rest at end last step known after count i seen more read is =
    let n = seen_next bytes hits rest at last known count i seen more in
    let its = read (key n.hit - last) (differences (key n.hit) n.later ++ rest) n.spelled in
    let keys : last + step ≡ key n.hit = omega (arith, its.0, n.behind) in
    let field : (last + step) / 65536 ≡ n.hit.0 = field_of n.hit (last + step) n.one keys in
    let long : length seen.left ≡ suc (length n.later) = ap length n.both in
    let all : known.0 + field_bits known.1 (n.hit ∷ n.later) ≡ field_bits 0 hits = ap (λ l. known.0 + field_bits known.1 l) (sym n.both) ∙ seen.sum in
    let bits = bits_more known after n.hit n.later (field_bits 0 hits) seen.below all (subst (λ f. after ≡ (if nat_lt f known.1 then known else (known.0 + 2 ^ f, f + 1))) field is) in
    subst (λ k. Seen bytes hits rest end k after count (i + 1)) (sym keys) (record {
      left = n.later;
      counted = omega (arith, seen.counted, long);
      ascend = n.ascend;
      small = key_small n.hit n.one;
      here = behind bytes (number (key n.hit - last)) (differences (key n.hit) n.later ++ rest) at end n.spelled.here its.1;
      below = bits.0;
      sum = bits.1;
    })

-- the key of the next hit fits
pub seen_small : (bytes : List ℕ) (hits : List (ℕ × ℕ)) (rest : List ℕ) (at end last step : ℕ) (known : ℕ × ℕ) (count i : ℕ) (seen : Seen bytes hits rest at last known count i) (more : i < count)
    → ((n : ℕ) (rest : List ℕ) → IsNumberAt bytes at n rest → (step ≡ n) × (end ≡ at + length (number n))) → last + step < 2 ^ 21
seen_small bytes hits rest at end last step known count i seen more read =
    let n = seen_next bytes hits rest at last known count i seen more in
    let its = read (key n.hit - last) (differences (key n.hit) n.later ++ rest) n.spelled in
    omega (arith, its.0, n.behind, key_small n.hit n.one)

pub seen_all : (bytes : List ℕ) (hits : List (ℕ × ℕ)) (rest : List ℕ) (at last : ℕ) (known : ℕ × ℕ) (count i : ℕ) → Seen bytes hits rest at last known count i → count ≤ i → known.0 ≡ field_bits 0 hits
seen_all bytes hits rest at last known count i seen end = ended seen.left (omega (arith, seen.counted, end)) seen.sum where
  ended : (left : List (ℕ × ℕ)) → length left ≡ 0 → known.0 + field_bits known.1 left ≡ field_bits 0 hits → known.0 ≡ field_bits 0 hits
  ended [] none sum = omega (arith, sum)
  ended (hit ∷ left) none sum = absurd (omega (arith, none))
