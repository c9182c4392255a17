-- The head of a short word that stands in front of other bytes: eight of them as a number, and what lies behind the word cut off.
use Rattle.std.proofs.Common.{◌≡◌, ℕ, zero, suc, ◌+◌, ◌-◌, ◌*◌, ◌/◌, ◌^◌, ◌<◌, ◌≤◌, List, [], ◌∷◌, ap, ◌∙◌, arith, length, subst, sym, take}
use Rattle.image_write.specs.Heads.{HasBytes, IsRead, followed, head}

-- eight bytes as a number, without those behind the first ones
abbrev pub front : ℕ → ℕ → ℕ
front eight size = eight / 2 ^ (64 - 8 * size) * 2 ^ (64 - 8 * size)

within : (eight size : ℕ) → eight < 18446744073709551616 → 0 < size → size ≤ 7 → front eight size + size < 18446744073709551616
within eight zero small some few = absurd (omega (arith, some))
within eight (suc zero) small some few = omega (arith, small)
within eight (suc (suc zero)) small some few = omega (arith, small)
within eight (suc (suc (suc zero))) small some few = omega (arith, small)
within eight (suc (suc (suc (suc zero)))) small some few = omega (arith, small)
within eight (suc (suc (suc (suc (suc zero))))) small some few = omega (arith, small)
within eight (suc (suc (suc (suc (suc (suc zero)))))) small some few = omega (arith, small)
within eight (suc (suc (suc (suc (suc (suc (suc zero))))))) small some few = omega (arith, small)
within eight (suc (suc (suc (suc (suc (suc (suc (suc n)))))))) small some few = absurd (omega (arith, few))

-- with the word's length they are its head
kept : (a b c d e f g h size : ℕ) (w : List ℕ) → HasBytes 8 (a ∷ b ∷ c ∷ d ∷ e ∷ f ∷ g ∷ h ∷ w) → 0 < size → size ≤ 7
    → front (followed 8 0 (a ∷ b ∷ c ∷ d ∷ e ∷ f ∷ g ∷ h ∷ w)) size + size ≡ head (take size (a ∷ b ∷ c ∷ d ∷ e ∷ f ∷ g ∷ h ∷ w))
unfolding head
kept a b c d e f g h zero w is some few = absurd (omega (arith, some))
kept a b c d e f g h (suc zero) w is some few = omega (arith, is)
kept a b c d e f g h (suc (suc zero)) w is some few = omega (arith, is)
kept a b c d e f g h (suc (suc (suc zero))) w is some few = omega (arith, is)
kept a b c d e f g h (suc (suc (suc (suc zero)))) w is some few = omega (arith, is)
kept a b c d e f g h (suc (suc (suc (suc (suc zero))))) w is some few = omega (arith, is)
kept a b c d e f g h (suc (suc (suc (suc (suc (suc zero)))))) w is some few = omega (arith, is)
kept a b c d e f g h (suc (suc (suc (suc (suc (suc (suc zero))))))) w is some few = omega (arith, is)
kept a b c d e f g h (suc (suc (suc (suc (suc (suc (suc (suc n)))))))) w is some few = absurd (omega (arith, few))

pub cut_fits : (size eight cut : ℕ) → eight < 18446744073709551616 → 0 < size → size ≤ 7 → cut ≡ front eight size → cut + size < 18446744073709551616
cut_fits size eight cut small some few is = subst (λ k. k + size < 18446744073709551616) (sym is) (within eight size small some few)

pub cut_head : (w : List ℕ) (size eight cut : ℕ) → HasBytes 8 w → 8 ≤ length w → 0 < size → size ≤ 7 → eight ≡ followed 8 0 w → cut ≡ front eight size → cut + size ≡ head (take size w)
cut_head [] size eight cut bytes long some few all is = absurd (omega (arith, long))
cut_head (a ∷ []) size eight cut bytes long some few all is = absurd (omega (arith, long))
cut_head (a ∷ b ∷ []) size eight cut bytes long some few all is = absurd (omega (arith, long))
cut_head (a ∷ b ∷ c ∷ []) size eight cut bytes long some few all is = absurd (omega (arith, long))
cut_head (a ∷ b ∷ c ∷ d ∷ []) size eight cut bytes long some few all is = absurd (omega (arith, long))
cut_head (a ∷ b ∷ c ∷ d ∷ e ∷ []) size eight cut bytes long some few all is = absurd (omega (arith, long))
cut_head (a ∷ b ∷ c ∷ d ∷ e ∷ f ∷ []) size eight cut bytes long some few all is = absurd (omega (arith, long))
cut_head (a ∷ b ∷ c ∷ d ∷ e ∷ f ∷ g ∷ []) size eight cut bytes long some few all is = absurd (omega (arith, long))
cut_head (a ∷ b ∷ c ∷ d ∷ e ∷ f ∷ g ∷ h ∷ w) size eight cut bytes long some few all is = ap (λ k. k + size) (is ∙ ap (λ k. front k size) all) ∙ kept a b c d e f g h size w bytes some few

-- the front of bytes has bytes
front_bytes : (n m : ℕ) (w : List ℕ) → HasBytes (suc n) w → HasBytes n (take m w)
front_bytes zero m w is = tt
front_bytes (suc n) zero w is = tt
front_bytes (suc n) (suc m) [] is = tt
front_bytes (suc n) (suc m) (x ∷ w) is = (is.0, front_bytes n m w is.1)

pub cut_read : (w : List ℕ) (size : ℕ) → HasBytes 8 w → IsRead (take size w)
cut_read w size is = record { bytes = front_bytes 7 size w is }
