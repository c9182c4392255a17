-- OK and EOF are short packets.
use Rattle.std.proofs.Common.{◌≡◌, ℕ, ◌+◌, ◌≤◌, ◌^◌, List, [], ◌∷◌, ◌++◌, Bool, true, false, refl, arith, length, length-append, ap, ◌∙◌}
use Rattle.std.specs.Prelude.{nat_lt, if◌then◌else◌, take}
use Rattle.std.specs.Int.{w16, w32, w64, to_le_bytes}
use Rattle.mysql_wire.specs.LengthEncoded.{lenenc}
use Rattle.mysql_wire.specs.Packets.{packet}
use Rattle.mysql_wire.specs.Replies.{ok_payload, eof_payload}

either_short : (b : Bool) (xs ys : List ℕ) (most : ℕ) → length xs ≤ most → length ys ≤ most → length (if b then xs else ys) ≤ most
either_short true xs ys most x y = x
either_short false xs ys most x y = y

lenenc_is_short : (n : ℕ) → length (lenenc n) ≤ 9
unfolding lenenc
lenenc_is_short n =
    either_short (nat_lt n 251) (n ∷ []) _ 9 (omega arith)
    (either_short (nat_lt n (2 ^ 16)) (0xfc ∷ to_le_bytes w16 n) _ 9 (omega arith)
    (either_short (nat_lt n (2 ^ 24)) (0xfd ∷ take 3 (to_le_bytes w32 n)) (0xfe ∷ to_le_bytes w64 n) 9 (omega arith) (omega arith)))

lenenc_of_0 : length (lenenc 0) ≡ 1
unfolding lenenc
lenenc_of_0 = refl

lengths : (a b c d : List ℕ) → length (a ++ b ++ c ++ d) ≡ length a + length b + length c + length d
lengths a b c d =
    length-append (a ++ b ++ c) d ∙ ap (λ (n : ℕ). n + length d) (length-append (a ++ b) c ∙ ap (λ (n : ℕ). n + length c) (length-append a b))

pub ok_is_short : (seq affected status : ℕ) → length (packet seq (ok_payload affected status)) ≤ 24
unfolding packet ok_payload
ok_is_short seq affected status =
    let tail : length (to_le_bytes w16 status) ≡ 2 = refl in
    let end : length (to_le_bytes w16 0) ≡ 2 = refl in
    omega (arith, lenenc_is_short affected, lenenc_of_0, tail, end, lengths (lenenc affected) (lenenc 0) (to_le_bytes w16 status) (to_le_bytes w16 0))

pub eof_is_short : (seq status : ℕ) → length (packet seq (eof_payload status)) ≤ 24
unfolding packet eof_payload
eof_is_short seq status = omega arith
