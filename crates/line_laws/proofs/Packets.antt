-- Packets of a client: how what it sends goes on.
use Rattle.std.proofs.Common.{◌≡◌, ℕ, List, [], ◌∷◌, ◌++◌, Some, length, ap, arith}
use Rattle.mysql_wire.specs.Fronts.{Front, HasFront}
use Rattle.mysql_wire.specs.Packets.{packet, header_of, IsTooLarge, IsOutOfOrder}

-- bytes begin in one way
abbrev pub OneFront : Type 0
OneFront = (expect : ℕ) (bytes : List ℕ) (a b : Front) → HasFront expect bytes a → HasFront expect bytes b → a ≡ b

-- a packet has bytes
pub some_packet : (seq : ℕ) (payload rest : List ℕ) → packet seq payload ++ rest ≡ [] → ⊥
unfolding packet
some_packet seq payload rest same = let none : length (packet seq payload ++ rest) ≡ 0 = ap length same in omega (arith, none)

-- a header stays where more bytes come
header_stays : (bytes more : List ℕ) (header : ℕ × ℕ) → header_of bytes ≡ Some header → header_of (bytes ++ more) ≡ Some header
header_stays (a ∷ b ∷ c ∷ seq ∷ rest) more header is = is
header_stays [] more header is = absurd (cc is)
header_stays (a ∷ []) more header is = absurd (cc is)
header_stays (a ∷ b ∷ []) more header is = absurd (cc is)
header_stays (a ∷ b ∷ c ∷ []) more header is = absurd (cc is)

pub large_stays : (bytes more : List ℕ) (size seq : ℕ) → IsTooLarge bytes size seq → IsTooLarge (bytes ++ more) size seq
large_stays bytes more size seq large = (header_stays bytes more (size, seq) large.0, large.1)

pub order_stays : (expect : ℕ) (bytes more : List ℕ) (seq : ℕ) → IsOutOfOrder expect bytes seq → IsOutOfOrder expect (bytes ++ more) seq
order_stays expect bytes more seq out = (out.0, header_stays bytes more (out.0, seq) out.1, out.2, out.3)

-- no header to refuse is among no bytes
pub none_large : (bytes : List ℕ) (size seq : ℕ) → bytes ≡ [] → IsTooLarge bytes size seq → ⊥
none_large bytes size seq none large = absurd (cc (none, large.0))

pub none_out : (expect : ℕ) (bytes : List ℕ) (seq : ℕ) → bytes ≡ [] → IsOutOfOrder expect bytes seq → ⊥
none_out expect bytes seq none out = absurd (cc (none, out.1))
