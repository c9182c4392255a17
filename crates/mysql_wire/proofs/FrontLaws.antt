-- The bytes of a stream begin in one way, and in no other.
use Rattle.std.proofs.Common.{◌≡◌, ◌⊎◌, inl, inr, ℕ, ◌+◌, ◌*◌, ◌/◌, ◌%◌, ◌<◌, ◌≤◌, List, [], ◌∷◌, ◌++◌, Some, IsNone, length, get_or, take, drop, refl, sym, ap, ◌∙◌, arith, lit<, length-append}
use Rattle.std.proofs.lemmas.Bool.{cases_lt, cases_eq, true≢false}
use Rattle.std.proofs.lemmas.Option.{some_pair_parts}
use Rattle.std.proofs.lemmas.List.{take_at, drop_at, get_or_past}
use Rattle.mysql_wire.specs.Packets.{packet, header_of, max_payload, BeginsWith, IsPartial, IsTooLarge, IsOutOfOrder}
use Rattle.mysql_wire.specs.Fronts.{Front, Part, Packet, TooLarge, OutOfOrder, HasFront, AreBytes}
use Rattle.mysql_wire.proofs.PacketLemmas.{begins}

-- the header of a packet gives its number and its payload's size
pub packet_header : (seq : ℕ) (payload rest : List ℕ) → length payload ≤ max_payload → header_of (packet seq payload ++ rest) ≡ Some (length payload, seq)
unfolding packet
packet_header seq payload rest limit =
    let n = length payload in
    let whole : n % 256 + 256 * ((n / 256) % 256) + 65536 * ((n / 65536) % 256) ≡ n = omega (arith, limit) in
    ap (λ (size : ℕ). Some (size, seq)) whole

packet_length : (seq : ℕ) (payload rest : List ℕ) → 4 + length payload ≤ length (packet seq payload ++ rest)
unfolding packet
packet_length seq payload rest = omega (arith, length-append payload rest)

behind_header : (seq : ℕ) (payload rest : List ℕ) → drop 4 (packet seq payload ++ rest) ≡ payload ++ rest
unfolding packet
behind_header seq payload rest = refl

-- the bytes have this header, and what a header says is told by it
abbrev Header : List ℕ → ℕ → ℕ → Type 0
Header bytes size seq = header_of bytes ≡ Some (size, seq)

one_header : (bytes : List ℕ) (n m c d : ℕ) → Header bytes n c → Header bytes m d → (n ≡ m) × (c ≡ d)
one_header bytes n m c d first second = some_pair_parts n m c d (sym first ∙ second)

no_header : (bytes : List ℕ) (n c : ℕ) → IsNone (header_of bytes) → Header bytes n c → ⊥
no_header bytes n c none some = true≢false (rw some at none)

pub begins_header : (expect : ℕ) (bytes payload rest : List ℕ) → BeginsWith expect bytes payload rest → Header bytes (length payload) expect × (length payload ≤ max_payload) × (4 + length payload ≤ length bytes)
begins_header expect bytes payload rest begins = rw begins.1 (packet_header expect payload rest begins.0, begins.0, packet_length expect payload rest)

-- where a part has a header, it is good, and the payload isn't whole
part_header : (expect : ℕ) (bytes : List ℕ) (n c : ℕ) → IsPartial expect bytes → Header bytes n c → (c ≡ expect) × (n ≤ max_payload) × (length bytes < 4 + n)
part_header expect bytes n c (inl none) header = absurd (no_header bytes n c none header)
part_header expect bytes n c (inr (size, good, limit, short)) header =
    let same = one_header bytes n size c expect header good in
    (same.1, omega (arith, same.0, limit), omega (arith, same.0, short))

-- a list of bytes begins with one packet at most
pub same_packet : (expect : ℕ) (bytes p q r s : List ℕ) → BeginsWith expect bytes p r → BeginsWith expect bytes q s → (p ≡ q) × (r ≡ s)
same_packet expect bytes p q r s first second =
    let long = one_header bytes (length p) (length q) expect expect (begins_header expect bytes p r first).0 (begins_header expect bytes q s second).0 in
    let both : p ++ r ≡ q ++ s = sym (behind_header expect p r) ∙ ap (drop 4) (sym first.1 ∙ second.1) ∙ behind_header expect q s in (
      sym (take_at p r (length p) refl) ∙ ap (take (length p)) both ∙ take_at q s (length p) (sym long.0),
      sym (drop_at p r (length p) refl) ∙ ap (drop (length p)) both ∙ drop_at q s (length p) (sym long.0),
    )

pub part_packet : (expect : ℕ) (bytes p r : List ℕ) → IsPartial expect bytes → BeginsWith expect bytes p r → ⊥
part_packet expect bytes p r part begins =
    let whole = begins_header expect bytes p r begins in
    let short = part_header expect bytes (length p) expect part whole.0 in
    omega (arith, whole.2, short.2)

pub part_large : (expect : ℕ) (bytes : List ℕ) (n c : ℕ) → IsPartial expect bytes → IsTooLarge bytes n c → ⊥
part_large expect bytes n c part large = let short = part_header expect bytes n c part large.0 in omega (arith, short.1, large.1)

pub part_order : (expect : ℕ) (bytes : List ℕ) (c : ℕ) → IsPartial expect bytes → IsOutOfOrder expect bytes c → ⊥
part_order expect bytes c part (n, header, limit, other) = other (part_header expect bytes n c part header).0

pub packet_large : (expect : ℕ) (bytes p r : List ℕ) (n c : ℕ) → BeginsWith expect bytes p r → IsTooLarge bytes n c → ⊥
packet_large expect bytes p r n c begins large =
    let whole = begins_header expect bytes p r begins in
    let same = one_header bytes (length p) n expect c whole.0 large.0 in
    omega (arith, same.0, whole.1, large.1)

pub packet_order : (expect : ℕ) (bytes p r : List ℕ) (c : ℕ) → BeginsWith expect bytes p r → IsOutOfOrder expect bytes c → ⊥
packet_order expect bytes p r c begins (n, header, limit, other) =
    let whole = begins_header expect bytes p r begins in
    other (sym (one_header bytes (length p) n expect c whole.0 header).1)

pub large_order : (expect : ℕ) (bytes : List ℕ) (n c d : ℕ) → IsTooLarge bytes n c → IsOutOfOrder expect bytes d → ⊥
large_order expect bytes n c d large (m, header, limit, other) =
    let same = one_header bytes n m c d large.0 header in
    omega (arith, same.0, limit, large.1)

same_large : (bytes : List ℕ) (n m c d : ℕ) → IsTooLarge bytes n c → IsTooLarge bytes m d → TooLarge n c ≡ TooLarge m d
same_large bytes n m c d a b = let same = one_header bytes n m c d a.0 b.0 in cc (same.0, same.1)

same_order : (expect : ℕ) (bytes : List ℕ) (c d : ℕ) → IsOutOfOrder expect bytes c → IsOutOfOrder expect bytes d → OutOfOrder c ≡ OutOfOrder d
same_order expect bytes c d (n, a, _, _) (m, b, _, _) = ap OutOfOrder (one_header bytes n m c d a b).1

pub none_has_two : (expect : ℕ) (bytes : List ℕ) (a b : Front) → HasFront expect bytes a → HasFront expect bytes b → a ≡ b
none_has_two expect bytes Part Part a b = refl
none_has_two expect bytes Part (Packet q s) a b = absurd (part_packet expect bytes q s a b)
none_has_two expect bytes Part (TooLarge m d) a b = absurd (part_large expect bytes m d a b)
none_has_two expect bytes Part (OutOfOrder d) a b = absurd (part_order expect bytes d a b)
none_has_two expect bytes (Packet p r) Part a b = absurd (part_packet expect bytes p r b a)
none_has_two expect bytes (Packet p r) (Packet q s) a b = let same = same_packet expect bytes p q r s a b in cc (same.0, same.1)
none_has_two expect bytes (Packet p r) (TooLarge m d) a b = absurd (packet_large expect bytes p r m d a b)
none_has_two expect bytes (Packet p r) (OutOfOrder d) a b = absurd (packet_order expect bytes p r d a b)
none_has_two expect bytes (TooLarge n c) Part a b = absurd (part_large expect bytes n c b a)
none_has_two expect bytes (TooLarge n c) (Packet q s) a b = absurd (packet_large expect bytes q s n c b a)
none_has_two expect bytes (TooLarge n c) (TooLarge m d) a b = same_large bytes n m c d a b
none_has_two expect bytes (TooLarge n c) (OutOfOrder d) a b = absurd (large_order expect bytes n c d a b)
none_has_two expect bytes (OutOfOrder c) Part a b = absurd (part_order expect bytes c b a)
none_has_two expect bytes (OutOfOrder c) (Packet q s) a b = absurd (packet_order expect bytes q s c b a)
none_has_two expect bytes (OutOfOrder c) (TooLarge m d) a b = absurd (large_order expect bytes m d c b a)
none_has_two expect bytes (OutOfOrder c) (OutOfOrder d) a b = same_order expect bytes c d a b

-- by the three tests in turn
by_header : (expect : ℕ) (bytes : List ℕ) (n c : ℕ) → ((i : ℕ) → get_or bytes i 0 < 256) → Header bytes n c → (max_payload < n) ⊎ (n ≤ max_payload) → (c ≡ expect) ⊎ (c ≡ expect → ⊥)
    → (length bytes < 4 + n) ⊎ (4 + n ≤ length bytes) → (front : Front) × HasFront expect bytes front
by_header expect bytes n c are header (inl large) order whole = (TooLarge n c, (header, large))
by_header expect bytes n c are header (inr limit) (inr other) whole = (OutOfOrder c, (n, header, limit, other))
by_header expect bytes n c are header (inr limit) (inl same) (inl short) = (Part, inr (n, rw same at header, limit, short))
by_header expect bytes n c are header (inr limit) (inl same) (inr whole) =
    (Packet (take n (drop 4 bytes)) (drop n (drop 4 bytes)), begins expect n bytes are (rw same at header) limit whole)

has_one : (expect : ℕ) (bytes : List ℕ) → ((i : ℕ) → get_or bytes i 0 < 256) → (front : Front) × HasFront expect bytes front
has_one expect [] are = (Part, inl refl)
has_one expect (a ∷ []) are = (Part, inl refl)
has_one expect (a ∷ b ∷ []) are = (Part, inl refl)
has_one expect (a ∷ b ∷ c ∷ []) are = (Part, inl refl)
has_one expect (a ∷ b ∷ c ∷ seq ∷ rest) are =
    let n = a + 256 * b + 65536 * c in
    let bytes = a ∷ b ∷ c ∷ seq ∷ rest in
    by_header expect bytes n seq are refl (cases_lt max_payload n) (cases_eq seq expect) (cases_lt (length bytes) (4 + n))

pub each_has_one : (expect : ℕ) (bytes : List ℕ) → AreBytes bytes → (front : Front) × HasFront expect bytes front
each_has_one expect bytes are = has_one expect bytes (λ i. byte_at bytes i are (cases_lt i (length bytes)))
  where
    byte_at : (bytes : List ℕ) (i : ℕ) → AreBytes bytes → (i < length bytes) ⊎ (length bytes ≤ i) → get_or bytes i 0 < 256
    byte_at bytes i are (inl within) = are i 0 within
    byte_at bytes i are (inr past) = rw (get_or_past bytes i 0 past) (lit< tt)
