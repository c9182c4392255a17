-- The first bytes of a list, read as a packet.
use Rattle.std.proofs.Common.{◌≡◌, ℕ, ◌+◌, ◌*◌, ◌-◌, ◌/◌, ◌%◌, ◌<◌, ◌≤◌, List, ◌∷◌, ◌++◌, Some, length, get_or, take, drop, refl, sym, ap, ◌∙◌, arith}
use Rattle.std.proofs.lemmas.List.{take-append-drop, length-take, length-take-le, drop-drop}
use Rattle.std.proofs.lemmas.Option.{some_pair_parts}
use Rattle.mysql_wire.specs.Packets.{packet, header_of, max_payload, BeginsWith}

-- each is a byte
abbrev AreBytes : List ℕ → Type 0
AreBytes bytes = (i : ℕ) → get_or bytes i 0 < 256

digits : (a b c n : ℕ) → a < 256 → b < 256 → c < 256 → n ≡ a + 256 * b + 65536 * c → (a ≡ n % 256) × (b ≡ (n / 256) % 256) × (c ≡ (n / 65536) % 256)
digits a b c n ha hb hc e = (omega (arith, e), omega (arith, e), omega (arith, e))

pub front_packet : (expect size : ℕ) (held : List ℕ) → AreBytes held → header_of held ≡ Some (size, expect) → 4 + size ≤ length held → held ≡ packet expect (take size (drop 4 held)) ++ drop size (drop 4 held)
unfolding packet
front_packet expect size (a ∷ b ∷ c ∷ seq ∷ rest) fits header whole =
    let of = some_pair_parts (a + 256 * b + 65536 * c) size seq expect header in
    let n = length (take size rest) in
    let long : n ≡ a + 256 * b + 65536 * c = length-take-le size rest (omega (arith, whole)) ∙ sym of.0 in
    let d = digits a b c n (fits 0) (fits 1) (fits 2) (omega (arith, long)) in
    let split : rest ≡ take size rest ++ drop size rest = sym (take-append-drop size rest) in
    cc (d.0, d.1, d.2, of.1, split)
front_packet expect size held fits header whole = cc

-- a good header and enough bytes after it
pub begins : (expect size : ℕ) (held : List ℕ) → AreBytes held → header_of held ≡ Some (size, expect) → size ≤ max_payload → 4 + size ≤ length held
    → BeginsWith expect held (take size (drop 4 held)) (drop size (drop 4 held))
begins expect size held fits header limit whole =
    let long : length (take size (drop 4 held)) ≤ size = omega (arith, length-take size (drop 4 held)) in
    (omega (arith, long, limit), front_packet expect size held fits header whole)

-- the same packet, where the bytes stand from a place on in a longer list
pub begins_at : (expect start size : ℕ) (bytes : List ℕ) → BeginsWith expect (drop start bytes) (take size (drop 4 (drop start bytes))) (drop size (drop 4 (drop start bytes)))
    → BeginsWith expect (drop start bytes) (take (start + 4 + size - (start + 4)) (drop (start + 4) bytes)) (drop (start + 4 + size) bytes)
begins_at expect start size bytes front =
    let some : start + 4 + size - (start + 4) ≡ size = omega arith in
    let payload : take (start + 4 + size - (start + 4)) (drop (start + 4) bytes) ≡ take size (drop 4 (drop start bytes)) = rw (some, drop-drop 4 start bytes) refl in
    let rest : drop (start + 4 + size) bytes ≡ drop size (drop 4 (drop start bytes)) = sym (ap (drop size) (drop-drop 4 start bytes) ∙ drop-drop size (start + 4) bytes) in
    rw (payload, rest) front
