-- How packets that are numbered on from one another join.
use Rattle.std.proofs.Common.{◌≡◌, ℕ, ◌+◌, ◌%◌, ◌<◌, List, [], ◌∷◌, ◌++◌, sym, ap, ◌∙◌, append_assoc, length-append, arith}
use Rattle.mysql_wire.specs.Packets.{packet, packets_from, sequence_after}

-- packets, and then more
pub packets_from-append : (seq : ℕ) (first more : List (List ℕ)) → seq < 256
    → packets_from seq (first ++ more) ≡ packets_from seq first ++ packets_from (sequence_after seq first) more
packets_from-append seq [] more small = ap (λ (n : ℕ). packets_from n more) (omega arith)
packets_from-append seq (payload ∷ first) more small =
    ap (λ (bytes : List ℕ). packet seq payload ++ bytes)
    (packets_from-append ((seq + 1) % 256) first more (omega arith)
    ∙ ap (λ (n : ℕ). packets_from ((seq + 1) % 256) first ++ packets_from n more) (omega arith))
    ∙ sym (append_assoc (packet seq payload) (packets_from ((seq + 1) % 256) first) (packets_from (sequence_after seq (payload ∷ first)) more))

-- the number after packets, and then more
pub sequence_after-append : (seq : ℕ) (first more : List (List ℕ)) → sequence_after seq (first ++ more) ≡ sequence_after (sequence_after seq first) more
sequence_after-append seq first more = omega (arith, length-append first more)
