-- Packets that are appended after others: one list, numbered through.
use Rattle.std.proofs.Common.{◌≡◌, ℕ, ◌+◌, ◌<◌, ◌≤◌, List, [], ◌∷◌, ◌++◌, Result, Ok, Err, append_assoc, ◌∙◌, sym, ap, length, take, map, get_or, subst, length-append, arith}
use Rattle.std.proofs.lemmas.List.{map_more, take-take}
use Rattle.std.proofs.Math.Seq.{take-append_seam}
use Rattle.mysql_wire.specs.Packets.{packets_from, sequence_after}
use Rattle.mysql_wire.specs.steps.Numbering.{packets_from-append, sequence_after-append}
use Rattle.reply_rows.specs.steps.Appending.{Appends}

-- what begins with more, begins with less
pub front : (old mid new extra : List ℕ) → mid ≡ old ++ extra → take (length mid) new ≡ mid → take (length old) new ≡ old
front old mid new extra is begins =
    let e : length old ≤ length mid = omega (arith, length-append old extra, ap length is) in
    sym (take-take (length old) (length mid) new e) ∙ ap (take (length old)) begins ∙ ap (take (length old)) is ∙ take-append_seam old extra

-- payloads that are appended after others are appended after what was there before these
pub Appends-then : {E : Type 0} (result : Result ℕ E) (seq next : ℕ) (ps qs : List (List ℕ)) (old mid new : List ℕ) → seq < 256
    → next ≡ sequence_after seq ps → mid ≡ old ++ packets_from seq ps → Appends result next qs mid new → Appends result seq (ps ++ qs) old new
Appends-then (Ok n) seq next ps qs old mid new small after is appends = (
  appends.0 ∙ ap (λ s. sequence_after s qs) after ∙ sym (sequence_after-append seq ps qs),
  appends.1 ∙ ap (λ l. l ++ packets_from next qs) is ∙ append_assoc old (packets_from seq ps) (packets_from next qs)
      ∙ ap (λ s. old ++ (packets_from seq ps ++ packets_from s qs)) after ∙ sym (ap (λ l. old ++ l) (packets_from-append seq ps qs small)),
)
Appends-then (Err e) seq next ps qs old mid new small after is appends = front old mid new (packets_from seq ps) is appends

-- the payload of one more element is appended after those of the elements before
pub Appends-more : {X : Type 0} (f : X → List ℕ) (xs : List X) (i : ℕ) (d : X) (p : List ℕ) (seq next after : ℕ) (old mid new : List ℕ)
    → seq < 256 → i < length xs → p ≡ f (get_or xs i d)
    → next ≡ sequence_after seq (map f (take i xs)) → mid ≡ old ++ packets_from seq (map f (take i xs)) → Appends {E = Unit {0}} (Ok after) next (p ∷ []) mid new
    → Appends {E = Unit {0}} (Ok after) seq (map f (take (i + 1) xs)) old new
Appends-more f xs i d p seq next after old mid new small below is numbered written one =
    let Here : List ℕ → Type 0 = λ q. Appends {E = Unit {0}} (Ok after) next (q ∷ []) mid new in
    let All : List (List ℕ) → Type 0 = λ ps. Appends {E = Unit {0}} (Ok after) seq ps old new in
    subst All (sym (map_more f xs i d below))
    (Appends-then {E = Unit {0}} (Ok after) seq next (map f (take i xs)) (f (get_or xs i d) ∷ []) old mid new small numbered written (subst Here is one))

-- the payloads of a result set, one part after the other
pub set_parts : (count eof : List ℕ) (columns rows : List (List ℕ))
    → ((((count ∷ []) ++ columns) ++ eof ∷ []) ++ rows) ++ eof ∷ [] ≡ count ∷ columns ++ eof ∷ rows ++ eof ∷ []
set_parts count eof columns rows = simp append_assoc
