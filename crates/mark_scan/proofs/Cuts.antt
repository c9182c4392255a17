-- Texts that are cut after the part that they begin with.
use Rattle.std.proofs.Common.{◌≡◌, ℕ, ◌+◌, ◌<◌, ◌≤◌, List, length, drop, take, sym, ◌∙◌, ap, subst, arith, length-drop, length-take-le}
use Rattle.std.proofs.lemmas.List.{length-take}
use Rattle.std.proofs.lemmas.List.{take_all}
use Rattle.mark_scan.specs.Markup.{BeginsMarkup, BeginsWith, BeginsPlain, TextPart, plain, comment, tag, part_bytes}
use Rattle.mark_scan.specs.steps.Scanning.{IsCut, part_of}
use Rattle.mark_scan.specs.declared.piece.Piece.{Piece}
use Rattle.mark_scan.proofs.Fronts.{byte_within}

-- a front of a text that isn't empty isn't empty
take_some : (n : ℕ) (text : List ℕ) → 0 < n → n ≤ length text → 0 < length (take n text)
take_some n text some within = omega (arith, length-take-le n text within)

-- a part has bytes
pub part_some : (text : List ℕ) (part : TextPart) → BeginsWith text part → 0 < length (part_bytes part)
part_some text (plain bytes) begins = begins.some
part_some text (comment bytes) begins =
    let within = byte_within text (begins.end + 2) (omega (arith, begins.begins.ends.third)) in
    omega (arith, ap length begins.is, take_some (begins.end + 3) text (omega arith) (omega (arith, within)))
part_some text (tag t) begins =
    let within = byte_within text begins.last (omega (arith, begins.begins.closes)) in
    omega (arith, ap length begins.is, take_some (begins.last + 1) text (omega arith) (omega (arith, within)))

-- what lies after a cut is shorter than the text
pub cut_shorter : (text : List ℕ) (piece : Piece) (beyond : List ℕ) → 0 < length text → IsCut text piece beyond → length beyond < length text
cut_shorter text piece beyond some cut = omega (arith, part_some text (part_of piece) cut.begins, ap length cut.rest, length-drop (length (part_bytes (part_of piece))) text)

-- what a text is cut into before the first markup in it
pub cut_plain : (text front beyond : List ℕ) (place : ℕ) → 0 < place → place < length text → ((k : ℕ) → k < place → BeginsMarkup (drop k text) → ⊥) → BeginsMarkup (drop place text) → front ≡ take place text → beyond ≡ drop place text → BeginsPlain text front × (beyond ≡ drop (length front) text)
cut_plain text front beyond place some within none up_to front_is after_is =
    let size : length front ≡ place = ap length front_is ∙ length-take-le place text (omega arith) in (
      record {
        some = omega arith;
        front = front_is ∙ ap (λ (n : ℕ). take n text) (sym size);
        none = λ k below. none k (omega arith);
        up_to = λ _. subst (λ (n : ℕ). BeginsMarkup (drop n text)) (sym size) up_to;
      },
      after_is ∙ ap (λ (n : ℕ). drop n text) (sym size),
    )

-- a text without markup is plain
pub whole_plain : (text : List ℕ) → 0 < length text → ((k : ℕ) → k < length text → BeginsMarkup (drop k text) → ⊥) → BeginsPlain text text
whole_plain text some none = record { some = some; front = sym (take_all (length text) text (omega arith)); none = none; up_to = λ beyond. absurd (omega arith) }

-- what lies after a front that was cut off
pub after_front : (text front beyond : List ℕ) (n : ℕ) → n ≤ length text → front ≡ take n text → beyond ≡ drop n text → beyond ≡ drop (length front) text
after_front text front beyond n within front_is after_is =
    let size : length front ≡ n = ap length front_is ∙ length-take-le n text within in
    after_is ∙ ap (λ (m : ℕ). drop m text) (sym size)

-- a part of a text isn't longer than the text
pub part_within : (text : List ℕ) (part : TextPart) → BeginsWith text part → length (part_bytes part) ≤ length text
part_within text (plain bytes) begins = omega (arith, ap length begins.front, length-take (length bytes) text)
part_within text (comment bytes) begins = omega (arith, ap length begins.is, length-take (begins.end + 3) text)
part_within text (tag t) begins = omega (arith, ap length begins.is, length-take (begins.last + 1) text)

-- what is cut off a text and what lies after it have its bytes
pub cut_size : (text : List ℕ) (piece : Piece) (beyond : List ℕ) → IsCut text piece beyond → length (part_bytes (part_of piece)) + length beyond ≡ length text
cut_size text piece beyond cut = omega (arith, part_within text (part_of piece) cut.begins, ap length cut.rest, length-drop (length (part_bytes (part_of piece))) text)
