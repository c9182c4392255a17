-- The places of marks ascend and lie in the text, so that a place has one mark.
use Rattle.std.proofs.Common.{arith, ◌≡◌, ◌+◌, ◌-◌, ◌<◌, ◌≤◌, ℕ, zero, suc, List, [], ◌∷◌, ◌++◌, Bool, true, false, length, refl, sym, ◌∙◌, ap, subst}
use Rattle.std.specs.Prelude.{if◌then◌else◌}
use Rattle.doc_types.specs.declared.schema.Schema.{Schema}
use Rattle.rank_expr.specs.declared.mark.Mark.{Mark}
use Rattle.rank_expr.specs.Pieces.{is_blank, piece_of}
use Rattle.rank_expr.specs.Marks.{is_due_after, level_after, mark_of, marks_from, marks_of}
use Rattle.rank_expr.specs.steps.Classes.{IsAtEnd}

-- each place is within these bounds
abbrev pub Between : ℕ → ℕ → List Mark → Type 0
Between low high [] = Unit {0}
Between low high (m ∷ marks) = (low ≤ m.at) × (m.at ≤ high) × Between low high marks

abbrev pub Ascend : List Mark → Type 0
Ascend [] = Unit {0}
Ascend (m ∷ []) = Unit {0}
Ascend (m ∷ n ∷ marks) = (m.at < n.at) × Ascend (n ∷ marks)

lower : (low less high : ℕ) (marks : List Mark) → less ≤ low → Between low high marks → Between less high marks
lower low less high [] le h = tt
lower low less high (m ∷ marks) le h = (omega (arith, le, h.0), h.1, lower low less high marks le h.2)

begun : (at high : ℕ) (m : Mark) (marks : List Mark) → m.at ≡ at → Between (at + 1) high marks → Ascend marks → Ascend (m ∷ marks)
begun at high m [] is between ascend = tt
begun at high m (n ∷ marks) is between ascend = (omega (arith, is, between.0), ascend)

record Placed (low high : ℕ) (marks : List Mark) : Type 0 where
  between : Between low high marks
  ascend : Ascend marks

one_placed : (at high : ℕ) (m : Mark) (marks : List Mark) → m.at ≡ at → at ≤ high → Placed (at + 1) high marks → Placed at high (m ∷ marks)
one_placed at high m marks is within h = record {
  between = (omega (arith, is), omega (arith, is, within), lower (at + 1) at high marks (omega arith) h.between);
  ascend = begun at high m marks is h.between h.ascend;
}

with_bound : (low high more : ℕ) (marks : List Mark) → high ≡ more → Placed low high marks → Placed low more marks
with_bound low high more marks e h = subst (λ k. Placed low k marks) e h

from_below : (low less high : ℕ) (marks : List Mark) → less ≤ low → Placed low high marks → Placed less high marks
from_below low less high marks le h = record { between = lower low less high marks le h.between; ascend = h.ascend }

placed : (schema : Schema) (due : Bool) (level at skip : ℕ) (text : List ℕ) → Placed at (at + length text) (marks_from schema due level at skip text)
unfolding marks_from
placed schema due level at skip [] = record { between = (omega arith, omega arith, tt); ascend = tt }
placed schema due level at (suc skip) (b ∷ text) =
    from_below (at + 1) at (at + length (b ∷ text)) _ (omega arith) (with_bound (at + 1) (at + 1 + length text) (at + length (b ∷ text)) _ (omega arith) (placed schema due level (at + 1) skip text))
placed schema due level at zero (b ∷ text) = either (is_blank b) (
    from_below (at + 1) at (at + length (b ∷ text)) _ (omega arith) (with_bound (at + 1) (at + 1 + length text) (at + length (b ∷ text)) _ (omega arith) (placed schema due level (at + 1) 0 text))
    ) (
    one_placed at (at + length (b ∷ text)) _ _ refl (omega arith) (with_bound (at + 1) (at + 1 + length text) (at + length (b ∷ text)) _ (omega arith) (placed schema (is_due_after (piece_of schema (b ∷ text)).sign) (level_after level (piece_of schema (b ∷ text)).sign) (at + 1) ((piece_of schema (b ∷ text)).size - 1) text))
    )
  where
    either : (c : Bool) → Placed at (at + length (b ∷ text)) (marks_from schema due level (at + 1) 0 text) → Placed at (at + length (b ∷ text)) (mark_of due level at (piece_of schema (b ∷ text)).sign ∷ marks_from schema (is_due_after (piece_of schema (b ∷ text)).sign) (level_after level (piece_of schema (b ∷ text)).sign) (at + 1) ((piece_of schema (b ∷ text)).size - 1) text)
        → Placed at (at + length (b ∷ text)) (if c then marks_from schema due level (at + 1) 0 text else (mark_of due level at (piece_of schema (b ∷ text)).sign ∷ marks_from schema (is_due_after (piece_of schema (b ∷ text)).sign) (level_after level (piece_of schema (b ∷ text)).sign) (at + 1) ((piece_of schema (b ∷ text)).size - 1) text))
    either true blank piece = blank
    either false blank piece = piece

pub marks_ascend : (schema : Schema) (text : List ℕ) → Ascend (marks_of schema text)
unfolding marks_of
marks_ascend schema text = (placed schema true 0 0 0 text).ascend

front_within : (low high : ℕ) (front : List Mark) (stop : Mark) (rest : List Mark) → Between low high (front ++ stop ∷ rest) → stop.at ≤ high
front_within low high [] stop rest h = h.1
front_within low high (m ∷ front) stop rest h = front_within low high front stop rest h.2

pub place_within : (schema : Schema) (text : List ℕ) (front : List Mark) (stop : Mark) (rest : List Mark) → marks_of schema text ≡ front ++ stop ∷ rest → stop.at ≤ length text
unfolding marks_of
place_within schema text front stop rest is =
    let bound : 0 + length text ≡ length text = omega arith in
    subst (λ k. stop.at ≤ k) bound (front_within 0 (0 + length text) front stop rest (subst (λ u. Between 0 (0 + length text) u) is (placed schema true 0 0 0 text).between))

-- ---- the mark of a place

-- the mark of the place is still ahead
pub record StillAhead (place : ℕ) (marks now : List Mark) : Type 0 where
  pub ahead : (front rest : List Mark) (stop : Mark) → marks ≡ front ++ stop ∷ rest → stop.at ≡ place → (before : List Mark) × (now ≡ before ++ stop ∷ rest)
  pub ascend : Ascend now

pub all_ahead : (schema : Schema) (text : List ℕ) (place : ℕ) (now : List Mark) → now ≡ marks_of schema text → StillAhead place (marks_of schema text) now
all_ahead schema text place now is = record { ahead = λ front rest stop e at. (front, is ∙ e); ascend = subst Ascend (sym is) (marks_ascend schema text) }

ascend_next : (m : Mark) (marks : List Mark) → Ascend (m ∷ marks) → Ascend marks
ascend_next m [] h = tt
ascend_next m (n ∷ marks) h = h.1

ascend_past : (m : Mark) (front : List Mark) (stop : Mark) (rest : List Mark) → Ascend (m ∷ (front ++ stop ∷ rest)) → m.at < stop.at
ascend_past m [] stop rest h = h.0
ascend_past m (n ∷ front) stop rest h = omega (arith, h.0, ascend_past n front stop rest h.1)

passed : (m : Mark) (before now rest : List Mark) (stop : Mark) (place : ℕ) → m ∷ now ≡ before ++ stop ∷ rest → stop.at ≡ place → m.at < place → (front : List Mark) × (now ≡ front ++ stop ∷ rest)
passed m [] now rest stop place is at less =
    let same : m ≡ stop = cc in
    absurd (omega (arith, less, at, ap (λ (x : Mark). x.at) same))
passed m (x ∷ before) now rest stop place is at less = (before, cc)

pub one_passed : {place : ℕ} {marks now next : List Mark} (m : Mark) → StillAhead place marks now → now ≡ m ∷ next → m.at < place → StillAhead place marks next
one_passed {place} {marks} {now} {next} m h is less = record {
  ahead = λ front rest stop e at. let (before, same) = h.ahead front rest stop e at in passed m before next rest stop place (sym is ∙ same) at less;
  ascend = ascend_next m next (subst Ascend is h.ascend);
}

here : (m : Mark) (before now rest : List Mark) (stop : Mark) (place : ℕ) → m ∷ now ≡ before ++ stop ∷ rest → Ascend (m ∷ now) → stop.at ≡ place → place ≤ m.at → m ≡ stop
here m [] now rest stop place is ascend at least = cc
here m (x ∷ before) now rest stop place is ascend at least =
    let same : now ≡ before ++ stop ∷ rest = cc in
    absurd (omega (arith, at, least, ascend_past m before stop rest (subst (λ u. Ascend (m ∷ u)) same ascend)))

pub mark_here : {place : ℕ} {marks now next : List Mark} (m : Mark) → StillAhead place marks now → now ≡ m ∷ next → place ≤ m.at → (front rest : List Mark) (stop : Mark) → marks ≡ front ++ stop ∷ rest → stop.at ≡ place → m ≡ stop
mark_here {place} {marks} {now} {next} m h is least front rest stop e at =
    let (before, same) = h.ahead front rest stop e at in
    here m before next rest stop place (sym is ∙ same) (subst Ascend is h.ascend) at least

alone : (m : Mark) (before rest : List Mark) (stop : Mark) → m ∷ [] ≡ before ++ stop ∷ rest → m ≡ stop
alone m [] rest stop is = cc
alone m (x ∷ []) rest stop is = cc
alone m (x ∷ y ∷ before) rest stop is = cc

pub mark_last : {place : ℕ} {marks now next : List Mark} (m : Mark) → StillAhead place marks now → now ≡ m ∷ next → IsAtEnd now → (front rest : List Mark) (stop : Mark) → marks ≡ front ++ stop ∷ rest → stop.at ≡ place → m ≡ stop
mark_last {place} {marks} {now} {next} m h is end front rest stop e at =
    let (before, same) = h.ahead front rest stop e at in
    let last : m ≡ end.next = cc (is, end.is) in
    last ∙ alone end.next before rest stop (sym end.is ∙ same)
