-- What the readers of markup answer.
use Rattle.std.specs.Prelude.{◌≡◌, ◌≢◌, ℕ, ◌<◌, ◌≤◌, List, Bool, true, false, ◌+◌, Option, Some, None, length, slice_index, drop, [], ◌∷◌, ◌++◌}
use Rattle.std.specs.Char.{encode_utf8}
use Rattle.std.specs.Str.{IsUtf8}
use Rattle.mark_scan.specs.declared.cutting.Rest.{Rest}
use Rattle.mark_scan.specs.declared.piece.Piece.{Piece}
use Rattle.mark_scan.specs.declared.piece.Piece.TheVariants as pieces
use Rattle.mark_scan.specs.declared.piece.Tag.{Tag}
use Rattle.mark_scan.specs.declared.mark.Mark.{Mark}
use Rattle.mark_scan.specs.declared.mark.MarkRules.{MarkRules}
use Rattle.mark_scan.specs.declared.marking.Reader.{Reader}
use Rattle.mark_scan.specs.declared.markup.Ends.{Ends}
use Rattle.mark_scan.specs.declared.markup.Found.{Found}
use Rattle.mark_scan.specs.declared.markup.Found.TheVariants as founds
use Rattle.mark_scan.specs.declared.sentences.Before.{Before}
use Rattle.mark_scan.specs.declared.sentences.Onward.{Onward}
use Rattle.mark_scan.specs.declared.sentences.Onward.TheVariants as onwards
use Rattle.mark_scan.specs.Marks.{PartsBy, run_of, run_before, part_marks}
use Rattle.mark_scan.specs.Sentences.{ends_with_gap, ends_with_initial, is_capital}
use Rattle.mark_scan.specs.Markup.{EndsComment, BeginsComment, BeginsTag, TagText, TextPart, plain, comment, tag, BeginsWith, part_bytes}

-- a tag without where it lies in memory
abbrev pub tag_text : Tag → TagText
tag_text t = record { text = t.text.now; name = t.name.now; closing = t.closing; empty = t.empty }

-- a piece without where it lies in memory
abbrev pub part_of : Piece → TextPart
part_of (pieces.Plain text) = plain text.now
part_of (pieces.Comment text) = comment text.now
part_of (pieces.Tag t) = tag (tag_text t)

-- What is said not to follow doesn't stand in the text: no `>`, or no `-->` after its first four bytes.
pub record Rules (ends : Ends) (text : List ℕ) : Type 0 where
  pub tag : ends.tag ≡ false → (k : ℕ) → slice_index text k ≢ 62
  pub comment : ends.comment ≡ false → (k : ℕ) → 4 ≤ k → EndsComment text k → ⊥

-- What was found begins the text.
abbrev pub Begins : List ℕ → Found → Type 0
Begins text (founds.Comment end) = BeginsComment text end
Begins text (founds.Tag places) = BeginsTag text places.from places.to places.last

-- A text was cut after the part that it begins with.
pub record IsCut (text : List ℕ) (piece : Piece) (beyond : List ℕ) : Type 0 where
  pub begins : BeginsWith text (part_of piece)
  pub rest : beyond ≡ drop (length (part_bytes (part_of piece))) text
  pub piece_utf8 : IsUtf8 (part_bytes (part_of piece))
  pub rest_utf8 : IsUtf8 beyond

-- These are the parts of the rest of a text.
abbrev pub PartsOf : Rest → List TextPart → Type 0
PartsOf rest parts = PartsBy rest.strip rest.text.now parts

-- The rest of a text can be read on: it is UTF-8, and what is said not to follow in it doesn't.
pub record IsReadable (rest : Rest) : Type 0 where
  pub utf8 : IsUtf8 rest.text.now
  pub rules : Rules rest.ends rest.text.now

-- Parts are this part, and then the parts of the rest after it.
pub record IsThen (part : TextPart) (beyond : Rest) (parts : List TextPart) : Type 0 where
  pub others : List TextPart
  pub are : PartsOf beyond others
  pub same : parts ≡ part ∷ others

-- The rest of a text is this piece, and then the rest after it: the parts of the one are the piece and then the parts of the
-- other, and no others.
pub record IsFirst (rest : Rest) (piece : Piece) (beyond : Rest) : Type 0 where
  pub joins : (parts : List TextPart) → PartsOf beyond parts → PartsOf rest (part_of piece ∷ parts)
  pub splits : (parts : List TextPart) → PartsOf rest parts → IsThen (part_of piece) beyond parts
  pub size : length (part_bytes (part_of piece)) + length beyond.text.now ≡ length rest.text.now
  pub shorter : length beyond.text.now < length rest.text.now
  pub utf8 : IsUtf8 (part_bytes (part_of piece))
  pub readable : IsReadable beyond

-- the first character, and the second
abbrev pub next_of : List ℕ → Option ℕ
next_of [] = None
next_of (c ∷ after) = Some c

abbrev pub then_of : List ℕ → Option ℕ
then_of [] = None
then_of (c ∷ after) = next_of after

-- what stands by itself before a place is a capital letter
abbrev pub is_initial : (ℕ → Option ℕ) → Option ℕ → Bool
is_initial fold None = false
is_initial fold (Some c) = is_capital fold c

-- What is kept of the characters before a place, which are given from the last one on.
pub record IsBefore (fold : ℕ → Option ℕ) (state : Before) (before : List ℕ) : Type 0 where
  pub gap : state.gap ≡ ends_with_gap before
  pub initial : is_initial fold state.single ≡ ends_with_initial fold before

-- the rest of a text run: this text, and what follows of the run in the parts after it
abbrev pub run_from : List (List ℕ) → List ℕ → List TextPart → List ℕ
run_from zones text parts = text ++ run_of zones parts

-- The rest of a run is what the rest of a text begins with.
pub record IsAhead (zones : List (List ℕ)) (run : List ℕ) (rest : Rest) : Type 0 where
  pub parts : List TextPart
  pub are : PartsOf rest parts
  pub run_is : run ≡ run_of zones parts

-- The rest of a run is this character, then this text, and then what follows of the run in the rest of the whole text.
pub record IsNext (zones : List (List ℕ)) (run : List ℕ) (c : ℕ) (text : List ℕ) (rest : Rest) : Type 0 where
  pub parts : List TextPart
  pub are : PartsOf rest parts
  pub run_is : run ≡ encode_utf8 c ++ run_from zones text parts

-- What a part gives to the run that goes on before it.
abbrev pub GoesOn : List (List ℕ) → TextPart → Onward → Type 0
GoesOn zones part (onwards.Char c text) = (parts : List TextPart) → (run_of zones (part ∷ parts) ≡ encode_utf8 c ++ (text.now ++ run_of zones parts)) × IsUtf8 text.now
GoesOn zones part onwards.Nothing = (parts : List TextPart) → run_of zones (part ∷ parts) ≡ run_of zones parts
GoesOn zones part onwards.End = (parts : List TextPart) → run_of zones (part ∷ parts) ≡ []

-- What is kept of the characters before a place, where the ends of sentences are looked for.
abbrev pub Keeps : Bool → (ℕ → Option ℕ) → Before → List ℕ → Type 0
Keeps sp fold state before = sp ≡ true → IsBefore fold state before

-- The marks of a part were added, at the reader's place, and the reader stands after it, whatever stood before.
pub record AddsTextPart (fold : ℕ → Option ℕ) (rules : MarkRules) (reader : Reader) (old : List Mark) (part : TextPart) (rest : List TextPart) (next : Reader) (list : List Mark) : Type 0 where
  pub place : next.place ≡ reader.place + length (part_bytes part)
  pub marks : (before : List TextPart) → Keeps rules.sp fold reader.before (run_before rules.zones before) → list ≡ old ++ part_marks fold rules reader.place before part rest
  pub keeps : (before : List TextPart) → Keeps rules.sp fold reader.before (run_before rules.zones before) → Keeps rules.sp fold next.before (run_before rules.zones (part ∷ before))
