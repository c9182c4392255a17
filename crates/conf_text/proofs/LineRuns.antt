-- Runs of lines.
use Rattle.std.proofs.Common.{◌≡◌, ◌≢◌, ℕ, ◌+◌, ◌<◌, ◌≤◌, Bool, true, false, cond, List, [], ◌∷◌, ◌++◌, append_assoc, append-nil, length, take, drop, map, refl, sym, ◌∙◌, ap, subst, arith, inl, inr}
use Rattle.std.specs.Prelude.{All, ◌&&◌, ◌||◌, ◌==◌, not, reverse}
use Rattle.std.specs.Str.Lines.{lines, strip_carriage_return}
use Rattle.std.proofs.lemmas.Bool.{cases_lt, true≢false, eq-eqb, eqb-true, ne_eqb}
use Rattle.std.proofs.lemmas.List.{map-append, reverse-append}
use Rattle.std.proofs.lemmas.List.Elements.{All-push}
use Rattle.index_conf.specs.declared.conf.IndexConf.{IndexConf}
use Rattle.conf_text.specs.declared.size.TheConstants.{MAX_CONF_BYTES}
use Rattle.conf_text.specs.declared.fault.ConfKind.{ConfKind}
use Rattle.conf_text.specs.declared.lines.LineHead.{LineHead}
use Rattle.conf_text.specs.declared.lines.Lines.{Lines}
use Rattle.conf_text.specs.declared.reading.LinePlace.{LinePlace as CodePlace}
use Rattle.conf_text.specs.declared.reading.LinePlace.TheVariants as places
use Rattle.conf_text.specs.Confs.{AreFaultless, IsFirstBadLine, IsFirstFault, IsUtf8Line, is_last, shape, shapes_back}
use Rattle.conf_text.specs.steps.Drafts.{AreIndexes}
use Rattle.conf_text.specs.Faults.{AreGood, IsFaultAt, IsGoodAt, fits, is_outside, is_syntax}
use Rattle.conf_text.specs.Lines.{Line, content_of, is_joined, lines_from, lines_of, onto_line}
use Rattle.conf_text.specs.steps.LineReader.{IsLineRead, bound, left}
use Rattle.conf_text.specs.Sections.{Spot, entries_in, indexes_in, place_after, place_in, spot_at, spot_in}
use Rattle.conf_text.specs.Shapes.{Shape, shape_of}
use Rattle.conf_text.specs.steps.Taking.{IsBehind, Leads, place_of}
use Rattle.conf_text.proofs.Joins.{line_of}
use Rattle.conf_text.proofs.Parts.{first_line, last_line, place, place_within}

-- at the start all lines are left
pub all_left : (text : List ℕ) (reader : Lines) → reader.rest.now ≡ text → reader.number ≡ 1 → lines_of text ≡ left reader
all_left text reader rest number = ap (λ (t : List ℕ). lines_from 1 (lines t)) (sym rest) ∙ ap (λ n. lines_from n (lines reader.rest.now)) (sym number)

-- the lines that were read, and those that are left
read_on : (all before : List Line) (old new : Lines) (line : Line) → all ≡ before ++ left old → left old ≡ line ∷ left new → all ≡ (before ++ line ∷ []) ++ left new
read_on all before old new line are next = are ∙ ap (λ ls. before ++ ls) next ∙ sym (append_assoc before (line ∷ []) (left new))

-- lines that were read, each of which is UTF-8
pub record TextsRead (text : List ℕ) (reader : Lines) : Type 0 where
  pub before : List Line
  pub are : lines_of text ≡ before ++ left reader
  pub good : All IsUtf8Line before
  pub bounded : bound reader ≤ MAX_CONF_BYTES + 1

pub texts_none : (text : List ℕ) (reader : Lines) → length text ≤ MAX_CONF_BYTES → reader.rest.now ≡ text → reader.number ≡ 1 → TextsRead text reader
texts_none text reader short rest number = record {
  before = [];
  are = all_left text reader rest number;
  good = λ k d below. absurd (omega arith);
  bounded = omega (arith, short, ap length rest, number);
}

pub texts_more : (text : List ℕ) (old new : Lines) (buffer : List ℕ) (head : LineHead) → TextsRead text old → IsLineRead old new buffer head → head.utf8 ≡ true → TextsRead text new
texts_more text old new buffer head read line utf8 = record {
  before = read.before ++ line.line ∷ [];
  are = read_on (lines_of text) read.before old new line.line read.are line.are;
  good = All-push IsUtf8Line read.before line.line read.good (line.text utf8);
  bounded = omega (arith, read.bounded, line.bounded);
}

pub texts_bad : (text : List ℕ) (old new : Lines) (buffer : List ℕ) (head : LineHead) → TextsRead text old → IsLineRead old new buffer head → head.utf8 ≡ false → IsFirstBadLine (lines_of text) head.number
texts_bad text old new buffer head read line utf8 = record {
  before = read.before;
  line = line.line;
  after = left new;
  are = read.are ∙ ap (λ ls. read.before ++ ls) line.are;
  good = read.good;
  bad = line.no_text utf8;
  at = line.number;
}

pub texts_all : (text : List ℕ) (reader : Lines) → TextsRead text reader → left reader ≡ [] → All IsUtf8Line (lines_of text)
texts_all text reader read end = subst (All IsUtf8Line) (sym (read.are ∙ ap (λ ls. read.before ++ ls) end ∙ append-nil read.before)) read.good

-- the shapes of lines with one more
shapes_more : (before : List Line) (line : Line) → shapes_back (before ++ line ∷ []) ≡ shape line ∷ shapes_back before
shapes_more before line = ap reverse (map-append shape before (line ∷ [])) ∙ reverse-append (map shape before) (shape line ∷ [])

onto_some : (number : ℕ) (part : List ℕ) (lines : List Line) → is_last (onto_line number part lines) ≡ false
onto_some number part [] = refl
onto_some number part (line ∷ lines) = refl

-- a text that isn't empty has a line
some_lines : (number : ℕ) (parts : List (List ℕ)) (part : List ℕ) → is_last (lines_from number (part ∷ parts)) ≡ false
some_lines number parts part = elim (is_joined part) as (λ t. is_last (cond t (onto_line number part (lines_from (number + 1) parts)) (line_of number (part ∷ []) ∷ lines_from (number + 1) parts)) ≡ false) [
  | true ↦ onto_some number part (lines_from (number + 1) parts)
  | false ↦ refl
]

some_parts : (text : List ℕ) → 0 < length text → (part : List ℕ) × (parts : List (List ℕ)) × (lines text ≡ part ∷ parts)
some_parts text some = elim (cases_lt (place 10 text) (length text)) [
  | inl within ↦ (strip_carriage_return (take (place 10 text) text), lines (drop (place 10 text + 1) text), first_line text within)
  | inr end ↦ (text, [], last_line text some (omega (arith, end, place_within 10 text)))
]

left_none_at : (number : ℕ) (text : List ℕ) → is_last (lines_from number (lines text)) ≡ (length text == 0)
left_none_at number [] = refl
left_none_at number (b ∷ text) =
    let parts = some_parts (b ∷ text) (omega arith) in
    let other : length (b ∷ text) ≢ 0 = omega arith in
    ap (λ (ps : List (List ℕ)). is_last (lines_from number ps)) parts.2 ∙ some_lines number parts.1 parts.0 ∙ sym (ne_eqb (length (b ∷ text)) 0 other)

-- no line is left where no text is
pub left_none : (reader : Lines) → is_last (left reader) ≡ (length reader.rest.now == 0)
left_none reader = left_none_at reader.number reader.rest.now

-- indexes and a place that stand for the lines that were read
pub record LinesRead (text : List ℕ) (reader : Lines) (indexes : List IndexConf) (place : CodePlace) : Type 0 where
  pub before : List Line
  pub are : lines_of text ≡ before ++ left reader
  pub good : AreGood (shapes_back before)
  pub ends : length reader.rest.now ≡ 0 → is_outside (place_in (shapes_back before)) ≡ true
  pub indexes_are : AreIndexes (indexes_in (shapes_back before)) indexes
  pub leads : Leads (place_in (shapes_back before)) (entries_in (shapes_back before)) place
  pub bounded : bound reader ≤ MAX_CONF_BYTES + 1
  pub size : length reader.rest.now ≤ length text

pub lines_none : (text : List ℕ) (reader : Lines) (indexes : List IndexConf) → length text ≤ MAX_CONF_BYTES → reader.rest.now ≡ text → reader.number ≡ 1 → indexes ≡ [] → LinesRead text reader indexes places.Outside
lines_none text reader indexes short rest number empty = record {
  before = [];
  are = all_left text reader rest number;
  good = tt;
  ends = λ end. refl;
  indexes_are = subst (AreIndexes []) (sym empty) tt;
  leads = record { place_is = refl; has = tt };
  bounded = omega (arith, short, ap length rest, number);
  size = omega (arith, ap length rest);
}

early_syntax : (fine last open_still : Bool) → (not fine || (false && open_still)) ≡ true → (not fine || (last && open_still)) ≡ true
early_syntax true last open_still set = absurd (true≢false (sym set))
early_syntax false last open_still set = refl

late_syntax : (fine out : Bool) → ¬ ((not fine || (true && not out)) ≡ true) → out ≡ true
late_syntax fine true fault = refl
late_syntax true false fault = absurd (fault refl)
late_syntax false false fault = absurd (fault refl)

-- a line that may be the last one is good also where others follow
not_last : (spot : Spot) (line : Shape) (last : Bool) → IsGoodAt spot line last → IsGoodAt spot line false
not_last spot line last good =
    let early : is_syntax spot.place line false ≡ true → is_syntax spot.place line last ≡ true = early_syntax (fits spot.place line) last (not (is_outside (place_after spot.place line))) in
    (good.0, (good.1.0, (good.1.1.0, (good.1.1.1.0, (good.1.1.1.1.0, (good.1.1.1.1.1.0, ((λ yes. good.1.1.1.1.1.1.0 (early yes)), good.1.1.1.1.1.1.1)))))))

-- after the last line no section is open
last_outside : (spot : Spot) (line : Shape) → IsGoodAt spot line true → is_outside (place_after spot.place line) ≡ true
last_outside spot line good = late_syntax (fits spot.place line) (is_outside (place_after spot.place line)) good.1.1.1.1.1.1.0

-- the shape of a line that was read
pub shape_read : (old new : Lines) (buffer : List ℕ) (head : LineHead) (line : Shape) (said : List ℕ) → (read : IsLineRead old new buffer head) → said ≡ content_of buffer → line ≡ shape_of said → line ≡ shape read.line
shape_read old new buffer head line said read is shaped = shaped ∙ ap shape_of (is ∙ ap content_of read.buffer_is)

-- the spot after the lines that were read
spot_is : (text : List ℕ) (reader : Lines) (indexes : List IndexConf) (place : CodePlace) → (read : LinesRead text reader indexes place) → spot_at (indexes_in (shapes_back read.before)) (entries_in (shapes_back read.before)) (place_of place) ≡ spot_in (shapes_back read.before)
spot_is text reader indexes place read = ap (spot_at (indexes_in (shapes_back read.before)) (entries_in (shapes_back read.before))) read.leads.place_is

-- a line more
pub lines_more : (text : List ℕ) (old new : Lines) (buffer : List ℕ) (head : LineHead) (indexes more : List IndexConf) (place next : CodePlace) (line : Shape) (last : Bool) → (read : LinesRead text old indexes place) → (one : IsLineRead old new buffer head) → line ≡ shape one.line → last ≡ (length new.rest.now == 0) → IsBehind (spot_at (indexes_in (shapes_back read.before)) (entries_in (shapes_back read.before)) (place_of place)) line last more next → LinesRead text new more next
lines_more text old new buffer head indexes more place next line last read one shaped ends beyond =
    let before : List Shape = shapes_back read.before in
    let now : Line = one.line in
    let made : IsBehind (spot_in before) (shape now) last more next =
    subst (λ (l : Shape). IsBehind (spot_in before) l last more next) shaped (subst (λ (s : Spot). IsBehind s line last more next) (spot_is text old indexes place read) beyond) in
    let shapes : shapes_back (read.before ++ now ∷ []) ≡ shape now ∷ before = shapes_more read.before now in
    record {
      before = read.before ++ now ∷ [];
      are = read_on (lines_of text) read.before old new now read.are one.are;
      good = subst AreGood (sym shapes) (not_last (spot_in before) (shape now) last made.good, read.good);
      ends = λ end. subst (λ (ss : List Shape). is_outside (place_in ss) ≡ true) (sym shapes)
          (last_outside (spot_in before) (shape now) (subst (λ b. IsGoodAt (spot_in before) (shape now) b) (ends ∙ eq-eqb (length new.rest.now) 0 end) made.good));
      indexes_are = subst (λ (ss : List Shape). AreIndexes (indexes_in ss) more) (sym shapes) made.indexes;
      leads = subst (λ (ss : List Shape). Leads (place_in ss) (entries_in ss) next) (sym shapes) made.leads;
      bounded = omega (arith, read.bounded, one.bounded);
      size = omega (arith, read.size, one.shorter);
    }

-- a line at which a fault stands
pub lines_fault : (text : List ℕ) (old new : Lines) (buffer : List ℕ) (head : LineHead) (indexes : List IndexConf) (place : CodePlace) (line : Shape) (last : Bool) (kind : ConfKind) → (read : LinesRead text old indexes place) → (one : IsLineRead old new buffer head) → line ≡ shape one.line → last ≡ (length new.rest.now == 0) → IsFaultAt kind (spot_at (indexes_in (shapes_back read.before)) (entries_in (shapes_back read.before)) (place_of place)) line last → IsFirstFault (lines_of text) (record { line = head.number; kind = kind })
lines_fault text old new buffer head indexes place line last kind read one shaped ends fault =
    let before : List Shape = shapes_back read.before in
    let now : Line = one.line in
    let made : IsFaultAt kind (spot_in before) (shape now) last =
    subst (λ (l : Shape). IsFaultAt kind (spot_in before) l last) shaped (subst (λ (s : Spot). IsFaultAt kind s line last) (spot_is text old indexes place read) fault) in
    record {
      before = read.before;
      line = now;
      after = left new;
      are = read.are ∙ ap (λ ls. read.before ++ ls) one.are;
      good = read.good;
      at = one.number;
      kind = subst (λ b. IsFaultAt kind (spot_in before) (shape now) b) (ends ∙ sym (left_none new)) made;
    }

-- the end of the text
pub lines_all : (text : List ℕ) (reader : Lines) (indexes : List IndexConf) (place : CodePlace) → LinesRead text reader indexes place → left reader ≡ [] → AreFaultless (lines_of text) × AreIndexes (indexes_in (shapes_back (lines_of text))) indexes
lines_all text reader indexes place read end =
    let all : lines_of text ≡ read.before = read.are ∙ ap (λ ls. read.before ++ ls) end ∙ append-nil read.before in
    let empty : length reader.rest.now ≡ 0 = eqb-true (length reader.rest.now) 0 (sym (left_none reader) ∙ ap is_last end) in (
      subst AreFaultless (sym all) (record { good = read.good; ended = read.ends empty }),
      subst (λ (ls : List Line). AreIndexes (indexes_in (shapes_back ls)) indexes) (sym all) read.indexes_are,
    )
