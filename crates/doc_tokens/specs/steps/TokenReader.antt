-- Reading: what the reader of a text keeps, and what its parts answer.
use Rattle.std.specs.Prelude.{◌≡◌, ℕ, ◌+◌, ◌<◌, ◌≤◌, List, [], ◌∷◌, ◌++◌, ◌==◌, ◌&&◌, nat_lt, Bool, true, false, ◌-◌, slice_index_or, Option, Some, None, Result, Ok, Err, if◌then◌else◌, All, AllPairs, IsTrue, ◌↔◌, ◌⊎◌, Contains, length, map, take, drop}
use Rattle.std.specs.Char.{is_ascii}
use Rattle.std.specs.List.{list_any}
use Rattle.std.specs.Option.{option_eq}
use Rattle.std.specs.Str.{chars, IsAscii, IsUtf8}
use Rattle.std.specs.String.{string_bytes}
use Rattle.srch_base.specs.declared.faults.Or.{Or}
use Rattle.srch_base.specs.declared.faults.Or.TheVariants as causes
use Rattle.mark_scan.specs.declared.mark.Mark.{Mark}
use Rattle.mark_scan.specs.declared.mark.MarkKind.{MarkKind}
use Rattle.mark_scan.specs.declared.mark.MarkKind.TheVariants as kinds
use Rattle.mark_scan.specs.declared.mark.MarkRules.{MarkRules}
use Rattle.mark_scan.specs.Marks.{AreMarks}
use Rattle.doc_types.specs.declared.tokens.TheConstants.{MAX_POSITION, MAX_WORD_CHARS}
use Rattle.doc_types.specs.declared.tokens.Gap.{Gap}
use Rattle.doc_types.specs.declared.tokens.Gap.TheVariants as gaps
use Rattle.doc_types.specs.declared.tokens.TokenWord.{TokenWord}
use Rattle.doc_types.specs.declared.tokens.ZoneSpan.{ZoneSpan}
use Rattle.doc_types.specs.Documents.{step, precedes, IsWord}
use Rattle.doc_tokens.specs.declared.cover.Cover.{Cover}
use Rattle.doc_tokens.specs.declared.field.TooLong.{TooLong}
use Rattle.doc_tokens.specs.declared.reader.Found.{Found}
use Rattle.doc_tokens.specs.declared.reader.Reader.{Reader}
use Rattle.doc_tokens.specs.declared.walk.Passed.{Passed}
use Rattle.doc_tokens.specs.declared.sign.TextSign.{TextSign}
use Rattle.doc_tokens.specs.declared.sign.TextSign.TheVariants as signs
use Rattle.doc_tokens.specs.TextSigns.{is_text, is_removed_tag, is_sentence_end, run_sign, tags_in, signs_from}
use Rattle.doc_tokens.specs.Words.{Segment, run, other, segments, word_of, end_of, stronger}
use Rattle.doc_tokens.specs.Spans.{tags_after}
use Rattle.doc_tokens.specs.Tokens.{first_above, IsTooLong}

-- some mark of this kind reaches beyond the place
abbrev pub reaches : (MarkKind → Bool) → ℕ → List Mark → Bool
reaches is_kind place marks = list_any (λ mark. is_kind mark.kind && nat_lt place mark.to) marks

-- these are the greatest places that the marks reach up to
pub record IsCover (cover : Cover) (marks : List Mark) : Type 0 where
  pub text : (place : ℕ) → nat_lt place cover.text ≡ reaches is_text place marks
  pub removed : (place : ℕ) → nat_lt place cover.removed ≡ reaches is_removed_tag place marks
  pub sentence : (place : ℕ) → nat_lt place cover.sentence ≡ reaches is_sentence_end place marks

-- what a character at a place is, by how far the marks reach that begin before its end
abbrev pub sign_by : (ℕ → Option ℕ) → Cover → ℕ → ℕ → Option TextSign
sign_by fold cover place c =
    if nat_lt place cover.text then Some (run_sign (fold c) (nat_lt place cover.sentence))
    else (if nat_lt place cover.removed then None else Some signs.Separator)

-- what a tag is
abbrev pub tag_sign : MarkKind → Option TextSign
tag_sign kinds.Text = None
tag_sign kinds.Inline = None
tag_sign kinds.Sentence = None
tag_sign kinds.Paragraph = Some signs.Paragraph
tag_sign (kinds.Open zone) = Some (signs.Open zone)
tag_sign (kinds.Close zone) = Some (signs.Close zone)

-- the boundary before a word, by the position of the word before, or 0, and what stands between
abbrev pub gap_after : ℕ → Gap → Gap
gap_after position gap = if position == 0 then gaps.None else gap

-- the word that a run is after a word at this position and this boundary
abbrev pub word_after : ℕ → Gap → List ℕ → TokenWord
word_after position gap letters = record { word = word_of letters; position = position + step (gap_after position gap); gap = gap_after position gap }

-- the words of segments after a word at this position and this boundary
abbrev pub words_after : ℕ → Gap → List Segment → List TokenWord
words_after position gap [] = []
words_after position gap (run letters ∷ segments) = word_after position gap letters ∷ words_after (position + step (gap_after position gap)) gaps.None segments
words_after position gap (other sign ∷ segments) = words_after position (stronger gap (end_of sign)) segments

-- the words of segments
abbrev pub all_words : List Segment → List TokenWord
all_words segments = words_after 0 gaps.None segments

-- letters of a run, and the signs after them
abbrev pub signs_ahead : List ℕ → List TextSign → List TextSign
signs_ahead letters rest = map signs.Letter letters ++ rest

-- The reader has read a front of the signs, which ends with these letters of a run; what it found, and what is found in the
-- rest, is all that is wanted.
pub record Holds (all : List TextSign) (reader : Reader) (letters : List ℕ) (rest : List TextSign) : Type 0 where
  pub run : string_bytes reader.run ≡ word_of letters
  pub count : reader.letters ≡ length (take MAX_WORD_CHARS letters)
  pub words : reader.found.words.items ++ words_after reader.position reader.gap (segments (signs_ahead letters rest)) ≡ all_words (segments all)
  pub tags : reader.found.tags.items ++ tags_after (length reader.found.words.items) (segments (signs_ahead letters rest)) ≡ tags_after 0 (segments all)
  pub below : All (λ word. word.position ≤ MAX_POSITION) reader.found.words.items
  pub sound : All (λ word. IsWord word.word) reader.found.words.items

-- the same, whatever letters the run has
pub record Wants (all : List TextSign) (reader : Reader) (rest : List TextSign) : Type 0 where
  pub letters : List ℕ
  pub holds : Holds all reader letters rest

-- no run goes on with these signs
abbrev pub BeginApart : List TextSign → Type 0
BeginApart [] = Unit {0}
BeginApart (signs.Letter c ∷ rest) = ⊥
BeginApart (signs.Separator ∷ rest) = Unit {0}
BeginApart (signs.Sentence ∷ rest) = Unit {0}
BeginApart (signs.Paragraph ∷ rest) = Unit {0}
BeginApart (signs.Open zone ∷ rest) = Unit {0}
BeginApart (signs.Close zone ∷ rest) = Unit {0}

-- one more sign was read, or a word stands above the limit
abbrev pub ReadsSign : Reader → TextSign → Reader → Result (Unit {0}) (Or TooLong) → Type 0
ReadsSign old sign new (Ok done) = (all rest : List TextSign) → Wants all old (sign ∷ rest) → Wants all new rest
ReadsSign old sign new (Err causes.NoMemory) = Unit {0}
ReadsSign old sign new (Err (causes.Fault too_long)) = (all rest : List TextSign) → Wants all old (sign ∷ rest) → first_above (segments all) ≡ Some too_long.position

-- the run has ended, or its word stands above the limit
abbrev pub EndsRun : Reader → Reader → Result (Unit {0}) (Or TooLong) → Type 0
EndsRun old new (Ok done) = (all : List TextSign) (letters : List ℕ) (rest : List TextSign) → BeginApart rest → Holds all old letters rest → Holds all new [] rest
EndsRun old new (Err causes.NoMemory) = Unit {0}
EndsRun old new (Err (causes.Fault too_long)) = (all : List TextSign) (letters : List ℕ) (rest : List TextSign) → BeginApart rest → Holds all old letters rest → first_above (segments all) ≡ Some too_long.position

-- all that is wanted of the signs was found
pub record IsFound (all : List TextSign) (found : Found) : Type 0 where
  pub words : found.words.items ≡ all_words (segments all)
  pub tags : found.tags.items ≡ tags_after 0 (segments all)
  pub below : All (λ word. word.position ≤ MAX_POSITION) found.words.items
  pub sound : All (λ word. IsWord word.word) found.words.items

-- what signs give: all that is wanted, or the first position above the limit
abbrev pub Finds : List TextSign → Result Found (Or TooLong) → Type 0
Finds all (Ok found) = IsFound all found
Finds all (Err causes.NoMemory) = Unit {0}
Finds all (Err (causes.Fault too_long)) = first_above (segments all) ≡ Some too_long.position

-- the signs of characters where the whole text is one run and no ends of sentences are marked
abbrev pub plain_signs : (ℕ → Option ℕ) → List ℕ → List TextSign
plain_signs fold cs = map (λ c. run_sign (fold c) false) cs

-- the character is ASCII, and a letter of the table that folds to itself
abbrev pub is_own : (ℕ → Option ℕ) → ℕ → Bool
is_own fold c = is_ascii c && option_eq (λ a b. a == b) (fold c) (Some c)

-- a text begins with these letters, and this text is left after them
pub record BeginsWithRun (fold : ℕ → Option ℕ) (text run beyond : List ℕ) : Type 0 where
  pub ascii : IsAscii run
  pub parts : text ≡ run ++ beyond
  pub utf8 : IsUtf8 beyond
  pub signs : plain_signs fold (chars text) ≡ signs_ahead run (plain_signs fold (chars beyond))

-- all that is wanted of the text was found, by its marks
pub record IsFoundIn (fold : ℕ → Option ℕ) (rules : MarkRules) (text : List ℕ) (found : Found) : Type 0 where
  pub marks : List Mark
  pub are : AreMarks fold rules text marks
  pub is : IsFound (signs_from fold marks 0 (chars text)) found

-- what a text gives: all that is wanted, or the first position above the limit
abbrev pub FindsIn : (ℕ → Option ℕ) → MarkRules → List ℕ → Result Found (Or TooLong) → Type 0
FindsIn fold rules text (Ok found) = IsFoundIn fold rules text found
FindsIn fold rules text (Err causes.NoMemory) = Unit {0}
FindsIn fold rules text (Err (causes.Fault too_long)) = IsTooLong fold rules text too_long.position

-- one more sign was read, if there is one, or a word stands above the limit
abbrev pub ReadsSome : Reader → List TextSign → Reader → Result (Unit {0}) (Or TooLong) → Type 0
ReadsSome old some new (Ok done) = (all rest : List TextSign) → Wants all old (some ++ rest) → Wants all new rest
ReadsSome old some new (Err causes.NoMemory) = Unit {0}
ReadsSome old some new (Err (causes.Fault too_long)) = (all rest : List TextSign) → Wants all old (some ++ rest) → first_above (segments all) ≡ Some too_long.position

-- marks by the places where they begin, from a place on
abbrev pub Ordered : ℕ → List Mark → Type 0
Ordered place [] = Unit {0}
Ordered place (mark ∷ marks) = (place ≤ mark.from) × Ordered mark.from marks

-- the first of these marks, if there is one, begins at the place or after it
abbrev pub BeginFrom : ℕ → List Mark → Type 0
BeginFrom place [] = Unit {0}
BeginFrom place (mark ∷ marks) = place ≤ mark.from

-- the mark stands at this index, and begins before the place
pub record IsNext (marks : List Mark) (next place : ℕ) (mark : Mark) : Type 0 where
  pub below : next < length marks
  pub is : drop next marks ≡ mark ∷ drop (next + 1) marks
  pub begins : mark.from < place

-- The marks that begin before the place were passed, and no others.
pub record HasPassed (marks : List Mark) (passed : Passed) (place : ℕ) : Type 0 where
  pub within : passed.next ≤ length marks
  pub cover : IsCover passed.cover (take passed.next marks)
  pub before : All (λ mark. mark.from < place) (take passed.next marks)
  pub after : Ordered place (drop passed.next marks)

-- the marks that begin before a place were passed, and their tags read, or a word stands above the limit
abbrev pub PassesMarks : List Mark → Reader → Passed → ℕ → Reader → Result Passed (Or TooLong) → Type 0
PassesMarks marks old start to new (Ok passed) = (from : ℕ) → from ≤ to → HasPassed marks start from → HasPassed marks passed to × ((all rest : List TextSign) → Wants all old (tags_in marks from to ++ rest) → Wants all new rest)
PassesMarks marks old start to new (Err causes.NoMemory) = Unit {0}
PassesMarks marks old start to new (Err (causes.Fault too_long)) = (from : ℕ) → from ≤ to → HasPassed marks start from → (all rest : List TextSign) → Wants all old (tags_in marks from to ++ rest) → first_above (segments all) ≡ Some too_long.position

-- each span precedes those before it
abbrev pub Descend : List ZoneSpan → Type 0
Descend spans = AllPairs (λ a b. IsTrue (precedes b a)) spans

-- from the place on the spans precede this one, and the one before the place doesn't
pub record IsPlaceFor (spans : List ZoneSpan) (span : ZoneSpan) (place : ℕ) : Type 0 where
  pub beyond : (k : ℕ) (d : ZoneSpan) → place ≤ k → k < length spans → precedes (slice_index_or spans k d) span ≡ true
  pub before : (d : ZoneSpan) → 0 < place → precedes (slice_index_or spans (place - 1) d) span ≡ false

-- the spans were put among the others, unless they were there
pub record PutsSpans (old some new : List ZoneSpan) : Type 0 where
  pub descend : Descend new
  pub same : (span : ZoneSpan) → Contains new span ↔ (Contains old span ⊎ Contains some span)
