-- The tokens of a text.
use Rattle.std.specs.Prelude.{◌≡◌, ◌↔◌, ℕ, List, Option, Some, Result, Ok, Err, map, find, nat_lt, Contains}
use Rattle.std.specs.Str.{chars}
use Rattle.srch_base.specs.declared.faults.Or.{Or}
use Rattle.srch_base.specs.declared.faults.Or.TheVariants as causes
use Rattle.mark_scan.specs.declared.mark.Mark.{Mark}
use Rattle.mark_scan.specs.declared.mark.MarkRules.{MarkRules}
use Rattle.mark_scan.specs.Marks.{AreMarks}
use Rattle.doc_types.specs.declared.tokens.TheConstants.{MAX_POSITION}
use Rattle.doc_types.specs.declared.tokens.FieldTokens.{FieldTokens}
use Rattle.doc_types.specs.declared.tokens.TokenWord.{TokenWord}
use Rattle.doc_types.specs.declared.tokens.ZoneSpan.{ZoneSpan}
use Rattle.doc_types.specs.Documents.{Ascend}
use Rattle.doc_tokens.specs.declared.field.TooLong.{TooLong}
use Rattle.doc_tokens.specs.declared.sign.ZoneTag.{ZoneTag}
use Rattle.doc_tokens.specs.TextSigns.{signs_from}
use Rattle.doc_tokens.specs.Words.{Segment, segments, words_in, gaps_in, positions_in}
use Rattle.doc_tokens.specs.Spans.{tags_after, spans_of}

-- the segments of a text with these marks: its runs of letters, and what stands between them
abbrev pub segments_of : (ℕ → Option ℕ) → List ℕ → List Mark → List Segment
segments_of fold text marks = segments (signs_from fold marks 0 (chars text))

-- the words, with their boundaries and positions, are those of the segments
pub record AreWords (segments : List Segment) (words : List TokenWord) : Type 0 where
  pub spelled : map (λ word. word.word) words ≡ words_in segments
  pub gaps : map (λ word. word.gap) words ≡ gaps_in segments
  pub positions : map (λ word. word.position) words ≡ positions_in segments

-- the spans are those of the tags, in their order, each once
pub record AreSpans (positions : List ℕ) (tags : List ZoneTag) (spans : List ZoneSpan) : Type 0 where
  pub same : (span : ZoneSpan) → Contains spans span ↔ Contains (spans_of positions tags) span
  pub ascend : Ascend spans

-- these are the tokens of a text
pub record TokensOf (fold : ℕ → Option ℕ) (rules : MarkRules) (text : List ℕ) (tokens : FieldTokens) : Type 0 where
  pub marks : List Mark
  pub are : AreMarks fold rules text marks
  pub words : AreWords (segments_of fold text marks) tokens.words
  pub spans : AreSpans (positions_in (segments_of fold text marks)) (tags_after 0 (segments_of fold text marks)) tokens.spans

-- the first position of a word above the limit
abbrev pub first_above : List Segment → Option ℕ
first_above segments = find (λ position. nat_lt MAX_POSITION position) (positions_in segments)

-- a word of the text would stand above the limit, the first one at this position
pub record IsTooLong (fold : ℕ → Option ℕ) (rules : MarkRules) (text : List ℕ) (position : ℕ) : Type 0 where
  pub marks : List Mark
  pub are : AreMarks fold rules text marks
  pub first : first_above (segments_of fold text marks) ≡ Some position

-- what a text gives: its tokens, or the first position above the limit, or nothing for want of memory
abbrev pub Gives : (ℕ → Option ℕ) → MarkRules → List ℕ → Result FieldTokens (Or TooLong) → Type 0
Gives fold rules text (Ok tokens) = TokensOf fold rules text tokens
Gives fold rules text (Err causes.NoMemory) = Unit {0}
Gives fold rules text (Err (causes.Fault too_long)) = IsTooLong fold rules text too_long.position
