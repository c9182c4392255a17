-- Words: the maximal runs of letters, the boundaries between them, and their positions.
use Rattle.std.specs.Prelude.{ℕ, ◌+◌, List, [], ◌∷◌, ◌++◌, map, take, encode_utf8_all}
use Rattle.doc_types.specs.declared.tokens.TheConstants.{MAX_WORD_CHARS}
use Rattle.doc_types.specs.declared.tokens.Gap.{Gap}
use Rattle.doc_types.specs.declared.tokens.Gap.TheVariants as gaps
use Rattle.doc_types.specs.Documents.{step}
use Rattle.doc_tokens.specs.declared.sign.TextSign.{TextSign}
use Rattle.doc_tokens.specs.declared.sign.TextSign.TheVariants as signs

-- a segment of a text: a maximal run of letters, or a sign that is no letter
pub data Segment : Type 0 where
  run : List ℕ → Segment
  other : TextSign → Segment

-- the segments with a letter before them: it is of the run that begins there, or else a run of its own
abbrev pub with_letter : ℕ → List Segment → List Segment
with_letter c [] = run (c ∷ []) ∷ []
with_letter c (run cs ∷ segments) = run (c ∷ cs) ∷ segments
with_letter c (other sign ∷ segments) = run (c ∷ []) ∷ other sign ∷ segments

-- the segments with a sign before them
abbrev pub with_sign : TextSign → List Segment → List Segment
with_sign (signs.Letter c) segments = with_letter c segments
with_sign signs.Separator segments = other signs.Separator ∷ segments
with_sign signs.Sentence segments = other signs.Sentence ∷ segments
with_sign signs.Paragraph segments = other signs.Paragraph ∷ segments
with_sign (signs.Open zone) segments = other (signs.Open zone) ∷ segments
with_sign (signs.Close zone) segments = other (signs.Close zone) ∷ segments

-- the segments that signs are
abbrev pub segments : List TextSign → List Segment
segments [] = []
segments (sign ∷ rest) = with_sign sign (segments rest)

-- the signs of segments, one after the other
abbrev pub signs_of : List Segment → List TextSign
signs_of [] = []
signs_of (run letters ∷ segments) = map signs.Letter letters ++ signs_of segments
signs_of (other sign ∷ segments) = sign ∷ signs_of segments

-- Each run has letters, and none stands after another; what stands between runs is no letter.
abbrev pub AreMaximal : List Segment → Type 0
AreMaximal [] = Unit {0}
AreMaximal (run [] ∷ segments) = ⊥
AreMaximal (run (c ∷ letters) ∷ []) = Unit {0}
AreMaximal (run (c ∷ letters) ∷ run more ∷ segments) = ⊥
AreMaximal (run (c ∷ letters) ∷ other sign ∷ segments) = AreMaximal (other sign ∷ segments)
AreMaximal (other (signs.Letter c) ∷ segments) = ⊥
AreMaximal (other signs.Separator ∷ segments) = AreMaximal segments
AreMaximal (other signs.Sentence ∷ segments) = AreMaximal segments
AreMaximal (other signs.Paragraph ∷ segments) = AreMaximal segments
AreMaximal (other (signs.Open zone) ∷ segments) = AreMaximal segments
AreMaximal (other (signs.Close zone) ∷ segments) = AreMaximal segments

-- the word of a run: its letters, cut, in UTF-8
abbrev pub word_of : List ℕ → List ℕ
word_of letters = encode_utf8_all (take MAX_WORD_CHARS letters)

-- the words of the runs
abbrev pub words_in : List Segment → List (List ℕ)
words_in [] = []
words_in (run letters ∷ segments) = word_of letters ∷ words_in segments
words_in (other sign ∷ segments) = words_in segments

-- the boundary that a sign makes between the words around it
abbrev pub end_of : TextSign → Gap
end_of (signs.Letter c) = gaps.None
end_of signs.Separator = gaps.None
end_of signs.Sentence = gaps.Sentence
end_of signs.Paragraph = gaps.Paragraph
end_of (signs.Open zone) = gaps.None
end_of (signs.Close zone) = gaps.None

-- several boundaries in a row are one: the end of a paragraph if one of them is
abbrev pub stronger : Gap → Gap → Gap
stronger gaps.None gap = gap
stronger gaps.Sentence gaps.None = gaps.Sentence
stronger gaps.Sentence gaps.Sentence = gaps.Sentence
stronger gaps.Sentence gaps.Paragraph = gaps.Paragraph
stronger gaps.Paragraph gap = gaps.Paragraph

-- a boundary before the first of some words, besides those that stand there
abbrev pub with_end : Gap → List Gap → List Gap
with_end end [] = []
with_end end (gap ∷ rest) = stronger end gap ∷ rest

-- the boundary before each run, from the run before it on
abbrev pub ends_before : List Segment → List Gap
ends_before [] = []
ends_before (run letters ∷ segments) = gaps.None ∷ ends_before segments
ends_before (other sign ∷ segments) = with_end (end_of sign) (ends_before segments)

-- before the first word there is none
abbrev pub from_first : List Gap → List Gap
from_first [] = []
from_first (gap ∷ rest) = gaps.None ∷ rest

-- the boundaries before the words
abbrev pub gaps_in : List Segment → List Gap
gaps_in segments = from_first (ends_before segments)

-- the positions of words with these boundaries before them, after a word at this position: a boundary takes a position
abbrev pub positions_after : ℕ → List Gap → List ℕ
positions_after position [] = []
positions_after position (gap ∷ rest) = (position + step gap) ∷ positions_after (position + step gap) rest

-- the positions of the words: the first is 1
abbrev pub positions_in : List Segment → List ℕ
positions_in segments = positions_after 0 (gaps_in segments)
