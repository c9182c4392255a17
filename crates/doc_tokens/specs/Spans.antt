-- Spans: from the tag that opens a zone to the zone's next tag, or to the text's end, where words stand there.
use Rattle.std.specs.Prelude.{ℕ, ◌+◌, List, [], ◌∷◌, ◌++◌, true, false, ◌==◌, length, if◌then◌else◌, slice_range}
use Rattle.doc_types.specs.declared.tokens.ZoneSpan.{ZoneSpan}
use Rattle.doc_tokens.specs.declared.sign.TextSign.{TextSign}
use Rattle.doc_tokens.specs.declared.sign.TextSign.TheVariants as signs
use Rattle.doc_tokens.specs.declared.sign.ZoneTag.{ZoneTag}
use Rattle.doc_tokens.specs.Words.{Segment, run, other}

-- the tag of a zone that a sign is, after so many words
abbrev pub tag_of : ℕ → TextSign → List ZoneTag
tag_of words (signs.Letter c) = []
tag_of words signs.Separator = []
tag_of words signs.Sentence = []
tag_of words signs.Paragraph = []
tag_of words (signs.Open zone) = record { zone = zone; opens = true; words = words } ∷ []
tag_of words (signs.Close zone) = record { zone = zone; opens = false; words = words } ∷ []

-- the tags of zones among segments that stand after so many words
abbrev pub tags_after : ℕ → List Segment → List ZoneTag
tags_after words [] = []
tags_after words (run letters ∷ segments) = tags_after (words + 1) segments
tags_after words (other sign ∷ segments) = tag_of words sign ++ tags_after words segments

-- how many words stand before the end of an open zone: before its first tag among these, or all of the text
abbrev pub zone_end : ℕ → ℕ → List ZoneTag → ℕ
zone_end zone all [] = all
zone_end zone all (tag ∷ tags) = if tag.zone == zone then tag.words else zone_end zone all tags

-- the last of some positions
abbrev pub last_of : ℕ → List ℕ → ℕ
last_of position [] = position
last_of position (next ∷ rest) = last_of next rest

-- the span over words at these positions, if there are any
abbrev pub span_over : ℕ → List ℕ → List ZoneSpan
span_over zone [] = []
span_over zone (first ∷ rest) = record { zone = zone; first = first; last = last_of first rest } ∷ []

-- the span that a tag begins, by the positions of all words, where it ends before the word of this number
abbrev pub span_within : List ℕ → ZoneTag → ℕ → List ZoneSpan
span_within positions tag end = if tag.opens then span_over tag.zone (slice_range positions tag.words end) else []

-- the spans that hold a word, in the order of their opening tags, by the positions of all words
abbrev pub spans_of : List ℕ → List ZoneTag → List ZoneSpan
spans_of positions [] = []
spans_of positions (tag ∷ tags) = span_within positions tag (zone_end tag.zone (length positions) tags) ++ spans_of positions tags
