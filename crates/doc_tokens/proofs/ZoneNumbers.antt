-- The numbers of zones are those of the rules.
use Rattle.std.proofs.Common.{◌≡◌, ℕ, ◌+◌, ◌<◌, Bool, true, false, cond, ◌&&◌, List, [], ◌∷◌, ◌++◌, All, length, map, refl, sym, subst}
use Rattle.std.specs.Prelude.{Option, Some, None, filter, option_to_list}
use Rattle.std.specs.Char.{len_utf8}
use Rattle.std.specs.List.{AllByRecursion, flat_map}
use Rattle.std.specs.Str.{chars, str_eq_ignore_ascii_case}
use Rattle.std.proofs.lemmas.List.Elements.{All-from_recursion}
use Rattle.std.proofs.lemmas.List.Quantifiers.{position-Some}
use Rattle.mark_scan.specs.declared.mark.Mark.{Mark}
use Rattle.mark_scan.specs.declared.mark.MarkKind.{MarkKind}
use Rattle.mark_scan.specs.declared.mark.MarkKind.TheVariants as kinds
use Rattle.mark_scan.specs.declared.mark.MarkRules.{MarkRules}
use Rattle.mark_scan.specs.Markup.{TextPart, plain, comment, tag, TagText, part_bytes}
use Rattle.mark_scan.specs.Marks.{sentences_of, part_marks, marks_after, run_before, run_of, AreMarks}
use Rattle.mark_scan.specs.Sentences.{ends_sentence, sentence_mark, sentence_marks}
use Rattle.mark_scan.specs.Tags.{span, is_removed, is_among, block_tags, paragraph_kind, zone_of, span_kind, zone_kind, tag_kinds}
use Rattle.doc_tokens.specs.declared.sign.TextSign.{TextSign}
use Rattle.doc_tokens.specs.declared.sign.TextSign.TheVariants as signs
use Rattle.doc_tokens.specs.declared.sign.ZoneTag.{ZoneTag}
use Rattle.doc_tokens.specs.TextSigns.{is_text, is_removed_tag, is_sentence_end, is_covered, run_sign, char_signs, tag_signs, begins_in, tags_in, signs_from}
use Rattle.doc_tokens.specs.Words.{Segment, run, other, with_letter, with_sign, segments}
use Rattle.doc_tokens.specs.Spans.{tag_of, tags_after}
use Rattle.doc_tokens.specs.Tokens.{segments_of}

-- lists of which each element has a property
each_append : {X : Type 0} (P : X → Type 0) (first second : List X) → AllByRecursion P first → AllByRecursion P second → AllByRecursion P (first ++ second)
each_append P [] second has beyond = beyond
each_append P (x ∷ first) second has beyond = (has.0, each_append P first second has.1 beyond)

-- the zone that a mark opens or closes is below a number
abbrev KindBelow : ℕ → MarkKind → Type 0
KindBelow n kinds.Text = Unit {0}
KindBelow n kinds.Inline = Unit {0}
KindBelow n kinds.Sentence = Unit {0}
KindBelow n kinds.Paragraph = Unit {0}
KindBelow n (kinds.Open zone) = zone < n
KindBelow n (kinds.Close zone) = zone < n

abbrev MarksBelow : ℕ → List Mark → Type 0
MarksBelow n marks = AllByRecursion (λ mark. KindBelow n mark.kind) marks

abbrev KindsBelow : ℕ → List MarkKind → Type 0
KindsBelow n list = AllByRecursion (KindBelow n) list

-- ends of sentences
one_end : (n : ℕ) (ends : Bool) (place : ℕ) (marks : List Mark) → MarksBelow n marks → MarksBelow n (sentence_mark ends place ++ marks)
one_end n false place marks below = below
one_end n true place marks below = (tt, below)

ends_below : (n : ℕ) (fold : ℕ → Option ℕ) (place : ℕ) (before cs after : List ℕ) → MarksBelow n (sentence_marks fold place before cs after)
ends_below n fold place before [] after = tt
ends_below n fold place before (c ∷ cs) after = one_end n (ends_sentence fold before c (cs ++ after)) place _ (ends_below n fold (place + len_utf8 c) (c ∷ before) cs after)

sentences_below : (n : ℕ) (sp : Bool) (fold : ℕ → Option ℕ) (place : ℕ) (before cs after : List ℕ) → MarksBelow n (sentences_of sp fold place before cs after)
sentences_below n false fold place before cs after = tt
sentences_below n true fold place before cs after = ends_below n fold place before cs after

-- what a tag does to its zone
paragraph_below : (n : ℕ) (some : Bool) → KindsBelow n (option_to_list (cond some (Some kinds.Paragraph) None))
paragraph_below n true = (tt, tt)
paragraph_below n false = tt

number_below : (zones : List (List ℕ)) (name : List ℕ) (closing : Bool) (number : Option ℕ) → zone_of zones name ≡ number → KindsBelow (length zones) (option_to_list (span_kind closing number))
number_below zones name closing None is = tt
number_below zones name true (Some zone) is = let at = position-Some (λ z. str_eq_ignore_ascii_case z name) zones zone [] is in (at.0, tt)
number_below zones name false (Some zone) is = let at = position-Some (λ z. str_eq_ignore_ascii_case z name) zones zone [] is in (at.0, tt)

zone_below : (zones : List (List ℕ)) (t : TagText) (empty : Bool) → KindsBelow (length zones) (option_to_list (cond empty None (span_kind t.closing (zone_of zones t.name))))
zone_below zones t true = tt
zone_below zones t false = number_below zones t.name t.closing (zone_of zones t.name) refl

kinds_below : (sp : Bool) (zones : List (List ℕ)) (t : TagText) → KindsBelow (length zones) (tag_kinds sp zones t)
unfolding tag_kinds paragraph_kind zone_kind
kinds_below sp zones t =
    let kept : KindsBelow (length zones) (option_to_list (paragraph_kind sp t.name) ++ option_to_list (zone_kind zones t)) =
    each_append (KindBelow (length zones)) (option_to_list (paragraph_kind sp t.name)) (option_to_list (zone_kind zones t)) (paragraph_below (length zones) (sp && is_among block_tags t.name)) (zone_below zones t t.empty) in
    elim (is_removed zones t.name) as (λ b. KindsBelow (length zones) (cond b (kinds.Inline ∷ []) (option_to_list (paragraph_kind sp t.name) ++ option_to_list (zone_kind zones t)))) [ true ↦ (tt, tt) | false ↦ kept ]

spans_below : (n from to : ℕ) (list : List MarkKind) → KindsBelow n list → MarksBelow n (map (span from to) list)
spans_below n from to [] below = tt
spans_below n from to (kind ∷ list) below = (below.0, spans_below n from to list below.1)

part_below : (fold : ℕ → Option ℕ) (rules : MarkRules) (place : ℕ) (before : List TextPart) (part : TextPart) (after : List TextPart) → MarksBelow (length rules.zones) (part_marks fold rules place before part after)
part_below fold rules place before (plain bytes) after = (tt, sentences_below (length rules.zones) rules.sp fold place (run_before rules.zones before) (chars bytes) (chars (run_of rules.zones after)))
part_below fold rules place before (comment bytes) after = tt
part_below fold rules place before (tag t) after = spans_below (length rules.zones) place (place + length t.text) (tag_kinds rules.sp rules.zones t) (kinds_below rules.sp rules.zones t)

parts_below : (fold : ℕ → Option ℕ) (rules : MarkRules) (place : ℕ) (before parts : List TextPart) → MarksBelow (length rules.zones) (marks_after fold rules place before parts)
parts_below fold rules place before [] = tt
parts_below fold rules place before (part ∷ parts) =
    each_append (λ (m : Mark). KindBelow (length rules.zones) m.kind) (part_marks fold rules place before part parts) _
    (part_below fold rules place before part parts)
    (parts_below fold rules (place + length (part_bytes part)) (part ∷ before) parts)

-- the same of signs
abbrev SignBelow : ℕ → TextSign → Type 0
SignBelow n (signs.Letter c) = Unit {0}
SignBelow n signs.Separator = Unit {0}
SignBelow n signs.Sentence = Unit {0}
SignBelow n signs.Paragraph = Unit {0}
SignBelow n (signs.Open zone) = zone < n
SignBelow n (signs.Close zone) = zone < n

abbrev SignsBelow : ℕ → List TextSign → Type 0
SignsBelow n list = AllByRecursion (SignBelow n) list

tag_below : (n : ℕ) (kind : MarkKind) → KindBelow n kind → SignsBelow n (tag_signs kind)
tag_below n kinds.Text below = tt
tag_below n kinds.Inline below = tt
tag_below n kinds.Sentence below = tt
tag_below n kinds.Paragraph below = (tt, tt)
tag_below n (kinds.Open zone) below = (below, tt)
tag_below n (kinds.Close zone) below = (below, tt)

tags_below : (n : ℕ) (marks : List Mark) (from to : ℕ) → MarksBelow n marks → SignsBelow n (tags_in marks from to)
tags_below n [] from to below = tt
tags_below n (mark ∷ marks) from to below =
    let rest = tags_below n marks from to below.1 in
    let signs_of : List Mark → List TextSign = flat_map (λ (m : Mark). tag_signs m.kind) in
    elim (begins_in from to mark) as (λ b. SignsBelow n (signs_of (cond b (mark ∷ filter (begins_in from to) marks) (filter (begins_in from to) marks)))) [ true ↦ each_append (SignBelow n) (tag_signs mark.kind) (tags_in marks from to) (tag_below n mark.kind below.0) rest | false ↦ rest ]

run_below : (n : ℕ) (folded : Option ℕ) (ends : Bool) → SignBelow n (run_sign folded ends)
run_below n (Some c) ends = tt
run_below n None true = tt
run_below n None false = tt

choice_below : (n : ℕ) (text removed : Bool) (sign : TextSign) → SignBelow n sign → SignsBelow n (cond text (sign ∷ []) (cond removed [] (signs.Separator ∷ [])))
choice_below n true removed sign below = (below, tt)
choice_below n false true sign below = tt
choice_below n false false sign below = (tt, tt)

signs_below : (n : ℕ) (fold : ℕ → Option ℕ) (marks : List Mark) (place : ℕ) (cs : List ℕ) → MarksBelow n marks → SignsBelow n (signs_from fold marks place cs)
signs_below n fold marks place [] below = tt
signs_below n fold marks place (c ∷ cs) below =
    let end = place + len_utf8 c in
    each_append (SignBelow n) (tags_in marks place end) (char_signs fold marks place end c ++ signs_from fold marks end cs) (tags_below n marks place end below)
    (each_append (SignBelow n) (char_signs fold marks place end c) (signs_from fold marks end cs)
    (choice_below n (is_covered is_text marks place end) (is_covered is_removed_tag marks place end) (run_sign (fold c) (is_covered is_sentence_end marks place end)) (run_below n (fold c) (is_covered is_sentence_end marks place end)))
    (signs_below n fold marks end cs below))

-- the same of segments
abbrev SegmentBelow : ℕ → Segment → Type 0
SegmentBelow n (run letters) = Unit {0}
SegmentBelow n (other sign) = SignBelow n sign

abbrev SegmentsBelow : ℕ → List Segment → Type 0
SegmentsBelow n list = AllByRecursion (SegmentBelow n) list

letter_below : (n c : ℕ) (list : List Segment) → SegmentsBelow n list → SegmentsBelow n (with_letter c list)
letter_below n c [] below = (tt, tt)
letter_below n c (run letters ∷ list) below = (tt, below.1)
letter_below n c (other sign ∷ list) below = (tt, below)

sign_below : (n : ℕ) (sign : TextSign) (list : List Segment) → SignBelow n sign → SegmentsBelow n list → SegmentsBelow n (with_sign sign list)
sign_below n (signs.Letter c) list below rest = letter_below n c list rest
sign_below n signs.Separator list below rest = (tt, rest)
sign_below n signs.Sentence list below rest = (tt, rest)
sign_below n signs.Paragraph list below rest = (tt, rest)
sign_below n (signs.Open zone) list below rest = (below, rest)
sign_below n (signs.Close zone) list below rest = (below, rest)

segments_below : (n : ℕ) (list : List TextSign) → SignsBelow n list → SegmentsBelow n (segments list)
segments_below n [] below = tt
segments_below n (sign ∷ list) below = sign_below n sign (segments list) below.0 (segments_below n list below.1)

-- and of tags among words
abbrev TagsBelow : ℕ → List ZoneTag → Type 0
TagsBelow n tags = AllByRecursion (λ tag. tag.zone < n) tags

tag_of_below : (n words : ℕ) (sign : TextSign) → SignBelow n sign → TagsBelow n (tag_of words sign)
tag_of_below n words (signs.Letter c) below = tt
tag_of_below n words signs.Separator below = tt
tag_of_below n words signs.Sentence below = tt
tag_of_below n words signs.Paragraph below = tt
tag_of_below n words (signs.Open zone) below = (below, tt)
tag_of_below n words (signs.Close zone) below = (below, tt)

tags_after_below : (n words : ℕ) (list : List Segment) → SegmentsBelow n list → TagsBelow n (tags_after words list)
tags_after_below n words [] below = tt
tags_after_below n words (run letters ∷ list) below = tags_after_below n (words + 1) list below.1
tags_after_below n words (other sign ∷ list) below = each_append (λ (t : ZoneTag). t.zone < n) (tag_of words sign) (tags_after words list) (tag_of_below n words sign below.0) (tags_after_below n words list below.1)

-- the tags of a text are those of zones of its rules
pub tags_of_zones : (fold : ℕ → Option ℕ) (rules : MarkRules) (text : List ℕ) (marks : List Mark) → AreMarks fold rules text marks → All (λ tag. tag.zone < length rules.zones) (tags_after 0 (segments_of fold text marks))
tags_of_zones fold rules text marks are =
    let n = length rules.zones in
    let below : MarksBelow n marks = subst (MarksBelow n) (sym are.marks_are) (parts_below fold rules 0 [] are.parts) in
    All-from_recursion (λ (t : ZoneTag). t.zone < n) (tags_after 0 (segments_of fold text marks))
    (tags_after_below n 0 (segments_of fold text marks) (segments_below n (signs_from fold marks 0 (chars text)) (signs_below n fold marks 0 (chars text) below)))
