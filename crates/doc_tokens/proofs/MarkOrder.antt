-- The marks of a text begin in the order of their places.
use Rattle.std.proofs.Common.{◌≡◌, ℕ, ◌+◌, ◌<◌, ◌≤◌, Bool, true, false, List, [], ◌∷◌, ◌++◌, length, map, take, drop, get_or, IsUtf8, sym, ◌∙◌, ap, subst, arith, length-append, length-take-le, get_or-drop, encode_utf8_all}
use Rattle.std.specs.Prelude.{Option}
use Rattle.std.specs.Char.{encode_utf8, len_utf8}
use Rattle.std.specs.List.{AllByRecursion}
use Rattle.std.specs.Str.{chars, IsCharBoundary}
use Rattle.std.proofs.lemmas.Str.{encodes-chars, length-encode, IsUtf8-take, IsUtf8-drop, IsCharBoundary-after_ascii}
use Rattle.mark_scan.specs.declared.mark.Mark.{Mark}
use Rattle.mark_scan.specs.declared.mark.MarkKind.{MarkKind}
use Rattle.mark_scan.specs.declared.mark.MarkRules.{MarkRules}
use Rattle.mark_scan.specs.Markup.{TextPart, plain, comment, tag, part_bytes, BeginsWith, Splits}
use Rattle.mark_scan.specs.Marks.{sentences_of, part_marks, marks_after, run_before, run_of, IsWhole, PartsBy, AreMarks}
use Rattle.mark_scan.specs.Sentences.{ends_sentence, sentence_mark, sentence_marks}
use Rattle.mark_scan.specs.Tags.{span, tag_kinds}
use Rattle.mark_scan.proofs.Fronts.{markup_opens, byte_within}
use Rattle.mark_scan.proofs.Cuts.{part_within}
use Rattle.doc_tokens.specs.steps.TokenReader.{Ordered}
use Rattle.doc_tokens.proofs.Passing.{ordered_weaker}

-- marks by the places where they begin, from a place up to another
abbrev OrderedTo : ℕ → List Mark → ℕ → Type 0
OrderedTo low [] high = low ≤ high
OrderedTo low (mark ∷ marks) high = (low ≤ mark.from) × OrderedTo mark.from marks high

ordered_append : (low mid : ℕ) (first second : List Mark) → OrderedTo low first mid → Ordered mid second → Ordered low (first ++ second)
ordered_append low mid [] second ordered beyond = ordered_weaker low mid second ordered beyond
ordered_append low mid (mark ∷ first) second ordered beyond = (ordered.0, ordered_append mark.from mid first second ordered.1 beyond)

to_weaker : (low mid high : ℕ) (marks : List Mark) → low ≤ mid → OrderedTo mid marks high → OrderedTo low marks high
to_weaker low mid high [] below ordered = let beyond = ordered in omega (arith, beyond)
to_weaker low mid high (mark ∷ marks) below ordered = let from = ordered.0 in (omega (arith, from), ordered.1)

-- the ends of sentences
one_end : (ends : Bool) (place width high : ℕ) (marks : List Mark) → OrderedTo (place + width) marks high → OrderedTo place (sentence_mark ends place ++ marks) high
one_end false place width high marks ordered = to_weaker place (place + width) high marks (omega arith) ordered
one_end true place width high marks ordered = (omega arith, to_weaker place (place + width) high marks (omega arith) ordered)

ends_ordered : (fold : ℕ → Option ℕ) (place : ℕ) (before cs after : List ℕ) → OrderedTo place (sentence_marks fold place before cs after) (place + length (encode_utf8_all cs))
ends_ordered fold place before [] after = omega arith
ends_ordered fold place before (c ∷ cs) after =
    let rest = ends_ordered fold (place + len_utf8 c) (c ∷ before) cs after in
    let size : place + len_utf8 c + length (encode_utf8_all cs) ≡ place + length (encode_utf8_all (c ∷ cs)) = omega (arith, length-append (encode_utf8 c) (encode_utf8_all cs), length-encode c) in
    one_end (ends_sentence fold before c (cs ++ after)) place (len_utf8 c) (place + length (encode_utf8_all (c ∷ cs))) (sentence_marks fold (place + len_utf8 c) (c ∷ before) cs after)
    (subst (OrderedTo (place + len_utf8 c) (sentence_marks fold (place + len_utf8 c) (c ∷ before) cs after)) size rest)

sentences_ordered : (sp : Bool) (fold : ℕ → Option ℕ) (place : ℕ) (before bytes after : List ℕ) → IsUtf8 bytes → OrderedTo place (sentences_of sp fold place before (chars bytes) after) (place + length bytes)
sentences_ordered false fold place before bytes after utf8 = omega arith
sentences_ordered true fold place before bytes after utf8 =
    subst (λ (bs : List ℕ). OrderedTo place (sentence_marks fold place before (chars bytes) after) (place + length bs)) (encodes-chars bytes utf8) (ends_ordered fold place before (chars bytes) after)

-- the marks of a tag
kinds_ordered : (place size : ℕ) (kinds : List MarkKind) → OrderedTo place (map (span place (place + size)) kinds) (place + size)
kinds_ordered place size [] = omega arith
kinds_ordered place size (kind ∷ kinds) = (omega arith, kinds_ordered place size kinds)

-- the marks of a part
part_ordered : (fold : ℕ → Option ℕ) (rules : MarkRules) (place : ℕ) (before : List TextPart) (part : TextPart) (after : List TextPart) → IsUtf8 (part_bytes part) → OrderedTo place (part_marks fold rules place before part after) (place + length (part_bytes part))
part_ordered fold rules place before (plain bytes) after utf8 = (omega arith, sentences_ordered rules.sp fold place (run_before rules.zones before) bytes (chars (run_of rules.zones after)) utf8)
part_ordered fold rules place before (comment bytes) after utf8 = omega arith
part_ordered fold rules place before (tag t) after utf8 = kinds_ordered place (length t.text) (tag_kinds rules.sp rules.zones t)

-- parts that are UTF-8
abbrev EachUtf8 : List TextPart → Type 0
EachUtf8 parts = AllByRecursion (λ part. IsUtf8 (part_bytes part)) parts

parts_ordered : (fold : ℕ → Option ℕ) (rules : MarkRules) (place : ℕ) (before parts : List TextPart) → EachUtf8 parts → Ordered place (marks_after fold rules place before parts)
parts_ordered fold rules place before [] utf8 = tt
parts_ordered fold rules place before (part ∷ parts) utf8 =
    ordered_append place (place + length (part_bytes part)) (part_marks fold rules place before part parts) _
    (part_ordered fold rules place before part parts utf8.0)
    (parts_ordered fold rules (place + length (part_bytes part)) (part ∷ before) parts utf8.1)

-- A text is cut after a part at the beginning of a character.
pub record CutAt (text : List ℕ) (part : TextPart) : Type 0 where
  pub boundary : IsCharBoundary text (length (part_bytes part))
  pub front : part_bytes part ≡ take (length (part_bytes part)) text

after_byte : (text bytes : List ℕ) (last byte : ℕ) → IsUtf8 text → get_or text last 0 ≡ byte → 0 < byte → byte < 128 → bytes ≡ take (last + 1) text → IsCharBoundary text (length bytes) × (bytes ≡ take (length bytes) text)
after_byte text bytes last byte utf8 is some ascii front =
    let within = byte_within text last (omega (arith, is)) in
    let size : length bytes ≡ last + 1 = ap length front ∙ length-take-le (last + 1) text (omega (arith, within)) in
    (subst (IsCharBoundary text) (sym size) (IsCharBoundary-after_ascii text last utf8 within (omega (arith, is))), front ∙ ap (λ (n : ℕ). take n text) (sym size))

cut_at : (text : List ℕ) (part : TextPart) → IsUtf8 text → BeginsWith text part → CutAt text part
cut_at text (plain bytes) utf8 begins = record {
  boundary = (
    part_within text (plain bytes) begins,
    λ below high.
        let opens = sym (get_or-drop (length bytes) text 0 0) ∙ markup_opens (drop (length bytes) text) (begins.up_to below) in
        let same : get_or text (length bytes + 0) 0 ≡ get_or text (length bytes) 0 = ap (λ (n : ℕ). get_or text n 0) (omega arith) in
        absurd (omega (arith, opens, same, high)),
  );
  front = begins.front;
}
cut_at text (comment bytes) utf8 begins =
    let third : get_or text (begins.end + 2) 0 ≡ 62 = begins.begins.ends.third in
    let cut = after_byte text bytes (begins.end + 2) 62 utf8 third (omega arith) (omega arith) (begins.is ∙ ap (λ (n : ℕ). take n text) (omega arith)) in
    record { boundary = cut.0; front = cut.1 }
cut_at text (tag t) utf8 begins =
    let cut = after_byte text t.text begins.last 62 utf8 begins.begins.closes (omega arith) (omega arith) begins.is in
    record { boundary = cut.0; front = cut.1 }

split_utf8 : (text : List ℕ) (parts : List TextPart) → IsUtf8 text → Splits text parts [] → EachUtf8 parts
split_utf8 text [] utf8 splits = tt
split_utf8 text (part ∷ parts) utf8 splits =
    let cut = cut_at text part utf8 splits.0 in
    let n = length (part_bytes part) in (
      subst IsUtf8 (sym cut.front) (IsUtf8-take text n utf8 cut.boundary),
      split_utf8 (drop n text) parts (IsUtf8-drop text n utf8 cut.boundary) splits.1,
    )

whole_utf8 : (text : List ℕ) (parts : List TextPart) → IsUtf8 text → IsWhole text parts → EachUtf8 parts
whole_utf8 [] parts utf8 is = subst EachUtf8 (sym is) tt
whole_utf8 (b ∷ bytes) parts utf8 is = subst EachUtf8 (sym is) (utf8, tt)

parts_utf8 : (strip : Bool) (text : List ℕ) (parts : List TextPart) → IsUtf8 text → PartsBy strip text parts → EachUtf8 parts
parts_utf8 true text parts utf8 are = split_utf8 text parts utf8 are
parts_utf8 false text parts utf8 are = whole_utf8 text parts utf8 are

-- the marks of a text are in order
pub marks_ordered : (fold : ℕ → Option ℕ) (rules : MarkRules) (text : List ℕ) (marks : List Mark) → IsUtf8 text → AreMarks fold rules text marks → Ordered 0 marks
marks_ordered fold rules text marks utf8 are =
    subst (Ordered 0) (sym are.marks_are) (parts_ordered fold rules 0 [] are.parts (parts_utf8 rules.strip text are.parts utf8 are.are))
