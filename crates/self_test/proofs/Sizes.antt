-- How long the tokens of a short text are.
use Rattle.std.proofs.Common.{◌≡◌, ◌≤◌, ℕ, zero, suc, ◌+◌, ◌*◌, List, [], ◌∷◌, ◌++◌, Bool, true, false, cond, Option, Some, None, map, length, refl, sym, ap, subst, ◌∙◌, arith, length-append, append-nil}
use Rattle.std.proofs.lemmas.Bool.Decides.{nat_tests}
use Rattle.std.proofs.lemmas.List.{length-take}
use Rattle.std.proofs.lemmas.List.Sums.{sum_by-cons}
use Rattle.std.specs.Prelude.{find, nat_lt, sum_by, take, encode_utf8_all, encode_utf8}
use Rattle.std.specs.List.{flat_map, Contains}
use Rattle.std.specs.Str.{chars}
use Rattle.std.specs.Char.{len_utf8}
use Rattle.doc_types.specs.declared.tokens.TheConstants.{MAX_WORD_CHARS}
use Rattle.std.proofs.lemmas.Str.{encodes-chars, length-le-encodes, length-encode, len_utf8_bounds}
use Rattle.std.specs.Str.{IsUtf8}
use Rattle.mark_scan.specs.declared.mark.Mark.{Mark}
use Rattle.mark_scan.specs.declared.mark.MarkKind.{MarkKind}
use Rattle.mark_scan.specs.declared.mark.MarkKind.TheVariants as kinds
use Rattle.mark_scan.specs.declared.mark.MarkRules.{MarkRules}
use Rattle.mark_scan.specs.Markup.{TextPart}
use Rattle.mark_scan.specs.Marks.{AreMarks, PartsBy, IsWhole, marks_after}
use Rattle.doc_types.specs.declared.tokens.TheConstants.{MAX_POSITION}
use Rattle.doc_types.specs.declared.tokens.FieldTokens.{FieldTokens}
use Rattle.doc_types.specs.declared.tokens.Gap.{Gap}
use Rattle.doc_types.specs.declared.tokens.Gap.TheVariants as gaps
use Rattle.doc_types.specs.declared.tokens.TokenWord.{TokenWord}
use Rattle.doc_types.specs.declared.tokens.ZoneSpan.{ZoneSpan}
use Rattle.doc_types.specs.Documents.{step}
use Rattle.doc_types.specs.Payloads.{field_length, word_length}
use Rattle.doc_tokens.specs.declared.sign.TextSign.{TextSign}
use Rattle.doc_tokens.specs.declared.sign.TextSign.TheVariants as signs
use Rattle.doc_tokens.specs.Spans.{tags_after}
use Rattle.doc_tokens.specs.TextSigns.{begins_in, is_covered, is_removed_tag, is_sentence_end, is_text, run_sign, signs_from, tag_signs, tags_in}
use Rattle.doc_tokens.specs.Tokens.{AreSpans, IsTooLong, TokensOf, first_above, segments_of}
use Rattle.doc_tokens.specs.Words.{Segment, run, other, end_of, ends_before, from_first, gaps_in, positions_after, positions_in, segments, with_end, with_letter, with_sign, word_of, words_in}

-- A sign that is no tag.
abbrev IsPlain : TextSign → Type 0
IsPlain (signs.Letter c) = Unit {0}
IsPlain signs.Separator = Unit {0}
IsPlain signs.Sentence = Unit {0}
IsPlain signs.Paragraph = ⊥
IsPlain (signs.Open zone) = ⊥
IsPlain (signs.Close zone) = ⊥

-- such signs, no more than so many
abbrev ArePlain : ℕ → List TextSign → Type 0
ArePlain most [] = Unit {0}
ArePlain zero (sign ∷ rest) = ⊥
ArePlain (suc most) (sign ∷ rest) = IsPlain sign × ArePlain most rest

-- A mark of a piece of text.
pub record IsText (mark : Mark) : Type 0 where
  pub is : mark.kind ≡ kinds.Text

-- at most one mark, of a text
abbrev pub AreText : List Mark → Type 0
AreText [] = Unit {0}
AreText (mark ∷ marks) = IsText mark × (marks ≡ [])

no_tag : (kind : MarkKind) → kind ≡ kinds.Text → tag_signs kind ≡ []
no_tag kind is = rw is refl

one_filtered : (mark : Mark) (b : Bool) → IsText mark → flat_map (λ (m : Mark). tag_signs m.kind) (cond b (mark ∷ []) []) ≡ []
one_filtered mark true is = append-nil (tag_signs mark.kind) ∙ no_tag mark.kind is.is
one_filtered mark false is = refl

no_tags : (marks : List Mark) (from to : ℕ) → AreText marks → tags_in marks from to ≡ []
no_tags [] from to are = refl
no_tags (mark ∷ marks) from to (is, none) = rw none (one_filtered mark (begins_in from to mark) is)

one_more : (most : ℕ) (list : List TextSign) → ArePlain most list → ArePlain (suc most) list
one_more most [] plain = tt
one_more zero (sign ∷ rest) plain = absurd plain
one_more (suc most) (sign ∷ rest) (one, plain) = (one, one_more most rest plain)

run_plain : (letter : Option ℕ) (ends : Bool) → IsPlain (run_sign letter ends)
run_plain (Some letter) ends = tt
run_plain None true = tt
run_plain None false = tt

char_plain : (text removed : Bool) (sign : TextSign) (most : ℕ) (rest : List TextSign) → IsPlain sign → ArePlain most rest
    → ArePlain (suc most) (cond text (sign ∷ []) (cond removed [] (signs.Separator ∷ [])) ++ rest)
char_plain true removed sign most rest one plain = (one, plain)
char_plain false true sign most rest one others = one_more most rest others
char_plain false false sign most rest one plain = (tt, plain)

-- the signs of a text that is one piece
signs_plain : (fold : ℕ → Option ℕ) (marks : List Mark) (place : ℕ) (cs : List ℕ) → AreText marks → ArePlain (length cs) (signs_from fold marks place cs)
signs_plain fold marks place [] are = tt
signs_plain fold marks place (c ∷ cs) are =
    let to : ℕ = place + len_utf8 c in
    let rest : ArePlain (length cs) (signs_from fold marks to cs) = signs_plain fold marks to cs are in
    rw (no_tags marks place to are) (char_plain (is_covered is_text marks place to) (is_covered is_removed_tag marks place to) (run_sign (fold c) (is_covered is_sentence_end marks place to)) (length cs)
    (signs_from fold marks to cs) (run_plain (fold c) (is_covered is_sentence_end marks place to)) rest)

-- how many bytes the words of segments take at most
abbrev cost : List Segment → ℕ
cost [] = 0
cost (run letters ∷ list) = 2 + 4 * length letters + cost list
cost (other sign ∷ list) = cost list

cost_letter : (c : ℕ) (list : List Segment) → cost (with_letter c list) ≤ 6 + cost list
cost_letter c [] = omega arith
cost_letter c (run cs ∷ list) = omega arith
cost_letter c (other sign ∷ list) = omega arith

cost_sign : (sign : TextSign) (list : List Segment) → IsPlain sign → cost (with_sign sign list) ≤ 6 + cost list
cost_sign (signs.Letter c) list plain = cost_letter c list
cost_sign signs.Separator list plain = omega arith
cost_sign signs.Sentence list plain = omega arith
cost_sign signs.Paragraph list plain = absurd plain
cost_sign (signs.Open zone) list plain = absurd plain
cost_sign (signs.Close zone) list plain = absurd plain

cost_all : (most : ℕ) (list : List TextSign) → ArePlain most list → cost (segments list) ≤ 6 * most
cost_all most [] plain = omega arith
cost_all zero (sign ∷ rest) plain = absurd plain
cost_all (suc most) (sign ∷ rest) (one, plain) = omega (arith, cost_sign sign (segments rest) one, cost_all most rest plain)

encoded_short : (cs : List ℕ) → length (encode_utf8_all cs) ≤ 4 * length cs
encoded_short [] = omega arith
encoded_short (c ∷ cs) = omega (arith, length-append (encode_utf8 c) (encode_utf8_all cs), length-encode c, (len_utf8_bounds c).1, encoded_short cs)

word_short : (letters : List ℕ) → length (word_of letters) ≤ 4 * length letters
word_short letters = omega (arith, encoded_short (take MAX_WORD_CHARS letters), length-take MAX_WORD_CHARS letters)

words_cost : (list : List Segment) → sum_by (λ (word : List ℕ). 2 + length word) (words_in list) ≤ cost list
words_cost [] = omega arith
words_cost (run letters ∷ list) = omega (arith, sum_by-cons (λ (word : List ℕ). 2 + length word) (word_of letters) (words_in list), word_short letters, words_cost list)
words_cost (other sign ∷ list) = words_cost list

by_spelling : (words : List TokenWord) → sum_by word_length words ≡ sum_by (λ (word : List ℕ). 2 + length word) (map (λ (word : TokenWord). word.word) words)
by_spelling [] = refl
by_spelling (word ∷ words) =
    sum_by-cons word_length word words ∙ ap (λ (n : ℕ). 2 + length word.word + n) (by_spelling words)
    ∙ sym (sum_by-cons (λ (w : List ℕ). 2 + length w) word.word (map (λ (w : TokenWord). w.word) words))

long_end : (end : Gap) (list : List Gap) → length (with_end end list) ≡ length list
long_end end [] = refl
long_end end (gap ∷ rest) = refl

long_first : (list : List Gap) → length (from_first list) ≡ length list
long_first [] = refl
long_first (gap ∷ rest) = refl

ends_few : (list : List Segment) → 2 * length (ends_before list) ≤ cost list
ends_few [] = omega arith
ends_few (run letters ∷ list) = omega (arith, ends_few list)
ends_few (other sign ∷ list) = omega (arith, long_end (end_of sign) (ends_before list), ends_few list)

step_small : (gap : Gap) → step gap ≤ 2
step_small gaps.None = omega arith
step_small gaps.Sentence = omega arith
step_small gaps.Paragraph = omega arith

not_less : (a b : ℕ) → b ≤ a → nat_lt a b ≡ false
not_less a b least = grind (arith, nat_tests)

find_next : {X : Type 0} (p : X → Bool) (x : X) (xs : List X) → p x ≡ false → find p xs ≡ None → find p (x ∷ xs) ≡ None
find_next p x xs fails none = rw fails none

below_limit : (position : ℕ) (list : List Gap) → position + 2 * length list ≤ MAX_POSITION → find (λ (p : ℕ). nat_lt MAX_POSITION p) (positions_after position list) ≡ None
below_limit position [] below = refl
below_limit position (gap ∷ rest) below =
    let next : ℕ = position + step gap in
    let small : next + 2 * length rest ≤ MAX_POSITION = omega (arith, below, step_small gap) in
    find_next (λ (p : ℕ). nat_lt MAX_POSITION p) next (positions_after next rest) (not_less MAX_POSITION next (omega (arith, small))) (below_limit next rest small)

-- no tag stands among plain signs
abbrev HasNoTag : List Segment → Type 0
HasNoTag list = (words : ℕ) → tags_after words list ≡ []

letter_no_tag : (c : ℕ) (list : List Segment) → HasNoTag list → HasNoTag (with_letter c list)
letter_no_tag c [] none = λ words. refl
letter_no_tag c (run cs ∷ list) none = λ words. none words
letter_no_tag c (other sign ∷ list) none = λ words. none (words + 1)

sign_no_tag : (sign : TextSign) (list : List Segment) → IsPlain sign → HasNoTag list → HasNoTag (with_sign sign list)
sign_no_tag (signs.Letter c) list plain none = letter_no_tag c list none
sign_no_tag signs.Separator list plain none = λ words. none words
sign_no_tag signs.Sentence list plain none = λ words. none words
sign_no_tag signs.Paragraph list plain none = absurd plain
sign_no_tag (signs.Open zone) list plain none = absurd plain
sign_no_tag (signs.Close zone) list plain none = absurd plain

plain_no_tag : (most : ℕ) (list : List TextSign) → ArePlain most list → HasNoTag (segments list)
plain_no_tag most [] plain = λ words. refl
plain_no_tag zero (sign ∷ rest) plain = absurd plain
plain_no_tag (suc most) (sign ∷ rest) (one, plain) = sign_no_tag sign (segments rest) one (plain_no_tag most rest plain)

contains_none : {X : Type 0} (x : X) → Contains [] x → ⊥
contains_none x (k, below, is) = omega (arith, below)

spans_none : (positions : List ℕ) (spans : List ZoneSpan) → AreSpans positions [] spans → spans ≡ []
spans_none positions [] are = refl
spans_none positions (span ∷ spans) are = absurd (contains_none span ((are.same span).0 (0, omega arith, refl)))

-- the marks of a text without markup
module _ (fold : ℕ → Option ℕ) (rules : MarkRules) (text : List ℕ) (strip : rules.strip ≡ false) (sp : rules.sp ≡ false) where
  whole_text : (whole : List ℕ) (parts : List TextPart) (marks : List Mark) → IsWhole whole parts → marks ≡ marks_after fold rules 0 [] parts → AreText marks
  whole_text [] parts marks is are = rw (are, is) tt
  whole_text (byte ∷ bytes) parts marks is are = rw (are, is, sp) (record { is = refl }, refl)

  pub one_text : (marks : List Mark) → AreMarks fold rules text marks → AreText marks
  one_text marks are = whole_text text are.parts marks (subst (λ (b : Bool). PartsBy b text are.parts) strip are.are) are.marks_are

  plain_text : (marks : List Mark) → AreMarks fold rules text marks → ArePlain (length (chars text)) (signs_from fold marks 0 (chars text))
  plain_text marks are = signs_plain fold marks 0 (chars text) (one_text marks are)

  chars_few : IsUtf8 text → length (chars text) ≤ length text
  chars_few utf8 = let all : length (encode_utf8_all (chars text)) ≡ length text = ap length (encodes-chars text utf8) in omega (arith, length-le-encodes (chars text), all)

  -- the tokens of a text take six times its bytes, and four more
  pub tokens_short : (tokens : FieldTokens) → IsUtf8 text → TokensOf fold rules text tokens → field_length tokens ≤ 4 + 6 * length text
  tokens_short tokens utf8 of =
      let plain = plain_text of.marks of.are in
      let list : List Segment = segments_of fold text of.marks in
      let none : tokens.spans ≡ [] = spans_none (positions_in list) tokens.spans (subst (λ (tags : _). AreSpans (positions_in list) tags tokens.spans) (plain_no_tag (length (chars text)) (signs_from fold of.marks 0 (chars text)) plain 0) of.spans) in
      let few : length tokens.spans ≡ 0 = ap length none in
      let words : sum_by word_length tokens.words ≡ sum_by (λ (word : List ℕ). 2 + length word) (words_in list) = by_spelling tokens.words ∙ ap (λ (w : List (List ℕ)). sum_by (λ (word : List ℕ). 2 + length word) w) of.words.spelled in
      omega (arith, few, words, words_cost list, cost_all (length (chars text)) (signs_from fold of.marks 0 (chars text)) plain, chars_few utf8)

  -- no text of fewer bytes is too long
  pub never_long : (position : ℕ) → IsUtf8 text → length text ≤ 1000 → IsTooLong fold rules text position → ⊥
  never_long position utf8 short long =
      let plain = plain_text long.marks long.are in
      let list : List Segment = segments_of fold text long.marks in
      let few : 0 + 2 * length (gaps_in list) ≤ MAX_POSITION = omega (arith, short, chars_few utf8, long_first (ends_before list), ends_few list, cost_all (length (chars text)) (signs_from fold long.marks 0 (chars text)) plain) in
      let none : first_above list ≡ None = below_limit 0 (gaps_in list) few in
      let clash : None ≡ Some position = sym none ∙ long.first in
      cc
