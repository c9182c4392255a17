-- A text with which nothing is wrong has at most 255 keywords, numbered from 1.
use Rattle.std.proofs.Common.{◌≡◌, ◌≢◌, ℕ, zero, suc, ◌+◌, ◌<◌, ◌≤◌, Bool, true, false, List, [], ◌∷◌, ◌++◌, length, length-append, map, refl, sym, ap, ◌∙◌, subst, arith, IsUtf8}
use Rattle.std.specs.Prelude.{Option, Some, None, MatchOption, Contains, if◌then◌else◌, nat_le, ◌==◌}
use Rattle.std.specs.List.{flat_map, range_with_len}
use Rattle.std.specs.Option.{option_map}
use Rattle.std.specs.Str.{IsCharBoundary}
use Rattle.std.proofs.lemmas.Bool.{eqb-true}
use Rattle.std.proofs.lemmas.Bool.Decides.{nat_tests}
use Rattle.std.proofs.lemmas.List.{map-append}
use Rattle.std.proofs.lemmas.Str.{IsCharBoundary-start}
use Rattle.query_pieces.specs.declared.piece.Form.{Form}
use Rattle.query_pieces.specs.declared.piece.Form.TheVariants as forms
use Rattle.query_pieces.specs.declared.piece.Piece.{Piece}
use Rattle.query_pieces.specs.declared.piece.Spelling.{Spelling}
use Rattle.query_pieces.specs.Pieces.{Splits, ArePieces, ends_in_letter}
use Rattle.query_pieces.specs.steps.Ends.{Follows}
use Rattle.query_pieces.proofs.EachPiece.{piece_follows}
use Rattle.query_marks.specs.declared.fault.QueryKind.TheVariants as kinds
use Rattle.query_marks.specs.declared.fault.Wrong.{Wrong}
use Rattle.query_tree.specs.declared.key.Key.{Key}
use Rattle.query_tree.specs.declared.key.Limit.{Limit}
use Rattle.query_tree.specs.declared.key.How.{How}
use Rattle.query_tree.specs.declared.key.How.TheVariants as hows
use Rattle.query_marks.specs.declared.mark.Mark.{Mark}
use Rattle.query_marks.specs.declared.mark.Sign.{Sign}
use Rattle.query_marks.specs.declared.mark.Sign.TheVariants as signs
use Rattle.query_marks.specs.Marks.{Setting, alphabet_in, nameless, keys_after, nobody, nobodies, keys_of as keys_from, passes_limit, counted, as_prefix, word_sign, quoted_sign, zone_sign, sign_of, wrong_of, wrong_count, wrong_word, wrong_quoted, mark_at, after, before_marks, marks_from, marks_of, at_start, slice_words}
use Rattle.query_grammar.specs.Queries.{keys_of}
use Rattle.query_grammar.proofs.MarkPlaces.{first_contained, contained_later}
use Rattle.query_grammar.proofs.OneWord.{one_word}

-- ---- numbers
-- the query positions of keywords
abbrev positions : List Key → List ℕ
positions keys = map (λ key. key.query) keys

-- the keywords are numbered one after the other, after so many
abbrev AreNumbered : ℕ → List Key → Type 0
AreNumbered n keys = positions keys ≡ range_with_len (n + 1) (length keys)

range_append : (a n m : ℕ) → range_with_len a (n + m) ≡ range_with_len a n ++ range_with_len (a + n) m
range_append a zero m =
    let e : zero + m ≡ m = omega arith in
    let f : a ≡ a + zero = omega arith in
    ap (range_with_len a) e ∙ ap (λ k. range_with_len k m) f
range_append a (suc n) m =
    let e : suc n + m ≡ suc (n + m) = omega arith in
    let f : a + 1 + n ≡ a + suc n = omega arith in
    ap (range_with_len a) e ∙ ap (λ l. a ∷ l) (range_append (a + 1) n m) ∙ ap (λ k. a ∷ (range_with_len (a + 1) n ++ range_with_len k m)) f

numbered_append : (n k : ℕ) (keys more : List Key) → n + length keys ≡ k → AreNumbered n keys → AreNumbered k more → AreNumbered n (keys ++ more)
numbered_append n k keys more e first rest =
    let f : k + 1 ≡ n + 1 + length keys = omega (arith, e) in
    map-append (λ key. key.query) keys more
    ∙ ap (λ l. l ++ positions more) first
    ∙ ap (λ l. range_with_len (n + 1) (length keys) ++ l) (rest ∙ ap (λ j. range_with_len j (length more)) f)
    ∙ sym (range_append (n + 1) (length keys) (length more))
    ∙ ap (range_with_len (n + 1)) (sym (length-append keys more))

-- ---- keywords of one piece
keys_length : (n : ℕ) (limit : Limit) (start end : Bool) (words : List (List ℕ)) → length (keys_after n limit start end words) ≡ length words
keys_length n limit start end [] = refl
keys_length n limit start end (word ∷ words) = ap suc (keys_length (n + 1) limit start end words)

keys_numbered : (n : ℕ) (limit : Limit) (start end : Bool) (words : List (List ℕ)) → AreNumbered n (keys_after n limit start end words)
keys_numbered n limit start end [] = refl
keys_numbered n limit start end (word ∷ words) = ap (λ l. (n + 1) ∷ l) (keys_numbered (n + 1) limit start end words)

-- words that aren't above the limit are keywords
keys_few : (n : ℕ) (limit : Limit) (start end : Bool) (words : List (List ℕ)) → n + length words ≤ 255 → keys_from n limit start end words ≡ keys_after n limit start end words
keys_few n limit start end words few = by (nat_le (n + length words) 255) refl
  where
    by : (b : Bool) → nat_le (n + length words) 255 ≡ b → (if b then keys_after n limit start end words else nobodies (length words)) ≡ keys_after n limit start end words
    by true e = refl
    by false e = absurd (above (n + length words) few e)
      where
        above : (k : ℕ) → k ≤ 255 → nat_le k 255 ≡ false → ⊥
        above k few e = grind (arith, nat_tests)

-- words have keywords, or what stands for them
keys_some : (n : ℕ) (limit : Limit) (start end : Bool) (words : List (List ℕ)) → words ≢ [] → keys_from n limit start end words ≢ []
keys_some n limit start end [] some = absurd (some refl)
keys_some n limit start end (word ∷ words) some = by (nat_le (n + length (word ∷ words)) 255)
  where
    nobody_some : (k : ℕ) → 0 < k → nobodies k ≢ []
    nobody_some k above = zero (k == 0) refl (k == 1)
      where
        zero : (b : Bool) → (k == 0) ≡ b → (c : Bool) → (if b then [] else if c then nobody ∷ [] else nobody ∷ nobody ∷ []) ≢ []
        zero true e c = absurd (omega (arith, above, eqb-true k 0 e))
        zero false e true = λ f. cc
        zero false e false = λ f. cc

    by : (b : Bool) → (if b then keys_after n limit start end (word ∷ words) else nobodies (length (word ∷ words))) ≢ []
    by true = λ e. cc
    by false = nobody_some (length (word ∷ words)) (omega arith)

-- ---- what a piece adds
-- the keywords of a sign
abbrev keys_in : Option Sign → List Key
keys_in None = []
keys_in (Some sign) = keys_of sign

-- nothing is wrong with a mark, where there is one
abbrev IsRight : Option Wrong → Option Sign → Type 0
IsRight wrong o = MatchOption o (Unit {0}) (λ sign. wrong ≡ None)

-- After so many keywords these follow up to so many, numbered one after the other.
record Adds (n k : ℕ) (keys : List Key) : Type 0 where
  few : k ≤ 255
  count : n + length keys ≡ k
  numbered : AreNumbered n keys

-- After so many keywords a right mark has those up to so many.
record Counts (n k : ℕ) (wrong : Option Wrong) (o : Option Sign) : Type 0 where
  adds : n ≤ 255 → IsRight wrong o → Adds n k (keys_in o)

no_keys : (n : ℕ) (wrong : Option Wrong) (o : Option Sign) → keys_in o ≡ [] → Counts n n wrong o
no_keys n wrong o none = record { adds = λ below right. record { few = below; count = omega (arith, ap length none); numbered = subst (AreNumbered n) (sym none) refl } }

within_limit : (n more : ℕ) → n ≤ 255 → passes_limit n more ≡ false → n + more ≤ 255
within_limit n more below e = grind (arith, nat_tests)

counted_is : (n more : ℕ) → n + more ≤ 255 → counted n more ≡ n + more
counted_is n more few = grind (arith, nat_tests)

right_count : (n more : ℕ) → wrong_count n more ≡ None → passes_limit n more ≡ false
right_count n more = by (passes_limit n more)
  where
    by : (b : Bool) → (if b then nameless kinds.TooManyKeywords else None) ≡ None → b ≡ false
    by true e = cc
    by false e = refl

right_quoted : (n : ℕ) (out : Bool) (more : ℕ) → wrong_quoted n out more ≡ None → wrong_count n more ≡ None
right_quoted n true more e = cc
right_quoted n false more e = e

-- keywords within the limit
adds_keys : (n : ℕ) (limit : Limit) (start end : Bool) (words : List (List ℕ)) → n + length words ≤ 255 → Adds n (counted n (length words)) (keys_from n limit start end words)
adds_keys n limit start end words few =
    subst (Adds n (counted n (length words))) (sym (keys_few n limit start end words few)) (record {
      few = omega (arith, few, counted_is n (length words) few);
      count = omega (arith, counted_is n (length words) few, keys_length n limit start end words);
      numbered = keys_numbered n limit start end words;
    })

-- a word
right_word : (n : ℕ) (short : Bool) → wrong_word n short ≡ None → wrong_count n 1 ≡ None
right_word n short = by (passes_limit n 1)
  where
    by : (b : Bool) → (if b then nameless kinds.TooManyKeywords else (if short then nameless kinds.PrefixTooShort else None)) ≡ None → (if b then nameless kinds.TooManyKeywords else None) ≡ None
    by true e = e
    by false e = refl

-- a keyword counts alike as a prefix
adds_prefix : (n k : ℕ) (prefix : Bool) (key : Key) → Adds n k (key ∷ []) → Adds n k (as_prefix prefix key ∷ [])
adds_prefix n k prefix key adds = record { few = adds.few; count = adds.count; numbered = adds.numbered }

word_counts : (n : ℕ) (limit : Limit) (start end prefix short : Bool) (words : List (List ℕ)) → length words ≡ 1 → Counts n (counted n 1) (wrong_word n short) (word_sign prefix (keys_from n limit start end words))
word_counts n limit start end prefix short words one = record { adds = λ below. by below (keys_from n limit start end words) refl }
  where
    same : n ≤ 255 → wrong_count n 1 ≡ None → Adds n (counted n 1) (keys_from n limit start end words)
    same below right =
        let few : n + 1 ≤ 255 = within_limit n 1 below (right_count n 1 right) in
        subst (λ k. Adds n (counted n k) (keys_from n limit start end words)) one (adds_keys n limit start end words (omega (arith, few, one)))

    by : n ≤ 255 → (keys : List Key) → keys_from n limit start end words ≡ keys → IsRight (wrong_word n short) (word_sign prefix keys) → Adds n (counted n 1) (keys_in (word_sign prefix keys))
    by below [] e right = absurd (keys_some n limit start end words (λ f. absurd (omega (arith, one, ap length f))) e)
    by below (key ∷ []) e right = adds_prefix n (counted n 1) prefix key (subst (Adds n (counted n 1)) e (same below (right_word n short right)))
    by below (key ∷ other ∷ keys) e right =
        let right_one : wrong_count n 1 ≡ None = right_word n short right in
        let adds : Adds n (counted n 1) (key ∷ other ∷ keys) = subst (Adds n (counted n 1)) e (same below right_one) in
        let few : n + 1 ≤ 255 = within_limit n 1 below (right_count n 1 right_one) in
        absurd (omega (arith, adds.count, counted_is n 1 few))

-- a quoted piece
quoted_keys : (keys : List Key) (how : How) → keys_in (quoted_sign keys how) ≡ keys
quoted_keys [] hows.Phrase = refl
quoted_keys (key ∷ []) hows.Phrase = refl
quoted_keys (key ∷ other ∷ keys) hows.Phrase = refl
quoted_keys [] (hows.Within n) = refl
quoted_keys (key ∷ keys) (hows.Within n) = refl
quoted_keys [] (hows.AtLeast n) = refl
quoted_keys (key ∷ keys) (hows.AtLeast n) = refl
quoted_keys [] (hows.Share digits places) = refl
quoted_keys (key ∷ keys) (hows.Share digits places) = refl

quoted_right : (wrong : Option Wrong) (keys : List Key) (how : How) → keys ≢ [] → IsRight wrong (quoted_sign keys how) → wrong ≡ None
quoted_right wrong [] how some right = absurd (some refl)
quoted_right wrong (key ∷ []) hows.Phrase some right = right
quoted_right wrong (key ∷ other ∷ keys) hows.Phrase some right = right
quoted_right wrong (key ∷ keys) (hows.Within n) some right = right
quoted_right wrong (key ∷ keys) (hows.AtLeast n) some right = right
quoted_right wrong (key ∷ keys) (hows.Share digits places) some right = right

quoted_counts : (n : ℕ) (limit : Limit) (out : Bool) (words : List (List ℕ)) (how : How) → Counts n (counted n (length words)) (wrong_quoted n out (length words)) (quoted_sign (keys_from n limit false false words) how)
quoted_counts n limit out words how = record {
  adds = λ below right. subst (Adds n (counted n (length words))) (sym (quoted_keys (keys_from n limit false false words) how)) (adds_keys n limit false false words (fit words below right));
}
  where
    fit : (words : List (List ℕ)) → n ≤ 255 → IsRight (wrong_quoted n out (length words)) (quoted_sign (keys_from n limit false false words) how) → n + length words ≤ 255
    fit [] below right = omega (arith, below)
    fit (word ∷ words) below right =
        within_limit n (length (word ∷ words)) below (right_count n (length (word ∷ words)) (right_quoted n out (length (word ∷ words)) (quoted_right (wrong_quoted n out (length (word ∷ words))) (keys_from n limit false false (word ∷ words)) how (keys_some n limit false false (word ∷ words) (λ e. cc)) right)))

form_counts : (setting : Setting) (state : _) (text : List ℕ) (form : Form) → ((w : Spelling) → form ≡ forms.Word w → length (slice_words setting text w.letters) ≡ 1) → Counts state.keywords (after setting state text form).keywords (wrong_of setting state text form) (sign_of setting state text form)
form_counts setting state text (forms.Word w) one = word_counts state.keywords _ w.start w.end w.prefix _ (slice_words setting text w.letters) (one w refl)
form_counts setting state text (forms.Quoted q) one = quoted_counts state.keywords _ _ (slice_words setting text q.inside) _
form_counts setting state text forms.Unclosed one = no_keys state.keywords _ _ refl
form_counts setting state text forms.Open one = no_keys state.keywords _ _ refl
form_counts setting state text forms.Close one = no_keys state.keywords _ _ refl
form_counts setting state text forms.Or one = no_keys state.keywords _ _ refl
form_counts setting state text forms.Before one = no_keys state.keywords _ _ refl
form_counts setting state text forms.Not one = no_keys state.keywords _ _ refl
form_counts setting state text forms.Maybe one = no_keys state.keywords _ _ refl
form_counts setting state text forms.Sentence one = no_keys state.keywords _ _ refl
form_counts setting state text forms.Paragraph one = no_keys state.keywords _ _ refl
form_counts setting state text (forms.Near s) one = no_keys state.keywords _ _ refl
form_counts setting state text (forms.Fields limit) one = no_keys state.keywords _ _ refl
form_counts setting state text (forms.Zones limit) one = no_keys state.keywords _ _ (zones setting.zones)
  where
    span : (b : Bool) (numbers : List ℕ) → keys_of (if b then signs.Spans numbers else signs.Limits) ≡ []
    span true numbers = refl
    span false numbers = refl

    zones : (list : List (List ℕ)) → keys_of (zone_sign list text limit) ≡ []
    zones [] = refl
    zones (zone ∷ list) = span limit.span _
form_counts setting state text forms.Relaxed one = no_keys state.keywords _ _ refl
form_counts setting state text forms.Separator one = no_keys state.keywords _ _ refl

-- ---- keywords of all pieces
-- the keywords of marks
abbrev keys_on : List Mark → List Key
keys_on marks = flat_map (λ m. keys_of m.sign) marks

abbrev AreRight : List Mark → Type 0
AreRight marks = (m : Mark) → Contains marks m → m.wrong ≡ None

before_right : (at : ℕ) (wrong : Option Wrong) (o : Option Sign) (marks : List Mark) → AreRight (before_marks (option_map (mark_at at wrong) o) marks) → IsRight wrong o × AreRight marks
before_right at wrong None marks right = (tt, right)
before_right at wrong (Some sign) marks right = (right (mark_at at wrong sign) (first_contained (mark_at at wrong sign) marks), λ m has. right m (contained_later (mark_at at wrong sign) marks m has))

before_keys : (at : ℕ) (wrong : Option Wrong) (o : Option Sign) (marks : List Mark) → keys_on (before_marks (option_map (mark_at at wrong) o) marks) ≡ keys_in o ++ keys_on marks
before_keys at wrong None marks = refl
before_keys at wrong (Some sign) marks = refl

-- the keywords of right marks, after so many
record Holds (n : ℕ) (keys : List Key) : Type 0 where
  few : n + length keys ≤ 255
  numbered : AreNumbered n keys

adds_more : (n k : ℕ) (keys more : List Key) → Adds n k keys → Holds k more → Holds n (keys ++ more)
adds_more n k keys more adds rest = record {
  few = omega (arith, adds.count, rest.few, length-append keys more);
  numbered = numbered_append n k keys more adds.count adds.numbered rest.numbered;
}

holds_from : (setting : Setting) (text : List ℕ) (state : _) (inside : Bool) (place : ℕ) (pieces : List Piece) → IsUtf8 text → IsCharBoundary text place → Splits (alphabet_in setting) text inside place pieces (length text) → AreRight (marks_from setting text state place pieces) → state.keywords ≤ 255 → Holds state.keywords (keys_on (marks_from setting text state place pieces))
holds_from setting text state inside place [] utf8 seam splits right below = record { few = omega (arith, below); numbered = refl }
holds_from setting text state inside place (p ∷ pieces) utf8 seam splits right below =
    let follows : Follows text place p.to = piece_follows (alphabet_in setting) text inside place p utf8 seam splits.0 splits.1 in
    let next = after setting state text p.form in
    let marks = marks_from setting text next p.to pieces in
    let both = before_right place (wrong_of setting state text p.form) (sign_of setting state text p.form) marks right in
    let adds : Adds state.keywords next.keywords (keys_in (sign_of setting state text p.form)) =
    (form_counts setting state text p.form (λ w is. ap length (one_word (alphabet_in setting) text inside place p w utf8 seam splits.0 splits.1 is).1)).adds below both.0 in
    let rest = holds_from setting text next (ends_in_letter p.form) p.to pieces utf8 follows.seam splits.2 both.1 adds.few in
    subst (Holds state.keywords) (sym (before_keys place (wrong_of setting state text p.form) (sign_of setting state text p.form) marks)) (adds_more state.keywords next.keywords (keys_in (sign_of setting state text p.form)) (keys_on marks) adds rest)

holds : (setting : Setting) (text : List ℕ) (pieces : List Piece) → IsUtf8 text → ArePieces (alphabet_in setting) text pieces → AreRight (marks_of setting text pieces) → Holds 0 (keys_on (marks_of setting text pieces))
holds setting text pieces utf8 are right = holds_from setting text (at_start setting) false 0 pieces utf8 (IsCharBoundary-start text utf8) are right (omega arith)

pub few_keywords : (setting : Setting) (text : List ℕ) (pieces : List Piece) → IsUtf8 text → ArePieces (alphabet_in setting) text pieces → ((m : Mark) → Contains (marks_of setting text pieces) m → m.wrong ≡ None) → length (flat_map (λ m. keys_of m.sign) (marks_of setting text pieces)) ≤ 255
few_keywords setting text pieces utf8 are right = omega (arith, (holds setting text pieces utf8 are right).few)

pub numbered_keywords : (setting : Setting) (text : List ℕ) (pieces : List Piece) → IsUtf8 text → ArePieces (alphabet_in setting) text pieces → ((m : Mark) → Contains (marks_of setting text pieces) m → m.wrong ≡ None) → map (λ key. key.query) (flat_map (λ m. keys_of m.sign) (marks_of setting text pieces)) ≡ range_with_len 1 (length (flat_map (λ m. keys_of m.sign) (marks_of setting text pieces)))
numbered_keywords setting text pieces utf8 are right = (holds setting text pieces utf8 are right).numbered
