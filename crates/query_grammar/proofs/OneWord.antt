-- A piece that is a word spells one word.
use Rattle.std.proofs.Common.{◌≡◌, ◌≢◌, ℕ, suc, ◌+◌, ◌-◌, ◌<◌, ◌≤◌, Bool, true, false, List, [], ◌∷◌, ◌++◌, length, drop, map, refl, sym, ap, ◌∙◌, arith, lit<, IsUtf8}
use Rattle.std.specs.Prelude.{All, Option, Some, ◌==◌, ◌||◌, encode_utf8_all, filter, slice_range, take}
use Rattle.std.specs.Char.{len_utf8, encode_utf8}
use Rattle.std.specs.Str.{IsCharBoundary, chars}
use Rattle.std.proofs.Math.Seq.{take-append-add, drop-append_seam}
use Rattle.std.proofs.lemmas.Bool.{eqb-true}
use Rattle.std.proofs.lemmas.List.{drop_more, drop-drop}
use Rattle.std.proofs.lemmas.List.Elements.{All-nil, All-cons}
use Rattle.std.proofs.lemmas.List.Splits.{slice_split_none}
use Rattle.std.proofs.lemmas.Str.{IsUtf8-drop, IsUtf8-between, encodes-chars, chars_past_char, chars-nil, encode_ascii, length-encode}
use Rattle.query_pieces.specs.declared.piece.Form.TheVariants as forms
use Rattle.query_pieces.specs.declared.piece.Piece.{Piece}
use Rattle.query_pieces.specs.declared.piece.Spelling.{Spelling}
use Rattle.query_pieces.specs.QueryBytes.{byte}
use Rattle.query_pieces.specs.Letters.{Alphabet, Letter, first_of, char_at}
use Rattle.query_pieces.specs.Pieces.{AreLetters, Stands}
use Rattle.query_pieces.specs.steps.Ends.{Follows}
use Rattle.query_pieces.proofs.ByteRuns.{byte_within}
use Rattle.query_pieces.proofs.Seams.{byte_inside, seam_next}
use Rattle.query_pieces.proofs.EachPiece.{letter_follows}
use Rattle.query_marks.specs.QueryWords.{letters_in, separates, has_letters, runs_in, word_of, words_in}
use Rattle.query_marks.specs.LimitNames.{bytes_of}
use Rattle.query_grammar.proofs.WordLetters.{IsCharAt, escaped, plain, spelled, letters_ahead, char_byte, tests_apart, stands_run}

-- ---- the first character of a slice

-- the text from a place on begins with the character there
char_front : (text : List ℕ) (at c : ℕ) → IsUtf8 text → IsCharBoundary text at → char_at text at ≡ Some c → drop at text ≡ encode_utf8 c ++ drop (at + len_utf8 c) text
unfolding char_at
char_front text at c utf8 seam is = by (chars (drop at text)) is (encodes-chars (drop at text) (IsUtf8-drop text at utf8 seam))
  where
    by : (cs : List ℕ) → first_of cs ≡ Some c → encode_utf8_all cs ≡ drop at text → drop at text ≡ encode_utf8 c ++ drop (at + len_utf8 c) text
    by [] none spells = cc
    by (d ∷ ds) first spells =
        let same : d ≡ c = cc in
        let front : drop at text ≡ encode_utf8 c ++ encode_utf8_all ds = sym spells ∙ ap (λ (x : ℕ). encode_utf8 x ++ encode_utf8_all ds) same in
        let rest : drop (at + len_utf8 c) text ≡ encode_utf8_all ds =
        sym (drop-drop (len_utf8 c) at text) ∙ ap (drop (len_utf8 c)) front ∙ ap (λ n. drop n (encode_utf8 c ++ encode_utf8_all ds)) (sym (length-encode c)) ∙ drop-append_seam (encode_utf8 c) (encode_utf8_all ds) in
        front ∙ ap (λ x. encode_utf8 c ++ x) (sym rest)

-- a slice begins with what the text does
slice_front : (text front : List ℕ) (from n to : ℕ) → length front ≡ n → from + n ≤ to → drop from text ≡ front ++ drop (from + n) text → slice_range text from to ≡ front ++ slice_range text (from + n) to
slice_front text front from n to size ahead is =
    let count : to - from ≡ length front + (to - (from + n)) = omega (arith, ahead, size) in
    ap (take (to - from)) is ∙ ap (λ k. take k (front ++ drop (from + n) text)) count ∙ take-append-add front (drop (from + n) text) (to - (from + n))

-- the characters of a slice whose first one stands at its place
record CharsFrom (text : List ℕ) (from to c : ℕ) : Type 0 where
  all : chars (slice_range text from to) ≡ c ∷ chars (slice_range text (from + len_utf8 c) to)

chars_from : (text : List ℕ) (from to c : ℕ) → IsUtf8 text → IsCharBoundary text from → IsCharBoundary text to → from + len_utf8 c ≤ to → char_at text from ≡ Some c → CharsFrom text from to c
chars_from text from to c utf8 seam end ahead is =
    let within : from ≤ to = omega (arith, ahead) in
    record { all = chars_past_char (slice_range text from to) (slice_range text (from + len_utf8 c) to) c (IsUtf8-between text from to utf8 within seam end) (slice_front text (encode_utf8 c) from (len_utf8 c) to (length-encode c) ahead (char_front text from c utf8 seam is)) }

-- ---- the characters of a letter

-- a test that ASCII alone passes, of a character and of its byte
ascii_fails : (test : ℕ → Bool) → ((n : ℕ) → test n ≡ true → n < 128) → (c b : ℕ) → (c < 128 → b ≡ c) → test b ≡ false → test c ≡ false
ascii_fails test small c b is fails = by (test c) refl
  where
    by : (x : Bool) → test c ≡ x → x ≡ false
    by true e = sym (ap test (is (small c e)) ∙ e) ∙ fails
    by false e = refl

small_escape : (n : ℕ) → (n == 92) ≡ true → n < 128
small_escape n e = omega (arith, eqb-true n 92 e)

small_anchor : (n : ℕ) → ((n == 94) || (n == 36)) ≡ true → n < 128
small_anchor n = by (n == 94) (n == 36) refl refl
  where
    by : (x y : Bool) → (n == 94) ≡ x → (n == 36) ≡ y → (x || y) ≡ true → n < 128
    by true y e f g = omega (arith, eqb-true n 94 e)
    by false true e f g = omega (arith, eqb-true n 36 f)
    by false false e f g = cc

module _ (alphabet : Alphabet) (text : List ℕ) (utf8 : IsUtf8 text) where
  abbrev fold : ℕ → Option ℕ
  fold = alphabet.fold

  -- the first letter of a slice, and then the others
  record LetterFrom (from to : ℕ) (letter : Letter) : Type 0 where
    v : ℕ
    letters : letters_in fold (chars (slice_range text from to)) ≡ Some v ∷ letters_in fold (chars (slice_range text letter.to to))

  plain_letter : (from to : ℕ) (letter : Letter) → IsCharBoundary text from → IsCharBoundary text to → letter.to ≤ to → (byte text from == 92) ≡ false → ((byte text from == 94) || (byte text from == 36)) ≡ false → IsCharAt fold text from letter → from < length text → LetterFrom from to letter
  plain_letter from to letter seam end ahead e f char within =
      let front : drop from text ≡ encode_utf8 char.c ++ drop (from + len_utf8 char.c) text = char_front text from char.c utf8 seam char.is in
      let valid : IsUtf8 (drop from text) = IsUtf8-drop text from utf8 seam in
      let all : chars (drop from text) ≡ char.c ∷ chars (drop (from + len_utf8 char.c) text) = chars_past_char (drop from text) (drop (from + len_utf8 char.c) text) char.c valid front in
      let is : char.c < 128 → byte text from ≡ char.c = char_byte text from char.c (chars (drop (from + len_utf8 char.c) text)) valid all within in
      let slice : CharsFrom text from to char.c = chars_from text from to char.c utf8 seam end (omega (arith, ahead, char.to)) char.is in
      record {
        v = char.v;
        letters = ap (letters_in fold) slice.all
            ∙ tests_apart fold char.c char.v (chars (slice_range text (from + len_utf8 char.c) to)) char.folds (ascii_fails (λ n. n == 92) small_escape char.c (byte text from) is e) (ascii_fails (λ n. (n == 94) || (n == 36)) small_anchor char.c (byte text from) is f)
            ∙ ap (λ n. Some char.v ∷ letters_in fold (chars (slice_range text n to))) (sym char.to);
      }

  escaped_letter : (from to : ℕ) (letter : Letter) → IsCharBoundary text from → IsCharBoundary text to → letter.to ≤ to → byte text from ≡ 92 → IsCharAt fold text (from + 1) letter → LetterFrom from to letter
  escaped_letter from to letter seam end ahead is char =
      let next : IsCharBoundary text (from + 1) = seam_next text from 92 utf8 is (lit< tt) (λ e. omega (arith, e)) in
      let rest : CharsFrom text (from + 1) to char.c = chars_from text (from + 1) to char.c utf8 next end (omega (arith, ahead, char.to)) char.is in
      let below : from < length text = byte_inside text from 92 is (λ e. omega (arith, e)) in
      let front : drop from text ≡ 92 ∷ drop (from + 1) text = drop_more text from 0 below ∙ ap (λ (b : ℕ). b ∷ drop (from + 1) text) (sym (byte_within text from below) ∙ is) in
      let slice : slice_range text from to ≡ encode_utf8 92 ++ slice_range text (from + 1) to =
      slice_front text (92 ∷ []) from 1 to refl (omega (arith, ahead, char.to)) front ∙ ap (λ l. l ++ slice_range text (from + 1) to) (sym (encode_ascii 92 (lit< tt))) in
      let all : chars (slice_range text from to) ≡ 92 ∷ chars (slice_range text (from + 1) to) =
      chars_past_char (slice_range text from to) (slice_range text (from + 1) to) 92 (IsUtf8-between text from to utf8 (omega (arith, ahead, char.to)) seam end) slice in
      record {
        v = char.v;
        letters = ap (letters_in fold) (all ∙ ap (λ l. 92 ∷ l) rest.all)
            ∙ ap (λ (o : Option ℕ). o ∷ letters_in fold (chars (slice_range text (from + 1 + len_utf8 char.c) to))) char.folds
            ∙ ap (λ n. Some char.v ∷ letters_in fold (chars (slice_range text n to))) (sym char.to);
      }

  -- ---- runs

  -- a slice all of whose characters are letters
  record AllLetters (from to : ℕ) (letters : List ℕ) : Type 0 where
    folded : List ℕ
    size : length folded ≡ length letters
    are : letters_in fold (chars (slice_range text from to)) ≡ map (λ (v : ℕ). Some v) folded

  none_left : (from to : ℕ) → from ≡ to → slice_range text from to ≡ []
  none_left from to e = ap (λ n. take n (drop from text)) nothing
    where
      nothing : to - from ≡ 0
      nothing = omega (arith, e)

  all_letters : (inside : Bool) (from : ℕ) (letters : List ℕ) (to : ℕ) → IsCharBoundary text from → AreLetters alphabet text inside from letters to → AllLetters from to letters
  all_letters inside from [] to seam are = record { folded = []; size = refl; are = ap (letters_in fold) (ap chars (none_left from to are) ∙ chars-nil) }
  all_letters inside from (c ∷ cs) to seam are =
      let follows : Follows text from are.0.to = letter_follows alphabet text inside from are.0 utf8 seam are.1 in
      let ahead = letters_ahead alphabet text true are.0.to cs to utf8 follows.seam are.3 in
      let rest : AllLetters are.0.to to cs = all_letters true are.0.to cs to follows.seam are.3 in
      let within : from < length text = omega (arith, follows.after, ahead.0, ahead.1.0) in
      let first : LetterFrom from to are.0 = elim (spelled alphabet text inside from are.0 are.1) [
        | escaped is char ↦ escaped_letter from to are.0 seam ahead.1 ahead.0 is char
        | plain e f char ↦ plain_letter from to are.0 seam ahead.1 ahead.0 e f char within
      ] in
      record { folded = first.v ∷ rest.folded; size = ap suc rest.size; are = first.letters ∙ ap (λ l. Some first.v ∷ l) rest.are }

none_separates : (folded : List ℕ) → All (λ (o : Option ℕ). separates o ≡ false) (map (λ (v : ℕ). Some v) folded)
none_separates [] = All-nil (λ (o : Option ℕ). separates o ≡ false)
none_separates (v ∷ folded) = All-cons (λ (o : Option ℕ). separates o ≡ false) (Some v) (map (λ (v : ℕ). Some v) folded) refl (none_separates folded)

run_word : (v : ℕ) (folded : List ℕ) → map word_of (runs_in (map (λ (x : ℕ). Some x) (v ∷ folded))) ≡ word_of (map (λ (x : ℕ). Some x) (v ∷ folded)) ∷ []
run_word v folded = ap (λ runs. map word_of (filter has_letters runs)) (slice_split_none separates (map (λ (x : ℕ). Some x) (v ∷ folded)) (none_separates (v ∷ folded)))

-- the bytes are one word
record IsOneWord (fold : ℕ → Option ℕ) (bytes : List ℕ) : Type 0 where
  folded : List ℕ
  letters : letters_in fold (chars bytes) ≡ map (λ (v : ℕ). Some v) folded
  words : words_in fold bytes ≡ word_of (map (λ (v : ℕ). Some v) folded) ∷ []

run_is_word : (alphabet : Alphabet) (text : List ℕ) (from : ℕ) (letters : List ℕ) (to : ℕ) → IsUtf8 text → IsCharBoundary text from → letters ≢ [] → AreLetters alphabet text false from letters to → IsOneWord alphabet.fold (slice_range text from to)
run_is_word alphabet text from letters to utf8 seam some are =
    let all : AllLetters alphabet text utf8 from to letters = all_letters alphabet text utf8 false from letters to seam are in
    by all.folded (some_size letters some) all.size all.are
  where
    some_size : (list : List ℕ) → list ≢ [] → 0 < length list
    some_size [] some = absurd (some refl)
    some_size (c ∷ list) some = omega arith

    by : (folded : List ℕ) → 0 < length letters → length folded ≡ length letters → letters_in alphabet.fold (chars (slice_range text from to)) ≡ map (λ (v : ℕ). Some v) folded → IsOneWord alphabet.fold (slice_range text from to)
    by [] above size is = absurd (omega (arith, above, size))
    by (v ∷ folded) above size is = record { folded = v ∷ folded; letters = is; words = ap (λ l. map word_of (runs_in l)) is ∙ run_word v folded }

pub one_word : (alphabet : Alphabet) (text : List ℕ) (inside : Bool) (place : ℕ) (p : Piece) (w : Spelling) → IsUtf8 text → IsCharBoundary text place → place < length text → Stands alphabet text inside place p → p.form ≡ forms.Word w → (word : List ℕ) × (words_in alphabet.fold (bytes_of text w.letters) ≡ word ∷ [])
one_word alphabet text inside place p w utf8 seam within stands form =
    let is : IsOneWord alphabet.fold (bytes_of text w.letters) = stands_run alphabet text (IsOneWord alphabet.fold) (λ from to letters start run. run_is_word alphabet text from letters to utf8 start run.some run.are) inside place p w utf8 seam within stands form in
    (word_of (map (λ (v : ℕ). Some v) is.folded), is.words)

-- .. by its letters
pub one_run : (alphabet : Alphabet) (text : List ℕ) (inside : Bool) (place : ℕ) (p : Piece) (w : Spelling) → IsUtf8 text → IsCharBoundary text place → place < length text → Stands alphabet text inside place p → p.form ≡ forms.Word w
    → (folded : List ℕ) × (letters_in alphabet.fold (chars (bytes_of text w.letters)) ≡ map (λ (v : ℕ). Some v) folded) × (words_in alphabet.fold (bytes_of text w.letters) ≡ word_of (map (λ (v : ℕ). Some v) folded) ∷ [])
one_run alphabet text inside place p w utf8 seam within stands form =
    let is : IsOneWord alphabet.fold (bytes_of text w.letters) = stands_run alphabet text (IsOneWord alphabet.fold) (λ from to letters start run. run_is_word alphabet text from letters to utf8 start run.some run.are) inside place p w utf8 seam within stands form in
    (is.folded, is.letters, is.words)
