-- The letters of a word, and what holds of each run of them.
use Rattle.std.proofs.Common.{◌≡◌, ℕ, ◌+◌, ◌<◌, ◌≤◌, Bool, true, false, List, [], ◌∷◌, length, get_or, drop, refl, sym, ap, ◌∙◌, subst, arith, get_or-drop, IsUtf8}
use Rattle.std.specs.Prelude.{Option, Some, None, MatchOption, ◌==◌, ◌||◌, if◌then◌else◌, encode_utf8_all, slice_range}
use Rattle.std.specs.Char.{len_utf8}
use Rattle.std.specs.Option.{is_some}
use Rattle.std.specs.Str.{IsCharBoundary, chars}
use Rattle.std.proofs.lemmas.Bool.{and_parts, eqb-true, cond-false, or_parts}
use Rattle.std.proofs.lemmas.Str.{encodes-chars, byte_from_char}
use Rattle.query_pieces.specs.declared.piece.Form.TheVariants as forms
use Rattle.query_pieces.specs.declared.piece.Piece.{Piece}
use Rattle.query_pieces.specs.declared.piece.Spelling.{Spelling}
use Rattle.query_pieces.specs.QueryBytes.{byte}
use Rattle.query_pieces.specs.Operators.{operator_at}
use Rattle.query_pieces.specs.Letters.{Alphabet, Letter, char_at, letter_of, by_table, is_star, is_word_mark, letter_at}
use Rattle.query_pieces.specs.Pieces.{AreLetters, IsRun, IsWord, IsPlain, Stands, after_start, separator_at}
use Rattle.query_pieces.specs.steps.Ends.{Follows}
use Rattle.query_pieces.proofs.ByteRuns.{byte_within}
use Rattle.query_pieces.proofs.OperatorEnds.{OptionEnds, operator_ends, is_word}
use Rattle.query_pieces.proofs.EachPiece.{letter_follows, start_seam}
use Rattle.query_marks.specs.QueryWords.{plain_letter, letters_from, letters_in}
use Rattle.query_marks.specs.LimitNames.{bytes_of}

-- ---- the letter that is first
-- A character of the table stands at a place, and a letter ends after it.
pub record IsCharAt (fold : ℕ → Option ℕ) (text : List ℕ) (at : ℕ) (letter : Letter) : Type 0 where
  pub c : ℕ
  pub v : ℕ
  pub is : char_at text at ≡ Some c
  pub folds : fold c ≡ Some v
  pub to : letter.to ≡ at + len_utf8 c

table_char : (fold : ℕ → Option ℕ) (text : List ℕ) (at : ℕ) (letter : Letter) → by_table fold at (char_at text at) ≡ Some letter → IsCharAt fold text at letter
table_char fold text at letter = by (char_at text at) refl
  where
    folded : (c : ℕ) → char_at text at ≡ Some c → (o : Option ℕ) → fold c ≡ o → letter_of (at + len_utf8 c) o ≡ Some letter → IsCharAt fold text at letter
    folded c is None e f = cc
    folded c is (Some v) e f = record { c = c; v = v; is = is; folds = e; to = sym (ap (λ o. elim o [ Some l ↦ l.to | None ↦ 0 ]) f) }

    by : (o : Option ℕ) → char_at text at ≡ o → by_table fold at o ≡ Some letter → IsCharAt fold text at letter
    by None is f = cc
    by (Some c) is f = folded c is (fold c) refl f

-- A letter is `\` and a character of the table, or a character of the table alone, that is neither `\`, `^` nor `$`.
pub data IsSpelled (fold : ℕ → Option ℕ) (text : List ℕ) (at : ℕ) (letter : Letter) : Type 0 where
  escaped : byte text at ≡ 92 → IsCharAt fold text (at + 1) letter → IsSpelled fold text at letter
  plain : (byte text at == 92) ≡ false → ((byte text at == 94) || (byte text at == 36)) ≡ false → IsCharAt fold text at letter → IsSpelled fold text at letter

pub spelled : (alphabet : Alphabet) (text : List ℕ) (inside : Bool) (at : ℕ) (letter : Letter) → letter_at alphabet text inside at ≡ Some letter → IsSpelled alphabet.fold text at letter
unfolding letter_at
spelled alphabet text inside at letter = first (byte text at == 92) refl
  where
    third : (byte text at == 92) ≡ false → is_word_mark alphabet inside (byte text at) ≡ false → (b : Bool) → (if b then None else by_table alphabet.fold at (char_at text at)) ≡ Some letter → IsSpelled alphabet.fold text at letter
    third e f true is = cc
    third e f false is = plain e (or_parts _ _ f).0 (table_char alphabet.fold text at letter is)

    second : (byte text at == 92) ≡ false → (b : Bool) → is_word_mark alphabet inside (byte text at) ≡ b → (if b then None else if is_some (operator_at text inside at) then None else by_table alphabet.fold at (char_at text at)) ≡ Some letter → IsSpelled alphabet.fold text at letter
    second e true f is = cc
    second e false f is = third e f (is_some (operator_at text inside at)) is

    first : (b : Bool) → (byte text at == 92) ≡ b → (if b then by_table alphabet.fold (at + 1) (char_at text (at + 1)) else if is_word_mark alphabet inside (byte text at) then None else if is_some (operator_at text inside at) then None else by_table alphabet.fold at (char_at text at)) ≡ Some letter → IsSpelled alphabet.fold text at letter
    first true e is = escaped (eqb-true (byte text at) 92 e) (table_char alphabet.fold text (at + 1) letter is)
    first false e is = second e (is_word_mark alphabet inside (byte text at)) refl is

pub letters_ahead : (alphabet : Alphabet) (text : List ℕ) (inside : Bool) (from : ℕ) (letters : List ℕ) (to : ℕ) → IsUtf8 text → IsCharBoundary text from → AreLetters alphabet text inside from letters to → (from ≤ to) × IsCharBoundary text to
letters_ahead alphabet text inside from [] to utf8 seam are = (omega (arith, are), subst (IsCharBoundary text) are seam)
letters_ahead alphabet text inside from (c ∷ cs) to utf8 seam are =
    let follows : Follows text from are.0.to = letter_follows alphabet text inside from are.0 utf8 seam are.1 in
    let rest = letters_ahead alphabet text true are.0.to cs to utf8 follows.seam are.3 in
    (omega (arith, follows.after, rest.0), rest.1)

-- an ASCII character is the byte at its place
pub char_byte : (text : List ℕ) (at c : ℕ) (ds : List ℕ) → IsUtf8 (drop at text) → chars (drop at text) ≡ c ∷ ds → at < length text → c < 128 → byte text at ≡ c
char_byte text at c ds valid all within small =
    byte_within text at within ∙ ap (λ k. get_or text k 0) (zero_more at) ∙ sym (get_or-drop at text 0 0)
    ∙ byte_from_char (drop at text) (encode_utf8_all ds) c (sym (encodes-chars (drop at text) valid) ∙ ap encode_utf8_all all) small
  where
    zero_more : (n : ℕ) → n ≡ n + 0
    zero_more n = omega arith

pub tests_apart : (fold : ℕ → Option ℕ) (c v : ℕ) (cs : List ℕ) → fold c ≡ Some v → (c == 92) ≡ false → ((c == 94) || (c == 36)) ≡ false → letters_in fold (c ∷ cs) ≡ Some v ∷ letters_from fold false cs
tests_apart fold c v cs folds e f =
    cond-false (c == 92) (letters_from fold true cs) (plain_letter fold c ∷ letters_from fold false cs) e
    ∙ ap (λ (o : Option ℕ). o ∷ letters_from fold false cs) (cond-false ((c == 94) || (c == 36)) None (fold c) f ∙ folds)

-- ---- pieces
-- What holds of the bytes of each run of letters holds of those of a piece that is a word.
module _ (alphabet : Alphabet) (text : List ℕ) (P : List ℕ → Type 0) (runs : (from to : ℕ) (letters : List ℕ) → IsCharBoundary text from → IsRun alphabet text from letters to → P (slice_range text from to)) where
  word_run : (place : ℕ) (p : Piece) (w : Spelling) → IsUtf8 text → IsCharBoundary text place → p.form ≡ forms.Word w → IsWord alphabet text place p → P (bytes_of text w.letters)
  word_run place p w utf8 seam form word =
      let is : forms.Word (record { letters = record { from = after_start text place; to = word.to }; start = byte text place == 94; end = byte text word.to == 36; prefix = is_star alphabet (byte text word.to) }) ≡ forms.Word w = sym (ap (λ (q : Piece). q.form) word.is) ∙ form in
      let same : record { letters = record { from = after_start text place; to = word.to }; start = byte text place == 94; end = byte text word.to == 36; prefix = is_star alphabet (byte text word.to) } ≡ w = cc in
      subst (λ (v : Spelling). P (bytes_of text v.letters)) same (runs (after_start text place) word.to word.letters (start_seam text place utf8 seam) word.run)

  plain_run : (place : ℕ) (p : Piece) (w : Spelling) → IsUtf8 text → IsCharBoundary text place → p.form ≡ forms.Word w → IsPlain alphabet text place p → P (bytes_of text w.letters)
  plain_run place p w utf8 seam form = by (letter_at alphabet text false (after_start text place))
    where
      by : (o : Option Letter) → MatchOption o (p ≡ separator_at text place) (λ letter. IsWord alphabet text place p) → P (bytes_of text w.letters)
      by None is = absurd (clash (sym (ap (λ (q : Piece). q.form) is) ∙ form))
        where
          clash : forms.Separator ≡ forms.Word w → ⊥
          clash e = cc
      by (Some letter) word = word_run place p w utf8 seam form word

  pub stands_run : (inside : Bool) (place : ℕ) (p : Piece) (w : Spelling) → IsUtf8 text → IsCharBoundary text place → place < length text → Stands alphabet text inside place p → p.form ≡ forms.Word w → P (bytes_of text w.letters)
  stands_run inside place p w utf8 seam within stands form = by (operator_at text inside place) (operator_ends text inside place within) stands
    where
      by : (o : Option Piece) → OptionEnds text place o → MatchOption o (IsPlain alphabet text place p) (λ operator. p ≡ operator) → P (bytes_of text w.letters)
      by None ends word = plain_run place p w utf8 seam form word
      by (Some operator) ends is = absurd (clash (sym (ap is_word form) ∙ ap (λ (q : Piece). is_word q.form) is ∙ ends.other))
        where
          clash : true ≡ false → ⊥
          clash e = cc

-- a piece that is a word stands as one
pub stands_word : (alphabet : Alphabet) (text : List ℕ) (inside : Bool) (place : ℕ) (p : Piece) (w : Spelling) → place < length text → Stands alphabet text inside place p → p.form ≡ forms.Word w → IsWord alphabet text place p
stands_word alphabet text inside place p w within stands form = by (operator_at text inside place) (operator_ends text inside place within) stands
  where
    plain : (o : Option Letter) → MatchOption o (p ≡ separator_at text place) (λ letter. IsWord alphabet text place p) → IsWord alphabet text place p
    plain None is = absurd (clash (sym (ap (λ (q : Piece). q.form) is) ∙ form))
      where
        clash : forms.Separator ≡ forms.Word w → ⊥
        clash e = cc
    plain (Some letter) word = word

    by : (o : Option Piece) → OptionEnds text place o → MatchOption o (IsPlain alphabet text place p) (λ operator. p ≡ operator) → IsWord alphabet text place p
    by None ends is = plain (letter_at alphabet text false (after_start text place)) is
    by (Some operator) ends is = absurd (clash (sym (ap is_word form) ∙ ap (λ (q : Piece). is_word q.form) is ∙ ends.other))
      where
        clash : true ≡ false → ⊥
        clash e = cc

-- a prefix has no end mark, and is one where words may be prefixes
pub word_marks : (alphabet : Alphabet) (text : List ℕ) (place : ℕ) (p : Piece) (w : Spelling) → p.form ≡ forms.Word w → IsWord alphabet text place p → w.prefix ≡ true → (alphabet.stars ≡ true) × (w.end ≡ false)
word_marks alphabet text place p w form word prefix =
    let spelling : Spelling = record { letters = record { from = after_start text place; to = word.to }; start = byte text place == 94; end = byte text word.to == 36; prefix = is_star alphabet (byte text word.to) } in
    let is : forms.Word spelling ≡ forms.Word w = sym (ap (λ (q : Piece). q.form) word.is) ∙ form in
    let same : spelling ≡ w = cc in
    let both = and_parts alphabet.stars (byte text word.to == 42) (ap (λ (v : Spelling). v.prefix) same ∙ prefix) in
    (both.0, sym (ap (λ (v : Spelling). v.end) same) ∙ ap (λ (b : ℕ). b == 36) (eqb-true (byte text word.to) 42 both.1))
