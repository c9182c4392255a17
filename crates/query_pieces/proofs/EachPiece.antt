-- At each place of a text a piece stands, which ends after its place, where no character is cut; so each text has pieces.
use Rattle.std.proofs.Common.{◌≡◌, ⊎_elim, ℕ, zero, suc, ◌+◌, ◌<◌, ◌≤◌, Bool, true, false, List, [], ◌∷◌, length, drop, refl, sym, ap, subst, arith, lit<, length-drop, IsUtf8}
use Rattle.std.specs.Prelude.{Option, Some, None, MatchOption, ◌==◌, ◌||◌, ◌&&◌, if◌then◌else◌, encode_utf8_all}
use Rattle.std.specs.Char.{len_utf8}
use Rattle.std.specs.Option.{is_some}
use Rattle.std.specs.Str.{IsCharBoundary}
use Rattle.std.proofs.lemmas.Bool.{eqb-true, cases_lt}
use Rattle.std.proofs.lemmas.Str.{IsUtf8-drop, IsCharBoundary-start}
use Rattle.query_pieces.specs.declared.piece.Piece.{Piece}
use Rattle.query_pieces.specs.QueryBytes.{byte}
use Rattle.query_pieces.specs.Operators.{operator_at}
use Rattle.query_pieces.specs.Letters.{Alphabet, Letter, char_at, letter_of, by_table, is_star, is_word_mark, letter_at}
use Rattle.query_pieces.specs.Pieces.{AreLetters, IsWord, IsPlain, Stands, Splits, ArePieces, after_start, after_end, word_piece, char_end, separator_at, ends_in_letter}
use Rattle.query_pieces.specs.steps.Ends.{Follows}
use Rattle.query_pieces.proofs.Seams.{seam_next, follows_of, char_is, char_none, char_follows}
use Rattle.query_pieces.proofs.OneReading.{stands_same}
use Rattle.query_pieces.proofs.OperatorEnds.{OptionEnds, operator_ends}

choose : {X : Type 0} (P : X → Type 0) (b : Bool) (x y : X) → (b ≡ true → P x) → (b ≡ false → P y) → P (if b then x else y)
choose P true x y left right = left refl
choose P false x y left right = right refl

-- ---- letters
record CharEnds (text : List ℕ) (at : ℕ) (o : Option ℕ) : Type 0 where
  ends : MatchOption o (length text ≤ at) (λ c. Follows text at (at + len_utf8 c))

char_ends : (text : List ℕ) (at : ℕ) → IsUtf8 text → IsCharBoundary text at → CharEnds text at (char_at text at)
char_ends text at utf8 seam = let rest = IsUtf8-drop text at utf8 seam in cases rest.0 rest.1.1
  where
    cases : (cs : List ℕ) → encode_utf8_all cs ≡ drop at text → CharEnds text at (char_at text at)
    cases [] is = subst (CharEnds text at) (char_none text (drop at text) at refl (sym is)) (record { ends = omega (arith, ap length is, length-drop at text) })
    cases (c ∷ cs) is = subst (CharEnds text at) (char_is text (drop at text) (encode_utf8_all cs) at c utf8 seam refl (sym is)) (record { ends = char_follows text (drop at text) (encode_utf8_all cs) at c utf8 seam refl (sym is) })

record LetterEnds (text : List ℕ) (place : ℕ) (o : Option Letter) : Type 0 where
  ends : MatchOption o (Unit {0}) (λ letter. Follows text place letter.to)

no_letter : (text : List ℕ) (place : ℕ) → LetterEnds text place None
no_letter text place = record { ends = tt }

of_ends : (text : List ℕ) (place to : ℕ) (o : Option ℕ) → Follows text place to → LetterEnds text place (letter_of to o)
of_ends text place to None follows = no_letter text place
of_ends text place to (Some v) follows = record { ends = follows }

table_ends : (fold : ℕ → Option ℕ) (text : List ℕ) (place from : ℕ) (o : Option ℕ) → place ≤ from → CharEnds text from o → LetterEnds text place (by_table fold from o)
table_ends fold text place from None ahead char = no_letter text place
table_ends fold text place from (Some c) ahead char = of_ends text place (from + len_utf8 c) (fold c) (record { after = omega (arith, ahead, char.ends.after); seam = char.ends.seam })

letter_ends : (alphabet : Alphabet) (text : List ℕ) (inside : Bool) (place : ℕ) → IsUtf8 text → IsCharBoundary text place → LetterEnds text place (letter_at alphabet text inside place)
unfolding letter_at
letter_ends alphabet text inside place utf8 seam =
    choose (LetterEnds text place) (byte text place == 92) (by_table alphabet.fold (place + 1) (char_at text (place + 1))) _ (λ e. escaped (eqb-true (byte text place) 92 e))
    (λ e. choose (LetterEnds text place) (is_word_mark alphabet inside (byte text place)) None _ (λ e. no_letter text place)
    (λ e. choose (LetterEnds text place) (is_some (operator_at text inside place)) None (by_table alphabet.fold place (char_at text place)) (λ e. no_letter text place)
    (λ e. table_ends alphabet.fold text place place (char_at text place) (omega arith) (char_ends text place utf8 seam))))
  where
    escaped : byte text place ≡ 92 → LetterEnds text place (by_table alphabet.fold (place + 1) (char_at text (place + 1)))
    escaped is = table_ends alphabet.fold text place (place + 1) (char_at text (place + 1)) (omega arith) (char_ends text (place + 1) utf8 (seam_next text place 92 utf8 is (lit< tt) (λ e. omega (arith, e))))

-- a letter ends after its place, where no character is cut
pub letter_follows : (alphabet : Alphabet) (text : List ℕ) (inside : Bool) (place : ℕ) (letter : Letter) → IsUtf8 text → IsCharBoundary text place → letter_at alphabet text inside place ≡ Some letter → Follows text place letter.to
letter_follows alphabet text inside place letter utf8 seam is = (subst (LetterEnds text place) is (letter_ends alphabet text inside place utf8 seam)).ends

-- the letters of a word after its first one
record Further (alphabet : Alphabet) (text : List ℕ) (place : ℕ) : Type 0 where
  letters : List ℕ
  to : ℕ
  are : AreLetters alphabet text true place letters to
  whole : letter_at alphabet text true to ≡ None
  ahead : place ≤ to
  seam : IsCharBoundary text to

further : (alphabet : Alphabet) (text : List ℕ) (most : ℕ) (place : ℕ) → IsUtf8 text → IsCharBoundary text place → length text ≤ place + most → Further alphabet text place
further alphabet text zero place utf8 seam fuel = by (letter_at alphabet text true place) refl
  where
    by : (o : Option Letter) → letter_at alphabet text true place ≡ o → Further alphabet text place
    by None e = record { letters = []; to = place; are = refl; whole = e; ahead = omega arith; seam = seam }
    by (Some letter) e = let follows : Follows text place letter.to = letter_follows alphabet text true place letter utf8 seam e in absurd (omega (arith, fuel, follows.after, follows.seam.0))
further alphabet text (suc most) place utf8 seam fuel = by (letter_at alphabet text true place) refl (λ to next ahead. further alphabet text most to utf8 next (omega (arith, fuel, ahead)))
  where
    by : (o : Option Letter) → letter_at alphabet text true place ≡ o → ((to : ℕ) → IsCharBoundary text to → place < to → Further alphabet text to) → Further alphabet text place
    by None e later = record { letters = []; to = place; are = refl; whole = e; ahead = omega arith; seam = seam }
    by (Some letter) e later =
        let follows : Follows text place letter.to = letter_follows alphabet text true place letter utf8 seam e in
        let rest : Further alphabet text letter.to = later letter.to follows.seam follows.after in
        record { letters = letter.folded ∷ rest.letters; to = rest.to; are = (letter, e, refl, rest.are); whole = rest.whole; ahead = omega (arith, follows.after, rest.ahead); seam = rest.seam }

-- ---- words, and what separates
-- the place after a byte that may stand there
seam_after : (text : List ℕ) (place b : ℕ) → IsUtf8 text → IsCharBoundary text place → b < 128 → (b ≡ 32 → ⊥) → IsCharBoundary text (if byte text place == b then place + 1 else place)
seam_after text place b utf8 seam small other = choose (IsCharBoundary text) (byte text place == b) (place + 1) place (λ e. seam_next text place b utf8 (eqb-true (byte text place) b e) small other) (λ e. seam)

ahead_after : (place : ℕ) (b : Bool) → place ≤ (if b then place + 1 else place)
ahead_after place true = omega arith
ahead_after place false = omega arith

-- what holds by either of two tests, of which the second one may not count
either : {X : Type 0} (first counts second : Bool) → (first ≡ true → X) → (second ≡ true → X) → (first || (counts && second)) ≡ true → X
either true counts second left right e = left refl
either false true second left right e = right e
either false false second left right e = absurd (no e)
  where
    no : false ≡ true → ⊥
    no clash = cc

-- no character is cut where a word ends
pub end_seam : (alphabet : Alphabet) (text : List ℕ) (place : ℕ) → IsUtf8 text → IsCharBoundary text place → IsCharBoundary text (after_end alphabet text place)
end_seam alphabet text place utf8 seam =
    choose (IsCharBoundary text) ((byte text place == 36) || is_star alphabet (byte text place)) (place + 1) place
    (either (byte text place == 36) alphabet.stars (byte text place == 42)
    (λ e. seam_next text place 36 utf8 (eqb-true (byte text place) 36 e) (lit< tt) (λ d. omega (arith, d)))
    (λ e. seam_next text place 42 utf8 (eqb-true (byte text place) 42 e) (lit< tt) (λ d. omega (arith, d))))
    (λ e. seam)

-- no character is cut where the letters of a word begin
pub start_seam : (text : List ℕ) (place : ℕ) → IsUtf8 text → IsCharBoundary text place → IsCharBoundary text (after_start text place)
start_seam text place utf8 seam = seam_after text place 94 utf8 seam (lit< tt) (λ e. omega (arith, e))

record WordAt (alphabet : Alphabet) (text : List ℕ) (place : ℕ) : Type 0 where
  p : Piece
  word : IsWord alphabet text place p
  follows : Follows text place p.to

word_at : (alphabet : Alphabet) (text : List ℕ) (place : ℕ) (letter : Letter) → IsUtf8 text → IsCharBoundary text place → letter_at alphabet text false (after_start text place) ≡ Some letter → WordAt alphabet text place
word_at alphabet text place letter utf8 seam is =
    let first : Follows text (after_start text place) letter.to = letter_follows alphabet text false (after_start text place) letter utf8 (start_seam text place utf8 seam) is in
    let rest : Further alphabet text letter.to = further alphabet text (length text) letter.to utf8 first.seam (omega arith) in
    record {
      p = word_piece alphabet text place (after_start text place) rest.to;
      word = record {
        letters = letter.folded ∷ rest.letters;
        to = rest.to;
        run = record { some = λ e. cc; are = (letter, is, refl, rest.are); whole = rest.whole };
        is = refl;
      };
      follows = record {
        after = omega (arith, ahead_after place (byte text place == 94), first.after, rest.ahead, ahead_after rest.to ((byte text rest.to == 36) || is_star alphabet (byte text rest.to)));
        seam = end_seam alphabet text rest.to utf8 rest.seam;
      };
    }

separator_follows : (text : List ℕ) (place : ℕ) → IsUtf8 text → IsCharBoundary text place → place < length text → Follows text place (separator_at text place).to
separator_follows text place utf8 seam within =
    choose (Follows text place) (byte text place == 92) (char_end (place + 1) (char_at text (place + 1))) (char_end place (char_at text place)) (λ e. escaped (eqb-true (byte text place) 92 e)) (λ e. plain (char_at text place) (char_ends text place utf8 seam))
  where
    after : (next : ℕ) (o : Option ℕ) → place < next → IsCharBoundary text next → CharEnds text next o → Follows text place (char_end next o)
    after next None ahead seam char = record { after = ahead; seam = seam }
    after next (Some c) ahead seam char = record { after = omega (arith, ahead, char.ends.after); seam = char.ends.seam }

    escaped : byte text place ≡ 92 → Follows text place (char_end (place + 1) (char_at text (place + 1)))
    escaped is =
        let next : IsCharBoundary text (place + 1) = seam_next text place 92 utf8 is (lit< tt) (λ e. omega (arith, e)) in
        after (place + 1) (char_at text (place + 1)) (omega arith) next (char_ends text (place + 1) utf8 next)

    plain : (o : Option ℕ) → CharEnds text place o → Follows text place (char_end place o)
    plain None char = absurd (omega (arith, within, char.ends))
    plain (Some c) char = char.ends

-- ---- pieces
record PlainAt (alphabet : Alphabet) (text : List ℕ) (place : ℕ) (o : Option Letter) : Type 0 where
  p : Piece
  plain : MatchOption o (p ≡ separator_at text place) (λ letter. IsWord alphabet text place p)
  follows : Follows text place p.to

plain_at : (alphabet : Alphabet) (text : List ℕ) (place : ℕ) → IsUtf8 text → IsCharBoundary text place → place < length text → PlainAt alphabet text place (letter_at alphabet text false (after_start text place))
plain_at alphabet text place utf8 seam within = by (letter_at alphabet text false (after_start text place)) refl
  where
    by : (o : Option Letter) → letter_at alphabet text false (after_start text place) ≡ o → PlainAt alphabet text place o
    by None e = record { p = separator_at text place; plain = refl; follows = separator_follows text place utf8 seam within }
    by (Some letter) e = let word : WordAt alphabet text place = word_at alphabet text place letter utf8 seam e in record { p = word.p; plain = word.word; follows = word.follows }

record PieceAt (alphabet : Alphabet) (text : List ℕ) (place : ℕ) (o : Option Piece) : Type 0 where
  p : Piece
  stands : MatchOption o (IsPlain alphabet text place p) (λ operator. p ≡ operator)
  follows : Follows text place p.to

piece_at : (alphabet : Alphabet) (text : List ℕ) (inside : Bool) (place : ℕ) → IsUtf8 text → IsCharBoundary text place → place < length text → PieceAt alphabet text place (operator_at text inside place)
piece_at alphabet text inside place utf8 seam within = by (operator_at text inside place) (operator_ends text inside place within)
  where
    by : (o : Option Piece) → OptionEnds text place o → PieceAt alphabet text place o
    by None ends = let plain : PlainAt alphabet text place (letter_at alphabet text false (after_start text place)) = plain_at alphabet text place utf8 seam within in record { p = plain.p; stands = plain.plain; follows = plain.follows }
    by (Some p) ends = record { p = p; stands = refl; follows = follows_of text place p.to utf8 ends.ends }

-- a piece ends after its place, where no character is cut
pub piece_follows : (alphabet : Alphabet) (text : List ℕ) (inside : Bool) (place : ℕ) (p : Piece) → IsUtf8 text → IsCharBoundary text place → place < length text → Stands alphabet text inside place p → Follows text place p.to
piece_follows alphabet text inside place p utf8 seam within stands =
    let found : PieceAt alphabet text place (operator_at text inside place) = piece_at alphabet text inside place utf8 seam within in
    subst (λ (q : Piece). Follows text place q.to) (stands_same alphabet text inside place found.p p found.stands stands) found.follows

pieces_from : (alphabet : Alphabet) (text : List ℕ) (most : ℕ) (inside : Bool) (place : ℕ) → IsUtf8 text → IsCharBoundary text place → length text ≤ place + most → (pieces : List Piece) × Splits alphabet text inside place pieces (length text)
pieces_from alphabet text zero inside place utf8 seam fuel = ([], omega (arith, fuel, seam.0))
pieces_from alphabet text (suc most) inside place utf8 seam fuel =
    ⊎_elim (some (λ flag to next ahead. pieces_from alphabet text most flag to utf8 next (omega (arith, fuel, ahead)))) none (cases_lt place (length text))
  where
    some : ((flag : Bool) (to : ℕ) → IsCharBoundary text to → place < to → (pieces : List Piece) × Splits alphabet text flag to pieces (length text)) → place < length text → (pieces : List Piece) × Splits alphabet text inside place pieces (length text)
    some later within =
        let found : PieceAt alphabet text place (operator_at text inside place) = piece_at alphabet text inside place utf8 seam within in
        let rest = later (ends_in_letter found.p.form) found.p.to found.follows.seam found.follows.after in
        (found.p ∷ rest.0, (within, found.stands, rest.1))

    none : length text ≤ place → (pieces : List Piece) × Splits alphabet text inside place pieces (length text)
    none past = ([], omega (arith, past, seam.0))

pub has_pieces : (alphabet : Alphabet) (text : List ℕ) → IsUtf8 text → (pieces : List Piece) × ArePieces alphabet text pieces
has_pieces alphabet text utf8 = pieces_from alphabet text (length text) false 0 utf8 (IsCharBoundary-start text utf8) (omega arith)
