-- Segments of signs, sign by sign.
use Rattle.std.proofs.Common.{◌≡◌, ℕ, zero, suc, ◌*◌, ◌-◌, ◌≤◌, List, [], ◌∷◌, ◌++◌, length, map, take, refl, sym, ◌∙◌, ap, arith, append_assoc, length-append, encode_utf8_all}
use Rattle.std.specs.Char.{encode_utf8}
use Rattle.std.proofs.lemmas.List.{map-append}
use Rattle.std.proofs.lemmas.Str.{encodes-append, length-encode, len_utf8_bounds}
use Rattle.doc_tokens.specs.declared.sign.TextSign.{TextSign}
use Rattle.doc_tokens.specs.declared.sign.TextSign.TheVariants as signs
use Rattle.doc_tokens.specs.Words.{run, other, segments, with_letter, word_of}
use Rattle.doc_tokens.specs.steps.TokenReader.{signs_ahead, BeginApart}

-- one letter before signs that don't go on with a run
one_letter : (c : ℕ) (rest : List TextSign) → BeginApart rest → with_letter c (segments rest) ≡ run (c ∷ []) ∷ segments rest
one_letter c [] apart = refl
one_letter c (signs.Letter d ∷ rest) apart = absurd apart
one_letter c (signs.Separator ∷ rest) apart = refl
one_letter c (signs.Sentence ∷ rest) apart = refl
one_letter c (signs.Paragraph ∷ rest) apart = refl
one_letter c (signs.Open zone ∷ rest) apart = refl
one_letter c (signs.Close zone ∷ rest) apart = refl

-- letters before signs that don't go on with a run are one run
pub segments_run : (c : ℕ) (letters : List ℕ) (rest : List TextSign) → BeginApart rest → segments (signs_ahead (c ∷ letters) rest) ≡ run (c ∷ letters) ∷ segments rest
segments_run c [] rest apart = one_letter c rest apart
segments_run c (d ∷ letters) rest apart = ap (with_letter c) (segments_run d letters rest apart)

-- letters after the others of their run
pub ahead_letters : (letters more : List ℕ) (rest : List TextSign) → signs_ahead letters (signs_ahead more rest) ≡ signs_ahead (letters ++ more) rest
ahead_letters letters more rest = sym (append_assoc (map signs.Letter letters) (map signs.Letter more) rest) ∙ ap (λ (s : List TextSign). s ++ rest) (sym (map-append signs.Letter letters more))

-- a sign that is no letter is a segment
pub segments_other : (sign : TextSign) (rest : List TextSign) → BeginApart (sign ∷ []) → segments (sign ∷ rest) ≡ other sign ∷ segments rest
segments_other (signs.Letter c) rest apart = absurd apart
segments_other signs.Separator rest apart = refl
segments_other signs.Sentence rest apart = refl
segments_other signs.Paragraph rest apart = refl
segments_other (signs.Open zone) rest apart = refl
segments_other (signs.Close zone) rest apart = refl

-- signs that begin with such a sign begin apart
pub apart_before : (sign : TextSign) (rest : List TextSign) → BeginApart (sign ∷ []) → BeginApart (sign ∷ rest)
apart_before (signs.Letter c) rest apart = absurd apart
apart_before signs.Separator rest apart = tt
apart_before signs.Sentence rest apart = tt
apart_before signs.Paragraph rest apart = tt
apart_before (signs.Open zone) rest apart = tt
apart_before (signs.Close zone) rest apart = tt

-- the front of two lists, one after the other
take_both : (n : ℕ) (xs ys : List ℕ) → take n (xs ++ ys) ≡ take n xs ++ take (n - length xs) ys
take_both zero [] ys = refl
take_both (suc n) [] ys = let same : suc n ≡ suc n - 0 = omega arith in ap (λ (m : ℕ). take m ys) same
take_both zero (x ∷ xs) ys = let none : 0 ≡ 0 - length (x ∷ xs) = omega arith in ap (λ (m : ℕ). take m ys) none
take_both (suc n) (x ∷ xs) ys =
    let same : n - length xs ≡ suc n - length (x ∷ xs) = omega arith in
    ap (λ (l : List ℕ). x ∷ l) (take_both n xs ys ∙ ap (λ (m : ℕ). take n xs ++ take m ys) same)

-- the word of a run with more letters: as many of them join it as there is room for
pub word_more : (letters more : List ℕ) → word_of (letters ++ more) ≡ word_of letters ++ encode_utf8_all (take (42 - length letters) more)
word_more letters more = ap encode_utf8_all (take_both 42 letters more) ∙ encodes-append (take 42 letters) (take (42 - length letters) more)

-- a character has at most four bytes
pub encodes_short : (cs : List ℕ) → length (encode_utf8_all cs) ≤ 4 * length cs
encodes_short [] = omega arith
encodes_short (c ∷ cs) = omega (arith, length-append (encode_utf8 c) (encode_utf8_all cs), length-encode c, len_utf8_bounds c, encodes_short cs)
