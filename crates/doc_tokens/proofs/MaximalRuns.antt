-- Segments are maximal runs.
use Rattle.std.proofs.Common.{◌≡◌, ℕ, List, [], ◌∷◌, refl, ap, ◌∙◌}
use Rattle.doc_tokens.specs.declared.sign.TextSign.{TextSign}
use Rattle.doc_tokens.specs.declared.sign.TextSign.TheVariants as signs
use Rattle.doc_tokens.specs.Words.{Segment, run, other, with_letter, with_sign, segments, signs_of, AreMaximal}

letter_front : (c : ℕ) (list : List Segment) → signs_of (with_letter c list) ≡ signs.Letter c ∷ signs_of list
letter_front c [] = refl
letter_front c (run letters ∷ list) = refl
letter_front c (other sign ∷ list) = refl

sign_front : (sign : TextSign) (list : List Segment) → signs_of (with_sign sign list) ≡ sign ∷ signs_of list
sign_front (signs.Letter c) list = letter_front c list
sign_front signs.Separator list = refl
sign_front signs.Sentence list = refl
sign_front signs.Paragraph list = refl
sign_front (signs.Open zone) list = refl
sign_front (signs.Close zone) list = refl

-- the segments, one after the other, are the signs
pub segments_signs : (list : List TextSign) → signs_of (segments list) ≡ list
segments_signs [] = refl
segments_signs (sign ∷ list) = sign_front sign (segments list) ∙ ap (λ (l : List TextSign). sign ∷ l) (segments_signs list)

letter_maximal : (c : ℕ) (list : List Segment) → AreMaximal list → AreMaximal (with_letter c list)
letter_maximal c [] maximal = tt
letter_maximal c (run [] ∷ list) maximal = absurd maximal
letter_maximal c (run (d ∷ letters) ∷ []) maximal = tt
letter_maximal c (run (d ∷ letters) ∷ run more ∷ list) maximal = absurd maximal
letter_maximal c (run (d ∷ letters) ∷ other sign ∷ list) maximal = maximal
letter_maximal c (other sign ∷ list) maximal = maximal

sign_maximal : (sign : TextSign) (list : List Segment) → AreMaximal list → AreMaximal (with_sign sign list)
sign_maximal (signs.Letter c) list maximal = letter_maximal c list maximal
sign_maximal signs.Separator list maximal = maximal
sign_maximal signs.Sentence list maximal = maximal
sign_maximal signs.Paragraph list maximal = maximal
sign_maximal (signs.Open zone) list maximal = maximal
sign_maximal (signs.Close zone) list maximal = maximal

-- and they are maximal
pub segments_maximal : (list : List TextSign) → AreMaximal (segments list)
segments_maximal [] = tt
segments_maximal (sign ∷ list) = sign_maximal sign (segments list) (segments_maximal list)
