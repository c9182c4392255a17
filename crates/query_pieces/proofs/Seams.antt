-- Where a text may be cut.
use Rattle.std.proofs.Common.{◌≡◌, ⊎_elim, ℕ, ◌+◌, ◌-◌, ◌<◌, List, [], ◌++◌, length, drop, sym, ap, ◌∙◌, subst, arith, IsUtf8}
use Rattle.std.specs.Prelude.{Some, None}
use Rattle.std.specs.Char.{encode_utf8, len_utf8}
use Rattle.std.specs.Str.{IsCharBoundary, chars}
use Rattle.std.proofs.lemmas.Bool.{cases_lt}
use Rattle.std.proofs.lemmas.Str.{IsUtf8-drop, IsCharBoundary-after_ascii, IsCharBoundary-before_ascii, IsCharBoundary-end, IsCharBoundary-past_char, chars_past_char, chars-nil, len_utf8_bounds}
use Rattle.query_pieces.specs.QueryBytes.{byte}
use Rattle.query_pieces.specs.Letters.{char_at, first_of}
use Rattle.query_pieces.specs.steps.Ends.{EndsIn, Follows}
use Rattle.query_pieces.proofs.ByteRuns.{byte_within, byte_past}

-- a byte that is no blank stands in the text
pub byte_inside : (text : List ℕ) (at b : ℕ) → byte text at ≡ b → (b ≡ 32 → ⊥) → at < length text
byte_inside text at b is other = ⊎_elim (λ below. below) (λ past. absurd (other (sym is ∙ byte_past text at past))) (cases_lt at (length text))

-- after an ASCII byte
pub seam_next : (text : List ℕ) (at b : ℕ) → IsUtf8 text → byte text at ≡ b → b < 128 → (b ≡ 32 → ⊥) → IsCharBoundary text (at + 1)
seam_next text at b utf8 is small other =
    let within : at < length text = byte_inside text at b is other in
    IsCharBoundary-after_ascii text at utf8 within (omega (arith, small, is, byte_within text at within))

-- where a piece ends
pub seam_of : (text : List ℕ) (from to : ℕ) → IsUtf8 text → EndsIn text from to → IsCharBoundary text to
seam_of text from to utf8 ends = ⊎_elim after before ends.seam
  where
    after : byte text to < 128 → IsCharBoundary text to
    after small =
        ⊎_elim (λ below. IsCharBoundary-before_ascii text to below (omega (arith, small, byte_within text to below)))
        (λ past. let e : length text ≡ to = omega (arith, past, ends.within) in subst (IsCharBoundary text) e (IsCharBoundary-end text))
        (cases_lt to (length text))

    before : byte text (to - 1) < 128 → IsCharBoundary text to
    before small =
        let below : to - 1 < length text = omega (arith, ends.after, ends.within) in
        let e : to - 1 + 1 ≡ to = omega (arith, ends.after) in
        subst (IsCharBoundary text) e (IsCharBoundary-after_ascii text (to - 1) utf8 below (omega (arith, small, byte_within text (to - 1) below)))

pub follows_of : (text : List ℕ) (from to : ℕ) → IsUtf8 text → EndsIn text from to → Follows text from to
follows_of text from to utf8 ends = record { after = ends.after; seam = seam_of text from to utf8 ends }

-- the character at a place
pub char_is : (text rest beyond : List ℕ) (at c : ℕ) → IsUtf8 text → IsCharBoundary text at → rest ≡ drop at text → rest ≡ encode_utf8 c ++ beyond → Some c ≡ char_at text at
unfolding char_at
char_is text rest beyond at c utf8 seam back is =
    sym (ap first_of (chars_past_char (drop at text) beyond c (IsUtf8-drop text at utf8 seam) (sym back ∙ is)))

pub char_none : (text rest : List ℕ) (at : ℕ) → rest ≡ drop at text → rest ≡ [] → None ≡ char_at text at
unfolding char_at
char_none text rest at back none = sym (ap (λ l. first_of (chars l)) (sym back ∙ none) ∙ ap first_of chars-nil)

pub char_follows : (text rest beyond : List ℕ) (at c : ℕ) → IsUtf8 text → IsCharBoundary text at → rest ≡ drop at text → rest ≡ encode_utf8 c ++ beyond → Follows text at (at + len_utf8 c)
char_follows text rest beyond at c utf8 seam back is = record {
  after = omega (arith, (len_utf8_bounds c).0);
  seam = IsCharBoundary-past_char text beyond at c seam.0 (IsUtf8-drop text at utf8 seam) (sym back ∙ is);
}
