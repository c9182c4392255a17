-- Words: what is read of them is what was written, and the other way round.
use Rattle.std.proofs.Common.{◌≡◌, ℕ, zero, suc, ◌+◌, ◌^◌, ◌<◌, ◌≤◌, All, Bool, true, false, ◌&&◌, List, [], ◌∷◌, ◌++◌, length, Result, Ok, Err, refl, sym, subst, arith}
use Rattle.std.specs.Prelude.{MatchResult, is_ok}
use Rattle.std.specs.List.{flat_map}
use Rattle.std.specs.Str.{is_utf8, IsUtf8}
use Rattle.std.specs.Int.{w32, to_le_bytes}
use Rattle.std.proofs.lemmas.Bool.Decides.{nat_tests}
use Rattle.std.proofs.lemmas.Str.{IsUtf8-from_is_utf8, is_utf8-from_IsUtf8}
use Rattle.doc_types.specs.Documents.{IsWord, step}
use Rattle.doc_types.specs.declared.tokens.TheConstants.{MAX_WORD_BYTES}
use Rattle.doc_types.specs.declared.tokens.Gap.{Gap}
use Rattle.doc_types.specs.declared.tokens.Gap.TheVariants as gaps
use Rattle.doc_types.specs.declared.tokens.TokenWord.{TokenWord}
use Rattle.byte_fields.specs.Fields.{◌>>=◌, AllFrom, byte_at, checked, each, piece_at}
use Rattle.byte_fields.proofs.Taking.{Inverse, IsBytes, IsBytes-rest, Takes, Takes-then, bind_ok, byte_inverse, checked_inverse, ok_is, piece_inverse, wide32}
use Rattle.byte_fields.proofs.Rows.{counted_inverse, each_inverse}
use Rattle.doc_bytes.specs.Payload.{gap_byte, word_bytes}
use Rattle.doc_bytes.specs.Reading.{field_at, gap_at, is_word_size, may_stand, text_at, word_at}

-- ---- boundaries

abbrev pub NoMore : Gap → Type 0
NoMore gap = Unit {0}

gap_takes : (bytes : List ℕ) (x : Gap × List ℕ) → IsBytes bytes → gap_at bytes ≡ Ok x → Takes bytes (gap_byte x.0 ∷ []) x.1 × NoMore x.0
gap_takes [] x fits e = absurd cc
gap_takes (zero ∷ rest) x fits e = (subst (λ (y : Gap × List ℕ). Takes (0 ∷ rest) (gap_byte y.0 ∷ []) y.1) (ok_is (gaps.None, rest) x e) (record { parts = refl; rest_fits = IsBytes-rest 0 rest fits }), tt)
gap_takes (suc zero ∷ rest) x fits e = (subst (λ (y : Gap × List ℕ). Takes (1 ∷ rest) (gap_byte y.0 ∷ []) y.1) (ok_is (gaps.Sentence, rest) x e) (record { parts = refl; rest_fits = IsBytes-rest 1 rest fits }), tt)
gap_takes (suc (suc zero) ∷ rest) x fits e = (subst (λ (y : Gap × List ℕ). Takes (2 ∷ rest) (gap_byte y.0 ∷ []) y.1) (ok_is (gaps.Paragraph, rest) x e) (record { parts = refl; rest_fits = IsBytes-rest 2 rest fits }), tt)
gap_takes (suc (suc (suc b)) ∷ rest) x fits e = absurd cc

gap_again : (gap : Gap) (rest : List ℕ) → NoMore gap → gap_at (gap_byte gap ∷ rest) ≡ Ok (gap, rest)
gap_again gaps.None rest fits = refl
gap_again gaps.Sentence rest fits = refl
gap_again gaps.Paragraph rest fits = refl

gap_inverse : Inverse gap_at (λ gap. gap_byte gap ∷ []) NoMore
gap_inverse = record { takes = gap_takes; again = gap_again }

-- ---- a word's bytes

split_and : (a b : Bool) → (a && b) ≡ true → (a ≡ true) × (b ≡ true)
split_and true b e = (refl, e)
split_and false b e = absurd cc

size_is : (size : ℕ) → is_word_size size ≡ true → (1 ≤ size) × (size ≤ MAX_WORD_BYTES)
size_is size e = grind (arith, nat_tests)

is_size : (size : ℕ) → 1 ≤ size → size ≤ MAX_WORD_BYTES → is_word_size size ≡ true
is_size size some short = grind (arith, nat_tests)

text_takes : (bytes : List ℕ) (x : List ℕ × List ℕ) → IsBytes bytes → text_at bytes ≡ Ok x → Takes bytes (length x.0 ∷ x.0) x.1 × IsWord x.0
unfolding text_at
text_takes bytes x fits e =
    let a = bind_ok (checked is_word_size byte_at bytes) (λ size. checked is_utf8 (piece_at size.0) size.1) x e in
    let size = (checked_inverse is_word_size byte_at (λ b. b ∷ []) (λ b. b < 256) byte_inverse).takes bytes a.0 fits a.1 in
    let text = (checked_inverse is_utf8 (piece_at a.0.0) (λ piece. piece) (λ piece. length piece ≡ a.0.0) (piece_inverse a.0.0)).takes a.0.1 x size.0.rest_fits a.2 in
    let both = Takes-then bytes (a.0.0 ∷ []) a.0.1 x.0 x.1 size.0 text.0 in
    let sizes = size_is a.0.0 size.1.1 in (
      subst (λ (n : ℕ). Takes bytes (n ∷ x.0) x.1) (sym text.1.0) both,
      record { some = omega (arith, text.1.0, sizes.0); short = omega (arith, text.1.0, sizes.1); utf8 = IsUtf8-from_is_utf8 x.0 text.1.1 },
    )

text_again : (text rest : List ℕ) → IsWord text → text_at (length text ∷ (text ++ rest)) ≡ Ok (text, rest)
unfolding text_at
text_again text rest word =
    rw (is_size (length text) word.some word.short, (piece_inverse (length text)).again text rest refl, is_utf8-from_IsUtf8 text word.utf8) refl

text_inverse : Inverse text_at (λ text. length text ∷ text) IsWord
text_inverse = record { takes = text_takes; again = text_again }

-- ---- words

-- a word that may follow a position
pub record MayFollow (before : ℕ) (token : TokenWord) : Type 0 where
  pub word : IsWord token.word
  pub position : token.position ≡ before + step token.gap
  pub stands : may_stand before token.gap ≡ true

word_takes : (before : ℕ) (bytes : List ℕ) (x : TokenWord × List ℕ) → IsBytes bytes → word_at before bytes ≡ Ok x → Takes bytes (word_bytes x.0) x.1 × MayFollow before x.0
unfolding word_at
word_takes before bytes x fits e =
    let a = bind_ok (checked (may_stand before) gap_at bytes) (λ gap. text_at gap.1 >>= λ text. Ok (record { word = text.0; position = before + step gap.0; gap = gap.0 }, text.1)) x e in
    let b = bind_ok (text_at a.0.1) (λ text. Ok (record { word = text.0; position = before + step a.0.0; gap = a.0.0 }, text.1)) x a.2 in
    let gap = (checked_inverse (may_stand before) gap_at (λ g. gap_byte g ∷ []) NoMore gap_inverse).takes bytes a.0 fits a.1 in
    let text = text_takes a.0.1 b.0 gap.0.rest_fits b.1 in
    let both = Takes-then bytes (gap_byte a.0.0 ∷ []) a.0.1 (length b.0.0 ∷ b.0.0) b.0.1 gap.0 text.0 in
    let made : TokenWord × List ℕ = (record { word = b.0.0; position = before + step a.0.0; gap = a.0.0 }, b.0.1) in
    subst (λ (y : TokenWord × List ℕ). Takes bytes (word_bytes y.0) y.1 × MayFollow before y.0) (ok_is made x b.2) (both, record { word = text.1; position = refl; stands = gap.1.1 })

word_again : (before : ℕ) (token : TokenWord) (rest : List ℕ) → MayFollow before token → word_at before (word_bytes token ++ rest) ≡ Ok (token, rest)
unfolding word_at
word_again before token rest fits =
    rw (gap_again token.gap (length token.word ∷ (token.word ++ rest)) tt, fits.stands, text_again token.word rest fits.word, sym fits.position) refl

word_inverse : (before : ℕ) → Inverse (word_at before) word_bytes (MayFollow before)
word_inverse before = record { takes = word_takes before; again = word_again before }

-- ---- the words of a field

-- words that can be read one after the other, and fit their number
abbrev pub AreWords : List TokenWord → Type 0
AreWords words = (length words < 2 ^ 32) × AllFrom MayFollow (λ word. word.position) 0 words

-- the words of a field as they are written
abbrev pub words_bytes : List TokenWord → List ℕ
words_bytes words = to_le_bytes w32 (length words) ++ flat_map word_bytes words

field_inverse : Inverse field_at words_bytes AreWords
unfolding field_at
field_inverse = counted_inverse word_at (λ word. word.position) word_bytes MayFollow w32 (2 ^ 32) wide32 word_inverse 0

pub fields_inverse : (n : ℕ) → Inverse (each field_at n) (flat_map words_bytes) (λ fields. (length fields ≡ n) × All AreWords fields)
fields_inverse n = each_inverse field_at words_bytes AreWords field_inverse n

-- ---- the test of the code

utf8_not : (text : List ℕ) (b : Bool) → is_utf8 text ≡ b → ¬ (IsUtf8 text) → false ≡ b
utf8_not text true is not = absurd (not (IsUtf8-from_is_utf8 text is))
utf8_not text false is not = refl

pub is_text_by : {A E : Type 0} (r : Result A E) (text : List ℕ) (P : A → Type 0) (Q : E → Type 0) → MatchResult r (λ x. P x × IsUtf8 text) (λ e. ¬ (IsUtf8 text) × Q e) → is_ok r ≡ is_utf8 text
is_text_by (Ok x) text P Q cases = sym (is_utf8-from_IsUtf8 text cases.1)
is_text_by (Err e) text P Q cases = utf8_not text (is_utf8 text) refl cases.0
