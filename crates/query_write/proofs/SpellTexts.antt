-- The words that a written word, or the inside of a written phrase, spells.
use Rattle.std.proofs.Common.{◌≡◌, ◌≢◌, ℕ, ◌<◌, ◌≤◌, Bool, true, false, eqb, List, [], ◌∷◌, ◌++◌, ◌||◌, length, map, chars, encode_utf8, encode_utf8_all, filter, filter_map, All, refl, ap, ap₂, ◌∙◌, arith, ⊎_elim, append_assoc, append-nil}
use Rattle.std.specs.Prelude.{Option, Some, None, ◌==◌}
use Rattle.std.specs.List.{slice_split}
use Rattle.std.proofs.Math.Utf8.{scalar, scalars}
use Rattle.std.proofs.lemmas.Bool.{cases_lt, and_from, and_parts, or_from, ne_eqb}
use Rattle.std.proofs.lemmas.List.{take_all, length-map}
use Rattle.std.proofs.lemmas.List.Elements.{All-nil, All-cons}
use Rattle.std.proofs.lemmas.List.Splits.{slice_split_none, slice_split_at}
use Rattle.std.proofs.lemmas.Str.{chars-encodes, chars-nil, encode_ascii}
use Rattle.doc_types.specs.declared.tokens.TheConstants.{MAX_WORD_CHARS}
use Rattle.query_pieces.specs.QueryBytes.{is_bound}
use Rattle.query_marks.specs.QueryWords.{plain_letter, letters_from, letters_in, separates, has_letters, runs_in, word_of, words_in}
use Rattle.query_write.specs.Spelling.{is_plain, stays, escape, spelled_from, spelled}
use Rattle.query_write.proofs.SpellSigns.{apart}
use Rattle.query_write.proofs.SpellLetters.{AreKept, HasNone, if_false, chars_next, chars_small, spelled_encode}

-- the letters that characters are
abbrev pub letters_of : List ℕ → List (Option ℕ)
letters_of cs = map (λ c. Some c) cs

-- ---- the letters of a word
letter_next : (fold : ℕ → Option ℕ) (c : ℕ) (cs : List ℕ) → eqb c 92 ≡ false → eqb c 94 ≡ false → eqb c 36 ≡ false → fold c ≡ Some c → letters_from fold false (c ∷ cs) ≡ Some c ∷ letters_from fold false cs
letter_next fold c cs escape start end same =
    if_false (c == 92) (letters_from fold true cs) (plain_letter fold c ∷ letters_from fold false cs) (Some c ∷ letters_from fold false cs) escape
    (ap (λ (o : Option ℕ). o ∷ letters_from fold false cs) (if_false ((c == 94) || (c == 36)) None (fold c) (Some c) (or_from (c == 94) (c == 36) start end) same))

small_letters : (fold : ℕ → Option ℕ) (bounded : Bool) (c : ℕ) (bytes more : List ℕ) → c < 128 → fold c ≡ Some c → letters_from fold false (chars (spelled_from bounded (c ∷ bytes) ++ more)) ≡ Some c ∷ letters_from fold false (chars (spelled_from (is_bound c) bytes ++ more))
small_letters fold bounded c bytes more small same = by (stays bounded c bytes) refl
  where
    by : (s : Bool) → stays bounded c bytes ≡ s → letters_from fold false (chars (escape s ++ c ∷ spelled_from (is_bound c) bytes ++ more)) ≡ Some c ∷ letters_from fold false (chars (spelled_from (is_bound c) bytes ++ more))
    by true e =
        let plain : is_plain c ≡ true = (and_parts (is_plain c) _ e).0 in
        ap (letters_from fold false) (chars_small c (spelled_from (is_bound c) bytes ++ more) small)
        ∙ letter_next fold c (chars (spelled_from (is_bound c) bytes ++ more)) (apart is_plain c 92 plain refl) (apart is_plain c 94 plain refl) (apart is_plain c 36 plain refl) same
    by false e =
        ap (letters_from fold false) (chars_small 92 (c ∷ (spelled_from (is_bound c) bytes ++ more)) (omega arith) ∙ ap (λ (l : List ℕ). 92 ∷ l) (chars_small c (spelled_from (is_bound c) bytes ++ more) small))
        ∙ ap (λ (o : Option ℕ). o ∷ letters_from fold false (chars (spelled_from (is_bound c) bytes ++ more))) same

pub letters_spelled : (fold : ℕ → Option ℕ) (bounded : Bool) (cs more : List ℕ) → AreKept fold cs → letters_from fold false (chars (spelled_from bounded (encode_utf8_all cs) ++ more)) ≡ letters_of cs ++ letters_from fold false (chars more)
letters_spelled fold bounded [] more kept = refl
letters_spelled fold bounded (c ∷ cs) more kept =
    let rest : (flag : Bool) → letters_from fold false (chars (spelled_from flag (encode_utf8_all cs) ++ more)) ≡ letters_of cs ++ letters_from fold false (chars more) = λ flag. letters_spelled fold flag cs more kept.2 in
    ⊎_elim (λ below. small below (rest (is_bound c))) (λ above. high above (rest false)) (cases_lt c 128)
  where
    small : c < 128 → letters_from fold false (chars (spelled_from (is_bound c) (encode_utf8_all cs) ++ more)) ≡ letters_of cs ++ letters_from fold false (chars more) → letters_from fold false (chars (spelled_from bounded (encode_utf8 c ++ encode_utf8_all cs) ++ more)) ≡ letters_of (c ∷ cs) ++ letters_from fold false (chars more)
    small below rest =
        ap (λ (l : List ℕ). letters_from fold false (chars (spelled_from bounded (l ++ encode_utf8_all cs) ++ more))) (encode_ascii c below)
        ∙ small_letters fold bounded c (encode_utf8_all cs) more below kept.1
        ∙ ap (λ (l : List (Option ℕ)). Some c ∷ l) rest

    high : 128 ≤ c → letters_from fold false (chars (spelled_from false (encode_utf8_all cs) ++ more)) ≡ letters_of cs ++ letters_from fold false (chars more) → letters_from fold false (chars (spelled_from bounded (encode_utf8 c ++ encode_utf8_all cs) ++ more)) ≡ letters_of (c ∷ cs) ++ letters_from fold false (chars more)
    high above rest =
        let other : (k : ℕ) → k < 128 → eqb c k ≡ false = λ k low. ne_eqb c k (λ e. omega (arith, e, low, above)) in
        ap (λ (l : List ℕ). letters_from fold false (chars (l ++ more))) (spelled_encode bounded c (encode_utf8_all cs) above)
        ∙ ap (λ (l : List ℕ). letters_from fold false (chars l)) (append_assoc (encode_utf8 c) (spelled_from false (encode_utf8_all cs)) more)
        ∙ ap (letters_from fold false) (chars_next c (spelled_from false (encode_utf8_all cs) ++ more) kept.0)
        ∙ letter_next fold c (chars (spelled_from false (encode_utf8_all cs) ++ more)) (other 92 (omega arith)) (other 94 (omega arith)) (other 36 (omega arith)) kept.1
        ∙ ap (λ (l : List (Option ℕ)). Some c ∷ l) rest

-- ---- the letters of several, with a space between each and the next
-- words, each after a space
abbrev pub spaced : List (List ℕ) → List ℕ
spaced [] = []
spaced (cs ∷ css) = 32 ∷ (spelled (encode_utf8_all cs) ++ spaced css)

-- letters, each after what separates
abbrev pub parted_letters : List (List ℕ) → List (Option ℕ)
parted_letters [] = []
parted_letters (cs ∷ css) = None ∷ (letters_of cs ++ parted_letters css)

abbrev pub AllKept : (ℕ → Option ℕ) → List (List ℕ) → Type 0
AllKept fold [] = Unit {0}
AllKept fold (cs ∷ css) = AreKept fold cs × (cs ≢ []) × (length cs ≤ MAX_WORD_CHARS) × AllKept fold css

pub letters_spaced : (fold : ℕ → Option ℕ) (css : List (List ℕ)) → HasNone fold → AllKept fold css → letters_from fold false (chars (spaced css)) ≡ parted_letters css
letters_spaced fold [] none kept = ap (letters_from fold false) chars-nil
letters_spaced fold (cs ∷ css) none kept =
    ap (letters_from fold false) (chars_small 32 (spelled (encode_utf8_all cs) ++ spaced css) (omega arith))
    ∙ ap₂ (λ (o : Option ℕ) (l : List (Option ℕ)). o ∷ l) none.blank
    (letters_spelled fold true cs (spaced css) kept.0 ∙ ap (λ (l : List (Option ℕ)). letters_of cs ++ l) (letters_spaced fold css none kept.3))

none_separates : (cs : List ℕ) → All (λ o. separates o ≡ false) (letters_of cs)
none_separates [] = All-nil (λ (o : Option ℕ). separates o ≡ false)
none_separates (c ∷ cs) = All-cons (λ (o : Option ℕ). separates o ≡ false) (Some c) (letters_of cs) refl (none_separates cs)

pub split_letters : (cs : List ℕ) (css : List (List ℕ)) → slice_split separates (letters_of cs ++ parted_letters css) ≡ map letters_of (cs ∷ css)
split_letters cs [] = ap (slice_split separates) (append-nil (letters_of cs)) ∙ slice_split_none separates (letters_of cs) (none_separates cs)
split_letters cs (ds ∷ css) =
    slice_split_at separates (letters_of cs) None (letters_of ds ++ parted_letters css) (none_separates cs) refl ∙ ap (λ (l : List (List (Option ℕ))). letters_of cs ∷ l) (split_letters ds css)

pub runs_kept : (fold : ℕ → Option ℕ) (css : List (List ℕ)) → AllKept fold css → filter has_letters (map letters_of css) ≡ map letters_of css
runs_kept fold [] kept = refl
runs_kept fold ([] ∷ css) kept = absurd (kept.1 refl)
runs_kept fold ((c ∷ cs) ∷ css) kept = ap (λ (l : List (List (Option ℕ))). letters_of (c ∷ cs) ∷ l) (runs_kept fold css kept.3)

all_letters : (cs : List ℕ) → filter_map (λ letter. letter) (letters_of cs) ≡ cs
all_letters [] = refl
all_letters (c ∷ cs) = ap (λ (l : List ℕ). c ∷ l) (all_letters cs)

word_kept : (cs : List ℕ) → length cs ≤ MAX_WORD_CHARS → word_of (letters_of cs) ≡ encode_utf8_all cs
word_kept cs few =
    ap (λ (l : List (Option ℕ)). encode_utf8_all (filter_map (λ letter. letter) l)) (take_all MAX_WORD_CHARS (letters_of cs) (omega (arith, few, length-map cs (λ (c : ℕ). Some c))))
    ∙ ap encode_utf8_all (all_letters cs)

pub words_kept : (fold : ℕ → Option ℕ) (css : List (List ℕ)) → AllKept fold css → map word_of (map letters_of css) ≡ map encode_utf8_all css
words_kept fold [] kept = refl
words_kept fold (cs ∷ css) kept = ap₂ (λ (w : List ℕ) (ws : List (List ℕ)). w ∷ ws) (word_kept cs kept.2) (words_kept fold css kept.3)

-- ---- what they spell
pub spells_words : (fold : ℕ → Option ℕ) (cs : List ℕ) (css : List (List ℕ)) → HasNone fold → AllKept fold (cs ∷ css) → words_in fold (spelled (encode_utf8_all cs) ++ spaced css) ≡ map encode_utf8_all (cs ∷ css)
spells_words fold cs css none kept =
    ap (λ (l : List (Option ℕ)). map word_of (runs_in l)) (letters_spelled fold true cs (spaced css) kept.0 ∙ ap (λ (l : List (Option ℕ)). letters_of cs ++ l) (letters_spaced fold css none kept.3))
    ∙ ap (λ (l : List (List (Option ℕ))). map word_of (filter has_letters l)) (split_letters cs css)
    ∙ ap (map word_of) (runs_kept fold (cs ∷ css) kept)
    ∙ words_kept fold (cs ∷ css) kept

-- as many letters as characters
pub spells_letters : (fold : ℕ → Option ℕ) (cs : List ℕ) → AreKept fold cs → length (letters_in fold (chars (spelled (encode_utf8_all cs) ++ []))) ≡ length cs
spells_letters fold cs kept =
    ap length (letters_spelled fold true cs [] kept ∙ ap (λ (l : List ℕ). letters_of cs ++ letters_from fold false l) chars-nil ∙ append-nil (letters_of cs))
    ∙ length-map cs (λ (c : ℕ). Some c)

kept_scalars : (fold : ℕ → Option ℕ) (cs : List ℕ) → AreKept fold cs → scalars cs ≡ true
kept_scalars fold [] kept = refl
kept_scalars fold (c ∷ cs) kept = and_from (scalar c) (scalars cs) kept.0 (kept_scalars fold cs kept.2)

-- the characters of the word that characters make
pub chars_kept : (fold : ℕ → Option ℕ) (cs : List ℕ) → AreKept fold cs → chars (encode_utf8_all cs) ≡ cs
chars_kept fold cs kept = chars-encodes cs (kept_scalars fold cs kept)

pub spells_none : (fold : ℕ → Option ℕ) → words_in fold [] ≡ []
spells_none fold = ap (λ (l : List ℕ). map word_of (runs_in (letters_in fold l))) chars-nil
