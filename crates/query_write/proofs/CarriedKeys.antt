-- The keywords of one piece, where nothing is wrong with it.
use Rattle.std.proofs.Common.{arith, ◌≡◌, ◌≢◌, ◌≤◌, ◌<◌, ◌+◌, ℕ, suc, Bool, true, false, List, [], ◌∷◌, length, refl, sym, ◌∙◌, ap, subst, chars}
use Rattle.std.specs.Prelude.{Option, Some, None, All, if◌then◌else◌, ◌==◌, ◌&&◌, nat_le, nat_lt}
use Rattle.std.proofs.lemmas.Bool.{eqb-true, leb-true, both_ways, ltb-false}
use Rattle.std.proofs.lemmas.Bool.Decides.{nat_tests}
use Rattle.std.proofs.lemmas.List.Elements.{All-nil, All-cons, All-head, All-tail}
use Rattle.doc_types.specs.declared.schema.Schema.{Schema}
use Rattle.query_marks.specs.declared.fault.QueryKind.TheVariants as kinds
use Rattle.query_marks.specs.declared.fault.Wrong.{Wrong}
use Rattle.query_tree.specs.declared.key.Key.{Key}
use Rattle.query_tree.specs.declared.key.Limit.{Limit}
use Rattle.query_tree.specs.declared.key.How.{How}
use Rattle.query_tree.specs.declared.key.How.TheVariants as hows
use Rattle.query_marks.specs.declared.mark.Sign.{Sign}
use Rattle.query_marks.specs.Hows.{is_out}
use Rattle.query_marks.specs.Marks.{nameless, keys_after, nobody, nobodies, keys_of, passes_limit, counted, word_sign, quoted_sign, wrong_count, wrong_quoted, as_prefix, is_short, wrong_word}
use Rattle.query_write.specs.steps.Signs.{IsPlainWord, IsKeyOf}
use Rattle.query_write.specs.steps.TokenRun.{words_of, IsRightHow}
use Rattle.query_write.specs.steps.Writable.{AreKeys}
use Rattle.query_write.specs.steps.Carried.{every, IsStep}

-- a piece without a sign changes nothing
abbrev pub IsStepOf : Schema → ℕ → Limit → Option Sign → ℕ → Limit → Type 0
IsStepOf schema n here None m there = (m ≡ n) × (there ≡ here)
IsStepOf schema n here (Some sign) m there = IsStep every schema n here sign m there

-- nothing is wrong with a sign that is given
abbrev pub IsClean : Option Sign → Option Wrong → Type 0
IsClean None wrong = Unit {0}
IsClean (Some sign) wrong = wrong ≡ None

clean_of : (o : Option Sign) (sign : Sign) (wrong : Option Wrong) → o ≡ Some sign → IsClean o wrong → wrong ≡ None
clean_of None sign wrong e clean = cc
clean_of (Some other) sign wrong e clean = clean

-- so many keywords more are within the limit
within : (n more : ℕ) → n ≤ 255 → wrong_count n more ≡ None → n + more ≤ 255
within n more few e = by (passes_limit n more) refl e
  where
    above : (nat_le n 255 && nat_lt 255 (n + more)) ≡ false → n + more ≤ 255
    above f = grind (arith, nat_tests)

    by : (b : Bool) → passes_limit n more ≡ b → (if b then nameless kinds.TooManyKeywords else None) ≡ None → n + more ≤ 255
    by true f e = cc
    by false f e = above f

counted_is : (n more : ℕ) → n + more ≤ 255 → counted n more ≡ n + more
counted_is n more few = by (nat_le (n + more) 255) refl
  where
    by : (b : Bool) → nat_le (n + more) 255 ≡ b → (if b then n + more else 256) ≡ n + more
    by true e = refl
    by false e = absurd (bad (n + more) few e)
      where
        bad : (k : ℕ) → k ≤ 255 → nat_le k 255 ≡ false → ⊥
        bad k few e = grind (arith, nat_tests)

-- ---- keywords by their words
keys_length : (n : ℕ) (limit : Limit) (words : List (List ℕ)) → length (keys_after n limit false false words) ≡ length words
keys_length n limit [] = refl
keys_length n limit (word ∷ words) = ap suc (keys_length (n + 1) limit words)

keys_words : (n : ℕ) (limit : Limit) (words : List (List ℕ)) → words_of (keys_after n limit false false words) ≡ words
keys_words n limit [] = refl
keys_words n limit (word ∷ words) = ap (λ l. word ∷ l) (keys_words (n + 1) limit words)

keys_plain : (n : ℕ) (limit : Limit) (words : List (List ℕ)) → All (IsPlainWord every) words → All (λ key. IsPlainWord every key.word) (keys_after n limit false false words)
keys_plain n limit [] all = All-nil (λ key. IsPlainWord every key.word)
keys_plain n limit (word ∷ words) all =
    All-cons (λ (key : Key). IsPlainWord every key.word) (record { query = n + 1; word = word; limit = limit; start = false; end = false; prefix = false }) (keys_after (n + 1) limit false false words) (All-head (IsPlainWord every) word words all) (keys_plain (n + 1) limit words (All-tail (IsPlainWord every) word words all))

keys_are : (n : ℕ) (limit : Limit) (words : List (List ℕ)) → All (IsPlainWord every) words → AreKeys every limit n (keys_after n limit false false words)
keys_are n limit words all = record { are = ap (keys_after n limit false false) (sym (keys_words n limit words)); plain = keys_plain n limit words all }

-- ---- words
-- no prefix with which nothing is wrong has too few letters
word_clean : (n shortest letters : ℕ) (prefix : Bool) → wrong_word n (is_short shortest prefix letters) ≡ None → (wrong_count n 1 ≡ None) × (prefix ≡ true → shortest ≤ letters)
word_clean n shortest letters prefix = by (passes_limit n 1)
  where
    long : (p : Bool) → (if p && nat_lt letters shortest then nameless kinds.PrefixTooShort else None) ≡ None → p ≡ true → shortest ≤ letters
    long true e f = enough (nat_lt letters shortest) refl e
      where
        enough : (b : Bool) → nat_lt letters shortest ≡ b → (if b then nameless kinds.PrefixTooShort else None) ≡ None → shortest ≤ letters
        enough true g h = cc
        enough false g h = ltb-false letters shortest g
    long false e f = absurd (both_ways false refl f)

    by : (b : Bool) → (if b then nameless kinds.TooManyKeywords else (if prefix && nat_lt letters shortest then nameless kinds.PrefixTooShort else None)) ≡ None
        → ((if b then nameless kinds.TooManyKeywords else None) ≡ None) × (prefix ≡ true → shortest ≤ letters)
    by true e = cc
    by false e = (refl, long prefix e)

pub word_step : (schema : Schema) (n : ℕ) (limit : Limit) (start end prefix : Bool) (letters : ℕ) (words : List (List ℕ)) (word : List ℕ) → n ≤ 255 → words ≡ word ∷ [] → IsPlainWord every word
    → (prefix ≡ true → (nat_lt 0 schema.min_prefix ≡ true) × (end ≡ false)) → (schema.min_prefix ≤ letters → schema.min_prefix ≤ length (chars word))
    → IsClean (word_sign prefix (keys_of n limit start end words)) (wrong_word n (is_short schema.min_prefix prefix letters)) → IsStepOf schema n limit (word_sign prefix (keys_of n limit start end words)) (counted n 1) limit × (counted n 1 ≤ 255)
word_step schema n limit start end prefix letters words word few e plain marks long =
    subst (λ l. IsClean (word_sign prefix (keys_of n limit start end l)) (wrong_word n (is_short schema.min_prefix prefix letters)) → IsStepOf schema n limit (word_sign prefix (keys_of n limit start end l)) (counted n 1) limit × (counted n 1 ≤ 255)) (sym e) (by (nat_le (n + 1) 255) refl)
  where
    bad : nat_le (n + 1) 255 ≡ false → n + 1 ≤ 255 → ⊥
    bad f g = grind (arith, nat_tests)

    key : Key
    key = record { query = n + 1; word = word; limit = limit; start = start; end = end; prefix = false }

    taken : (prefix ≡ true → schema.min_prefix ≤ letters) → IsKeyOf schema (as_prefix prefix key)
    taken enough f = record { taken = (marks f).0; goes_on = (marks f).1; enough = long (enough f) }

    by : (b : Bool) → nat_le (n + 1) 255 ≡ b → IsClean (word_sign prefix (if b then key ∷ [] else nobodies 1)) (wrong_word n (is_short schema.min_prefix prefix letters))
        → IsStepOf schema n limit (word_sign prefix (if b then key ∷ [] else nobodies 1)) (if b then n + 1 else 256) limit × ((if b then n + 1 else 256) ≤ 255)
    by true f clean =
        let low : n + 1 ≤ 255 = leb-true (n + 1) 255 f in
        ((refl, low, refl, refl, plain, taken (word_clean n schema.min_prefix letters prefix clean).1), low)
    by false f clean = absurd (bad f (within n 1 few (word_clean n schema.min_prefix letters prefix clean).0))

-- ---- quoted pieces
nobody_some : (k : ℕ) → 0 < k → nobodies k ≢ []
nobody_some k above = zeroed (k == 0) refl (k == 1)
  where
    zeroed : (b : Bool) → (k == 0) ≡ b → (c : Bool) → (if b then [] else if c then nobody ∷ [] else nobody ∷ nobody ∷ []) ≢ []
    zeroed true e c = absurd (omega (arith, above, eqb-true k 0 e))
    zeroed false e true = λ f. cc
    zeroed false e false = λ f. cc

-- keywords have a sign
signed : (keys : List Key) (how : How) → keys ≢ [] → (sign : Sign) × (quoted_sign keys how ≡ Some sign)
signed [] how some = absurd (some refl)
signed (key ∷ []) hows.Phrase some = (_, refl)
signed (key ∷ other ∷ keys) hows.Phrase some = (_, refl)
signed (key ∷ keys) (hows.Within n) some = (_, refl)
signed (key ∷ keys) (hows.AtLeast n) some = (_, refl)
signed (key ∷ keys) (hows.Share digits places) some = (_, refl)

unsigned : (how : How) → quoted_sign [] how ≡ None
unsigned hows.Phrase = refl
unsigned (hows.Within n) = refl
unsigned (hows.AtLeast n) = refl
unsigned (hows.Share digits places) = refl

not_out : (n : ℕ) (out : Bool) (more : ℕ) → wrong_quoted n out more ≡ None → (out ≡ false) × (wrong_count n more ≡ None)
not_out n true more e = cc
not_out n false more e = (refl, e)

-- keywords within the limit
keys_step : (schema : Schema) (n : ℕ) (limit : Limit) (words : List (List ℕ)) (how : How) → words ≢ [] → n + length words ≤ 255 → All (IsPlainWord every) words → IsRightHow how
    → IsStepOf schema n limit (quoted_sign (keys_after n limit false false words) how) (n + length words) limit
keys_step schema n limit [] how some few all right = absurd (some refl)
keys_step schema n limit (word ∷ []) hows.Phrase some few all right = (refl, few, refl, refl, All-head (IsPlainWord every) word [] all, λ f. absurd (both_ways false refl f))
keys_step schema n limit (word ∷ other ∷ words) hows.Phrase some few all right =
    let keys = keys_length n limit (word ∷ other ∷ words) in
    (ap (λ k. n + k) (sym keys), few, refl, omega (arith, keys), keys_are n limit (word ∷ other ∷ words) all)
keys_step schema n limit (word ∷ words) (hows.Within k) some few all right =
    (ap (λ k. n + k) (sym (keys_length n limit (word ∷ words))), few, refl, (λ e. cc), keys_are n limit (word ∷ words) all, (λ e. cc), right)
keys_step schema n limit (word ∷ words) (hows.AtLeast k) some few all right =
    (ap (λ k. n + k) (sym (keys_length n limit (word ∷ words))), few, refl, (λ e. cc), keys_are n limit (word ∷ words) all, (λ e. cc), right)
keys_step schema n limit (word ∷ words) (hows.Share digits places) some few all right =
    (ap (λ k. n + k) (sym (keys_length n limit (word ∷ words))), few, refl, (λ e. cc), keys_are n limit (word ∷ words) all, (λ e. cc), right)

pub quoted_step : (schema : Schema) (n : ℕ) (limit : Limit) (words : List (List ℕ)) (how : How) → n ≤ 255 → All (IsPlainWord every) words → (is_out how ≡ false → IsRightHow how)
    → IsClean (quoted_sign (keys_of n limit false false words) how) (wrong_quoted n (is_out how) (length words))
    → IsStepOf schema n limit (quoted_sign (keys_of n limit false false words) how) (counted n (length words)) limit × (counted n (length words) ≤ 255)
quoted_step schema n limit [] how few all right clean =
    let low : n + 0 ≤ 255 = omega (arith, few) in
    let count = counted_is n 0 low in
    let same : n + 0 ≡ n = omega arith in
    let none = by (nat_le (n + 0) 255) in
    (subst (λ o. IsStepOf schema n limit o (counted n 0) limit) (sym none) (count ∙ same, refl), subst (λ k. k ≤ 255) (sym count) low)
  where
    by : (b : Bool) → quoted_sign (if b then [] else nobodies 0) how ≡ None
    by true = unsigned how
    by false = unsigned how
quoted_step schema n limit (word ∷ words) how few all right clean = by (nat_le (n + length (word ∷ words)) 255) refl clean
  where
    all_words : List (List ℕ)
    all_words = word ∷ words

    bad : nat_le (n + length all_words) 255 ≡ false → n + length all_words ≤ 255 → ⊥
    bad f g = grind (arith, nat_tests)

    by : (b : Bool) → nat_le (n + length all_words) 255 ≡ b → IsClean (quoted_sign (if b then keys_after n limit false false all_words else nobodies (length all_words)) how) (wrong_quoted n (is_out how) (length all_words))
        → IsStepOf schema n limit (quoted_sign (if b then keys_after n limit false false all_words else nobodies (length all_words)) how) (if b then n + length all_words else 256) limit × ((if b then n + length all_words else 256) ≤ 255)
    by true f clean =
        let low : n + length all_words ≤ 255 = leb-true (n + length all_words) 255 f in
        let sign = signed (keys_after n limit false false all_words) how (λ e. cc) in
        let wrong = clean_of _ sign.0 (wrong_quoted n (is_out how) (length all_words)) sign.1 clean in
        (keys_step schema n limit all_words how (λ e. cc) low all (right (not_out n (is_out how) (length all_words) wrong).0), low)
    by false f clean =
        let sign = signed (nobodies (length all_words)) how (nobody_some (length all_words) (omega arith)) in
        let wrong = clean_of _ sign.0 (wrong_quoted n (is_out how) (length all_words)) sign.1 clean in
        absurd (bad f (within n (length all_words) few (not_out n (is_out how) (length all_words) wrong).1))
