-- The words that are read of a slice have 1 to 42 characters each.
use Rattle.std.proofs.Common.{arith, ◌≡◌, ◌≤◌, ℕ, zero, suc, Bool, true, false, List, [], ◌∷◌, Option, Some, None, length, take, map, refl, ap, subst, chars}
use Rattle.std.specs.Prelude.{All, Contains, filter, if◌then◌else◌, ◌==◌, ◌||◌}
use Rattle.std.specs.List.{filter_map, slice_split, onto_first}
use Rattle.std.proofs.Math.Utf8.{scalar, scalars}
use Rattle.std.proofs.lemmas.Bool.{and_from}
use Rattle.std.proofs.lemmas.List.{length-map}
use Rattle.std.proofs.lemmas.Str.{chars-encodes}
use Rattle.std.proofs.lemmas.List.Elements.{All-nil, All-cons}
use Rattle.doc_types.specs.declared.tokens.TheConstants.{MAX_WORD_CHARS}
use Rattle.query_marks.specs.QueryWords.{plain_letter, letters_from, letters_in, separates, has_letters, runs_in, word_of, words_in}
use Rattle.query_grammar.specs.DeepValues.{GivesChars}
use Rattle.query_write.specs.steps.Signs.{IsPlainWord}
use Rattle.query_write.specs.steps.Carried.{every}

-- each element has the property
abbrev Each : {X : Type 0} → (X → Type 0) → List X → Type 0
Each P [] = Unit {0}
Each P (x ∷ xs) = P x × Each P xs

each_all : {X : Type 0} (P : X → Type 0) (xs : List X) → Each P xs → All P xs
each_all P [] h = All-nil P
each_all P (x ∷ xs) (first, rest) = All-cons P x xs first (each_all P xs rest)

each_contains : {X : Type 0} (P : X → Type 0) (xs : List X) → Each P xs → (x : X) → Contains xs x → P x
each_contains P [] h x (k, within, at) = absurd (omega (arith, within))
each_contains P (y ∷ xs) (first, rest) x (zero, within, at) = subst P at first
each_contains P (y ∷ xs) (first, rest) x (suc k, within, at) = each_contains P xs rest x (k, omega (arith, within), at)

-- ---- letters are characters, or they separate
abbrev MayStand : Option ℕ → Type 0
MayStand None = Unit {0}
MayStand (Some v) = scalar v ≡ true

abbrev IsLetter : Option ℕ → Type 0
IsLetter None = ⊥
IsLetter (Some v) = scalar v ≡ true

module _ (fold : ℕ → Option ℕ) (gives : GivesChars fold) where
  folded_stands : (c : ℕ) (o : Option ℕ) → fold c ≡ o → MayStand o
  folded_stands c None e = tt
  folded_stands c (Some v) e = gives c v e

  plain_stands : (c : ℕ) (b : Bool) → MayStand (if b then None else fold c)
  plain_stands c true = tt
  plain_stands c false = folded_stands c (fold c) refl

  letters_stand : (escaped : Bool) (cs : List ℕ) → Each MayStand (letters_from fold escaped cs)
  letters_stand false [] = tt
  letters_stand true [] = (tt, tt)
  letters_stand false (c ∷ cs) = by (c == 92) (letters_stand true cs) (plain_stands c ((c == 94) || (c == 36))) (letters_stand false cs)
    where
      by : (b : Bool) → Each MayStand (letters_from fold true cs) → MayStand (plain_letter fold c) → Each MayStand (letters_from fold false cs) → Each MayStand (if b then letters_from fold true cs else plain_letter fold c ∷ letters_from fold false cs)
      by true after first rest = after
      by false after first rest = (first, rest)
  letters_stand true (c ∷ cs) = (folded_stands c (fold c) refl, letters_stand false cs)

-- ---- runs
onto_each : {X : Type 0} (P : X → Type 0) (x : X) (parts : List (List X)) → P x → Each (Each P) parts → Each (Each P) (onto_first x parts)
onto_each P x [] first rest = ((first, tt), tt)
onto_each P x (part ∷ parts) first (next, rest) = ((first, next), rest)

split_letters : (letters : List (Option ℕ)) → Each MayStand letters → Each (Each IsLetter) (slice_split separates letters)
split_letters [] h = (tt, tt)
split_letters (None ∷ letters) (first, rest) = (tt, split_letters letters rest)
split_letters (Some v ∷ letters) (first, rest) = onto_each IsLetter (Some v) (slice_split separates letters) first (split_letters letters rest)

-- a run of letters, which has one
abbrev IsRun : List (Option ℕ) → Type 0
IsRun [] = ⊥
IsRun (o ∷ run) = IsLetter o × Each IsLetter run

runs_filter : (runs : List (List (Option ℕ))) → Each (Each IsLetter) runs → Each IsRun (filter has_letters runs)
runs_filter [] h = tt
runs_filter ([] ∷ runs) (first, rest) = runs_filter runs rest
runs_filter ((o ∷ run) ∷ runs) (first, rest) = (first, runs_filter runs rest)

-- ---- words
values_short : (n : ℕ) (run : List (Option ℕ)) → length (filter_map (λ letter. letter) (take n run)) ≤ n
values_short zero run = omega arith
values_short (suc n) [] = omega arith
values_short (suc n) (None ∷ run) = omega (arith, values_short n run)
values_short (suc n) (Some v ∷ run) = omega (arith, values_short n run)

values_chars : (n : ℕ) (run : List (Option ℕ)) → Each IsLetter run → Each (λ c. scalar c ≡ true) (filter_map (λ letter. letter) (take n run))
values_chars zero run h = tt
values_chars (suc n) [] h = tt
values_chars (suc n) (None ∷ run) (first, rest) = absurd first
values_chars (suc n) (Some v ∷ run) (first, rest) = (first, values_chars n run rest)

run_word : (run : List (Option ℕ)) → IsRun run → IsPlainWord every (word_of run)
run_word [] h = absurd h
run_word (None ∷ run) (first, rest) = absurd first
run_word (Some v ∷ run) (first, rest) = record {
  chars = filter_map (λ letter. letter) (take MAX_WORD_CHARS (Some v ∷ run));
  is = refl;
  some = λ e. cc;
  short = values_short MAX_WORD_CHARS (Some v ∷ run);
  are_chars = each_contains (λ c. scalar c ≡ true) (filter_map (λ letter. letter) (take MAX_WORD_CHARS (Some v ∷ run))) (values_chars MAX_WORD_CHARS (Some v ∷ run) (first, rest));
  folded = λ c has. refl;
}

runs_words : (runs : List (List (Option ℕ))) → Each IsRun runs → Each (IsPlainWord every) (map word_of runs)
runs_words [] h = tt
runs_words (run ∷ runs) (first, rest) = (run_word run first, runs_words runs rest)

pub words_plain : (fold : ℕ → Option ℕ) → GivesChars fold → (bytes : List ℕ) → All (IsPlainWord every) (words_in fold bytes)
words_plain fold gives bytes =
    each_all (IsPlainWord every) (words_in fold bytes)
    (runs_words (runs_in (letters_in fold (chars bytes))) (runs_filter (slice_split separates (letters_in fold (chars bytes))) (split_letters (letters_in fold (chars bytes)) (letters_stand fold gives false (chars bytes)))))

-- a word has as many characters as letters, up to the longest word's
long_values : (k n : ℕ) (folded : List ℕ) → k ≤ n → k ≤ length folded → k ≤ length (filter_map (λ letter. letter) (take n (map (λ (v : ℕ). Some v) folded)))
long_values zero n folded few some = omega arith
long_values (suc k) zero folded few some = absurd (omega (arith, few))
long_values (suc k) (suc n) [] few some = absurd (omega (arith, some))
long_values (suc k) (suc n) (v ∷ folded) few some = omega (arith, long_values k n folded (omega (arith, few)) (omega (arith, some)))

all_letters : (folded : List ℕ) → Each MayStand (map (λ (v : ℕ). Some v) folded) → Each IsLetter (map (λ (v : ℕ). Some v) folded)
all_letters [] each = tt
all_letters (v ∷ folded) (first, rest) = (first, all_letters folded rest)

all_scalars : (cs : List ℕ) → Each (λ c. scalar c ≡ true) cs → scalars cs ≡ true
all_scalars [] each = refl
all_scalars (c ∷ cs) (first, rest) = and_from (scalar c) (scalars cs) first (all_scalars cs rest)

pub long_word : (fold : ℕ → Option ℕ) → GivesChars fold → (bytes folded : List ℕ) (shortest : ℕ) → letters_in fold (chars bytes) ≡ map (λ (v : ℕ). Some v) folded → shortest ≤ MAX_WORD_CHARS → shortest ≤ length (letters_in fold (chars bytes))
    → shortest ≤ length (chars (word_of (map (λ (v : ℕ). Some v) folded)))
long_word fold gives bytes folded shortest letters few long =
    let run : List (Option ℕ) = map (λ (v : ℕ). Some v) folded in
    let values : List ℕ = filter_map (λ letter. letter) (take MAX_WORD_CHARS run) in
    let are : Each IsLetter run = all_letters folded (subst (Each MayStand) letters (letters_stand fold gives false (chars bytes))) in
    let same : chars (word_of run) ≡ values = chars-encodes values (all_scalars values (values_chars MAX_WORD_CHARS run are)) in
    let enough : shortest ≤ length folded = omega (arith, long, ap length letters, length-map folded (λ (v : ℕ). Some v)) in
    omega (arith, ap length same, long_values shortest MAX_WORD_CHARS folded few enough)
