-- The words that a slice of a text spells: a word by itself, or what stands between quotes.
use Rattle.std.specs.Prelude.{ℕ, List, [], ◌∷◌, Bool, true, false, ◌==◌, ◌||◌, Option, Some, None, if◌then◌else◌, map, filter, take, encode_utf8_all}
use Rattle.std.specs.List.{filter_map, slice_split}
use Rattle.std.specs.Str.{chars}
use Rattle.doc_types.specs.declared.tokens.TheConstants.{MAX_WORD_CHARS}

-- what a character is folded to, where `^` and `$` always separate
abbrev pub plain_letter : (ℕ → Option ℕ) → ℕ → Option ℕ
plain_letter fold c = if (c == 94) || (c == 36) then None else fold c

-- What each character is folded to, or nothing where it separates: `\` with a character after it is that character by the
-- table alone. The flag says that a `\` stands directly before.
abbrev pub letters_from : (ℕ → Option ℕ) → Bool → List ℕ → List (Option ℕ)
letters_from fold false [] = []
letters_from fold true [] = None ∷ []
letters_from fold false (c ∷ cs) = if c == 92 then letters_from fold true cs else plain_letter fold c ∷ letters_from fold false cs
letters_from fold true (c ∷ cs) = fold c ∷ letters_from fold false cs

abbrev pub letters_in : (ℕ → Option ℕ) → List ℕ → List (Option ℕ)
letters_in fold cs = letters_from fold false cs

abbrev pub separates : Option ℕ → Bool
separates None = true
separates (Some v) = false

abbrev pub has_letters : List (Option ℕ) → Bool
has_letters [] = false
has_letters (v ∷ vs) = true

-- the runs of letters between what separates
abbrev pub runs_in : List (Option ℕ) → List (List (Option ℕ))
runs_in letters = filter has_letters (slice_split separates letters)

-- the word of a run: its letters, cut, in UTF-8
abbrev pub word_of : List (Option ℕ) → List ℕ
word_of run = encode_utf8_all (filter_map (λ letter. letter) (take MAX_WORD_CHARS run))

-- the words of a slice, given by its bytes
abbrev pub words_in : (ℕ → Option ℕ) → List ℕ → List (List ℕ)
words_in fold bytes = map word_of (runs_in (letters_in fold (chars bytes)))
