-- The word that a text is folded to, as a word of a document is.
use Rattle.std.specs.Prelude.{ℕ, List, [], ◌∷◌, Option, Some, None, encode_utf8_all, if◌then◌else◌, length, nat_lt, option_map}
use Rattle.std.specs.Option.{option_and_then}
use Rattle.std.specs.Str.{chars}
use Rattle.doc_types.specs.declared.tokens.TheConstants.{MAX_WORD_CHARS}

-- each character as it is folded, where a table has all of them
abbrev pub fold_all : (ℕ → Option ℕ) → List ℕ → Option (List ℕ)
fold_all fold [] = Some []
fold_all fold (c ∷ cs) = option_and_then (λ letter. option_map (λ letters. letter ∷ letters) (fold_all fold cs)) (fold c)

-- The word, unless a character isn't in the table or there are more than a word has.
abbrev pub folded_word : (ℕ → Option ℕ) → List ℕ → Option (List ℕ)
folded_word fold text = if nat_lt MAX_WORD_CHARS (length (chars text)) then None else option_map encode_utf8_all (fold_all fold (chars text))
