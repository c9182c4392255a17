-- What a line is, by what it says.
use Rattle.std.specs.Prelude.{ℕ, ◌-◌, List, [], ◌∷◌, Bool, true, false, ◌==◌, ◌||◌, ◌&&◌, nat_lt, Option, if◌then◌else◌, codes, length, take, drop, slice_index}
use Rattle.std.specs.List.{position_or_len, before_first, after_first}
use Rattle.std.specs.Str.{bytes_eq, str_to_ascii_lowercase}
use Rattle.charset_map.specs.Characters.{is_blank}
use Rattle.charset_map.specs.TableText.{without_back, without_front}
use Rattle.doc_types.specs.Schemas.{is_column_name}
use Rattle.conf_text.specs.declared.keys.Key.{Key}
use Rattle.conf_text.specs.Keys.{key_named}
use Rattle.conf_text.specs.Lines.{trimmed}

-- the shape of a line
pub data Shape : Type 0 where
  -- nothing, or a comment
  blank : Shape
  -- the head of an index: its name in small letters, and whether `{` stands after it
  index_head : List ℕ → Bool → Shape
  -- the head of a section of another kind, and whether `{` stands after it
  other_head : Bool → Shape
  -- the head of a section of no known kind
  unknown_head : Shape
  -- `{` and `}`
  opening : Shape
  closing : Shape
  -- `key = value`, and the key of an index that it is, if it is one
  entry : Option Key → List ℕ → Shape
  -- anything else
  misformed : Shape

-- in small letters
abbrev pub small : List ℕ → List ℕ
small text = str_to_ascii_lowercase text

-- a name: a letter or `_`, and then letters, digits and `_`
abbrev pub is_name : List ℕ → Bool
is_name word = is_column_name (small word)

-- the kinds of sections that have a name, and those that have none; a section's word is given in small letters
abbrev pub wants_name : List ℕ → Bool
wants_name word = bytes_eq word (codes "index") || bytes_eq word (codes "source")

abbrev pub wants_no_name : List ℕ → Bool
wants_no_name word = bytes_eq word (codes "searchd") || bytes_eq word (codes "indexer") || bytes_eq word (codes "common")

-- the head of one word
abbrev pub bare_head : List ℕ → Bool → Shape
bare_head word opens = if wants_no_name word then other_head opens else (if wants_name word then misformed else unknown_head)

-- the head of a word and a name
abbrev pub named_head : List ℕ → List ℕ → Bool → Shape
named_head word name opens =
    if bytes_eq word (codes "index") then index_head name opens
    else (if bytes_eq word (codes "source") then other_head opens
    else (if wants_no_name word then misformed else unknown_head))

-- a text's first word, and what stands after it
abbrev pub first_word : List ℕ → List ℕ
first_word text = before_first is_blank text

abbrev pub after_word : List ℕ → List ℕ
after_word text = without_front (drop (length (first_word text)) text)

-- a head by its first word and what stands after that
unfoldable pub head : List ℕ → List ℕ → Bool → Shape
head word [] opens = if is_name word then bare_head (small word) opens else misformed
head word (b ∷ rest) opens = if is_name word && is_name (b ∷ rest) then named_head (small word) (small (b ∷ rest)) opens else misformed

-- a head of these words
abbrev pub head_of : List ℕ → Bool → Shape
head_of words opens = head (first_word words) (after_word words) opens

-- whether a text ends with `{`, and what stands before that
abbrev pub opens_section : List ℕ → Bool
opens_section text = slice_index text (length text - 1) == 123

abbrev pub before_brace : List ℕ → List ℕ
before_brace text = without_back (take (length text - 1) text)

-- a line without `=`
abbrev pub head_shape : List ℕ → Shape
head_shape text = if opens_section text then head_of (before_brace text) true else head_of text false

-- a line with `=`, by what stands before and after the first one
abbrev pub entry_shape : List ℕ → List ℕ → Shape
entry_shape key value = if is_name key then entry (key_named (small key)) value else misformed

-- whether a text has `=`, and what stands before and after the first one
abbrev pub has_equals : List ℕ → Bool
has_equals text = nat_lt (position_or_len (λ b. b == 61) text) (length text)

abbrev pub before_equals : List ℕ → List ℕ
before_equals text = trimmed (before_first (λ b. b == 61) text)

abbrev pub after_equals : List ℕ → List ℕ
after_equals text = trimmed (after_first (λ b. b == 61) text)

-- the shape of a line that is no brace and not empty
abbrev pub words_shape : List ℕ → Shape
words_shape text = if has_equals text then entry_shape (before_equals text) (after_equals text) else head_shape text

-- the shape of a line that says this
unfoldable pub shape_of : List ℕ → Shape
shape_of text =
    if length text == 0 then blank
    else (if bytes_eq text (codes "{") then opening
    else (if bytes_eq text (codes "}") then closing
    else words_shape text))
