-- What the keys of an index may have as their values.
use Rattle.std.specs.Prelude.{not, ◌≡◌, ◌≢◌, ℕ, List, [], ◌∷◌, Bool, true, false, ◌+◌, ◌-◌, ◌*◌, ◌==◌, ◌&&◌, ◌||◌, nat_le, Option, Some, None, is_some, if◌then◌else◌, codes, map}
use Rattle.std.specs.Char.{is_ascii_alphabetic, is_ascii_digit}
use Rattle.std.specs.Int.{is_in_range}
use Rattle.std.specs.List.{list_all, slice_split}
use Rattle.std.specs.Str.{IsUtf8, bytes_eq}
use Rattle.charset_map.specs.TableText.{IsTableOf}
use Rattle.doc_types.specs.Schemas.{AreDistinct}
use Rattle.doc_types.specs.declared.tokens.TheConstants.{MAX_WORD_CHARS}
use Rattle.mark_scan.specs.Markup.{is_name_byte}
use Rattle.conf_text.specs.declared.keys.Key.{Key}
use Rattle.conf_text.specs.declared.keys.Key.TheVariants as keys
use Rattle.conf_text.specs.Lines.{trimmed}
use Rattle.conf_text.specs.Shapes.{is_name, small}

-- the name of a tag: a letter, and then letters, digits, `_`, `-` and `:`
abbrev pub is_tag_name : List ℕ → Bool
is_tag_name [] = false
is_tag_name (first ∷ rest) = is_ascii_alphabetic first && list_all is_name_byte rest

-- the names between commas, without the blanks around them, in small letters
abbrev pub zones_in : List ℕ → List (List ℕ)
zones_in value = map (λ piece. small (trimmed piece)) (slice_split (λ b. b == 44) value)

-- a column can have this name: it isn't `id`
abbrev pub can_be_column : List ℕ → Bool
can_be_column value = is_name value && not (bytes_eq (small value) (codes "id"))

-- 0 or 1
abbrev pub is_switch : List ℕ → Bool
is_switch value = bytes_eq value (codes "0") || bytes_eq value (codes "1")

-- the number that digits write, where it is at most the length of the longest word
abbrev pub prefix_len_of : ℕ → Option ℕ
prefix_len_of n = if nat_le n MAX_WORD_CHARS then Some n else None

-- The fewest characters of a prefix: one digit, or two of which the first one isn't 0, that write a number of at most that.
abbrev pub prefix_len_in : List ℕ → Option ℕ
prefix_len_in (b ∷ []) = if is_ascii_digit b then prefix_len_of (b - 48) else None
prefix_len_in (a ∷ b ∷ []) = if is_in_range 49 57 a && is_ascii_digit b then prefix_len_of (10 * (a - 48) + (b - 48)) else None
prefix_len_in _ = None

-- the text of a character table
pub record IsCharsetText (value : List ℕ) : Type 0 where
  pub utf8 : IsUtf8 value
  pub table : ℕ → Option ℕ
  pub is : IsTableOf value table

-- distinct names of tags
pub record AreZoneNames (zones : List (List ℕ)) : Type 0 where
  pub form : list_all is_tag_name zones ≡ true
  pub distinct : AreDistinct zones

-- A key may have this value.
abbrev pub IsValue : Key → List ℕ → Type 0
IsValue keys.Type value = bytes_eq value (codes "rt") ≡ true
IsValue keys.Path value = value ≢ []
IsValue keys.RtField value = can_be_column value ≡ true
IsValue keys.RtAttrUint value = can_be_column value ≡ true
IsValue keys.RtAttrBool value = can_be_column value ≡ true
IsValue keys.RtAttrBigint value = can_be_column value ≡ true
IsValue keys.RtAttrTimestamp value = can_be_column value ≡ true
IsValue keys.CharsetTable value = IsCharsetText value
IsValue keys.HtmlStrip value = is_switch value ≡ true
IsValue keys.IndexSp value = is_switch value ≡ true
IsValue keys.IndexZones value = AreZoneNames (zones_in value)
IsValue keys.Morphology value = bytes_eq value (codes "none") ≡ true
IsValue keys.MinPrefixLen value = is_some (prefix_len_in value) ≡ true
IsValue keys.MinWordLen value = bytes_eq value (codes "1") ≡ true
IsValue keys.RtMemLimit value = Unit {0}
IsValue keys.Dict value = Unit {0}
IsValue keys.Docinfo value = Unit {0}
IsValue keys.Mlock value = Unit {0}
IsValue keys.Preopen value = Unit {0}
IsValue keys.OndiskAttrs value = Unit {0}
IsValue keys.CharsetType value = Unit {0}
