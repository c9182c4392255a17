-- The markup of a text. Places are numbers of bytes; past its end a text has the byte 0.
use Rattle.std.specs.Prelude.{◌≡◌, ◌≢◌, ◌⊎◌, ℕ, ◌+◌, ◌-◌, ◌<◌, ◌≤◌, List, [], ◌∷◌, Bool, false, ◌==◌, ◌||◌, IsTrue, length, take, drop, slice_index, slice_range}
use Rattle.std.specs.Char.{is_ascii_alphabetic, is_ascii_alphanumeric}

-- a byte of a tag's name: a letter, a digit, `_`, `-` or `:`
abbrev pub is_name_byte : ℕ → Bool
is_name_byte b = is_ascii_alphanumeric b || (b == 95) || (b == 45) || (b == 58)

-- `-->` stands at the place
pub record EndsComment (text : List ℕ) (place : ℕ) : Type 0 where
  pub first : slice_index text place ≡ 45
  pub second : slice_index text (place + 1) ≡ 45
  pub third : slice_index text (place + 2) ≡ 62

-- The text begins with a comment: `<!--` up to the next `-->`, which stands at the place `end`.
pub record BeginsComment (text : List ℕ) (end : ℕ) : Type 0 where
  pub opens : slice_index text 0 ≡ 60
  pub bang : slice_index text 1 ≡ 33
  pub first : slice_index text 2 ≡ 45
  pub second : slice_index text 3 ≡ 45
  pub opened : 4 ≤ end
  pub ends : EndsComment text end
  pub next : (k : ℕ) → 4 ≤ k → k < end → EndsComment text k → ⊥

-- The text begins with a tag: `<`, or `</`, a name from the place `from` to the place `to`, whose first byte is a letter
-- and after which no further byte of a name stands, and then the next `>`, at the place `last`.
pub record BeginsTag (text : List ℕ) (from to last : ℕ) : Type 0 where
  pub opens : slice_index text 0 ≡ 60
  pub slash : (from ≡ 1) ⊎ ((from ≡ 2) × (slice_index text 1 ≡ 47))
  pub letter : IsTrue (is_ascii_alphabetic (slice_index text from))
  pub some : from < to
  pub name : (k : ℕ) → from ≤ k → k < to → IsTrue (is_name_byte (slice_index text k))
  pub whole : is_name_byte (slice_index text to) ≡ false
  pub after : to ≤ last
  pub closes : slice_index text last ≡ 62
  pub next : (k : ℕ) → to ≤ k → k < last → slice_index text k ≢ 62

-- The text begins with markup.
pub data BeginsMarkup (text : List ℕ) : Type 0 where
  by_comment : (end : ℕ) → BeginsComment text end → BeginsMarkup text
  by_tag : (from to last : ℕ) → BeginsTag text from to last → BeginsMarkup text

-- a tag of a text
pub record TagText : Type 0 where
  pub text : List ℕ
  pub name : List ℕ
  -- whether `/` stands before the name
  pub closing : Bool
  -- whether `/` stands before the `>`
  pub empty : Bool

-- a part of a text
pub data TextPart : Type 0 where
  plain : List ℕ → TextPart
  comment : List ℕ → TextPart
  tag : TagText → TextPart

-- The text begins with this plain text: no markup begins at any of its bytes, and after it markup begins or the text ends.
pub record BeginsPlain (text plain : List ℕ) : Type 0 where
  pub some : 0 < length plain
  pub front : plain ≡ take (length plain) text
  pub none : (k : ℕ) → k < length plain → BeginsMarkup (drop k text) → ⊥
  pub up_to : length plain < length text → BeginsMarkup (drop (length plain) text)

-- The text begins with this comment.
pub record BeginsWithComment (text comment : List ℕ) : Type 0 where
  pub end : ℕ
  pub begins : BeginsComment text end
  pub is : comment ≡ take (end + 3) text

-- The text begins with this tag.
pub record BeginsWithTag (text : List ℕ) (tag : TagText) : Type 0 where
  pub from : ℕ
  pub to : ℕ
  pub last : ℕ
  pub begins : BeginsTag text from to last
  pub is : tag.text ≡ take (last + 1) text
  pub name : tag.name ≡ slice_range text from to
  pub closing : tag.closing ≡ (from == 2)
  pub empty : tag.empty ≡ (slice_index text (last - 1) == 47)

-- The text begins with this part.
abbrev pub BeginsWith : List ℕ → TextPart → Type 0
BeginsWith text (plain bytes) = BeginsPlain text bytes
BeginsWith text (comment bytes) = BeginsWithComment text bytes
BeginsWith text (tag t) = BeginsWithTag text t

-- the bytes of a part
abbrev pub part_bytes : TextPart → List ℕ
part_bytes (plain bytes) = bytes
part_bytes (comment bytes) = bytes
part_bytes (tag t) = t.text

-- From its front the text is these parts, one after the other, and then the rest.
abbrev pub Splits : List ℕ → List TextPart → List ℕ → Type 0
Splits text [] rest = rest ≡ text
Splits text (part ∷ parts) rest = BeginsWith text part × Splits (drop (length (part_bytes part)) text) parts rest

-- These are the parts of a text.
abbrev pub AreParts : List ℕ → List TextPart → Type 0
AreParts text parts = Splits text parts []
