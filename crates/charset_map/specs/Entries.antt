-- Entries of a character table: `c`, `c..d`, `c->e` and `c..d->e..f`.
use Rattle.std.specs.Prelude.{◌≡◌, ℕ, List, ◌∷◌, ◌++◌}
use Rattle.charset_map.specs.Characters.{IsCharacter}
use Rattle.charset_map.specs.declared.entries.CharRange.{CharRange}
use Rattle.charset_map.specs.declared.entries.Entry.{Entry}

-- one character
abbrev pub IsSingle : List ℕ → CharRange → Type 0
IsSingle text range = IsCharacter text range.first × (range.last ≡ range.first)

-- `c..d`
pub record IsRange (text : List ℕ) (range : CharRange) : Type 0 where
  pub low : List ℕ
  pub high : List ℕ
  pub is : text ≡ low ++ 46 ∷ 46 ∷ high
  pub first : IsCharacter low range.first
  pub last : IsCharacter high range.last

-- both sides of an arrow
pub record IsMapped (IsSide : List ℕ → CharRange → Type 0) (text : List ℕ) (entry : Entry) : Type 0 where
  pub left : List ℕ
  pub right : List ℕ
  pub is : text ≡ left ++ 45 ∷ 62 ∷ right
  pub from : IsSide left entry.from
  pub to : IsSide right entry.to

-- the text is this entry
pub data IsEntry (text : List ℕ) (entry : Entry) : Type 0 where
  single : IsSingle text entry.from → entry.to ≡ entry.from → IsEntry text entry
  range : IsRange text entry.from → entry.to ≡ entry.from → IsEntry text entry
  mapped : IsMapped IsSingle text entry → IsEntry text entry
  mapped_range : IsMapped IsRange text entry → IsEntry text entry
