-- Posting lists: for a word, the rows that have it, each with the word's places in it.
use Rattle.std.specs.Prelude.{◌≡◌, ℕ, ◌+◌, ◌-◌, ◌<◌, ◌≤◌, ◌^◌, List, [], ◌∷◌, ◌++◌, Option, Some, None, length, drop}
use Rattle.posting_codec.specs.Numbers.{number}
use Rattle.posting_codec.specs.HitLists.{AreHits, hit_list}

-- the least row that may stand behind another one, or at the front of a list
abbrev pub least_after : Option ℕ → ℕ
least_after None = 0
least_after (Some row) = row + 1

-- a row's entry whose hit list has these bytes, where this is the least row that it can be
abbrev pub spelled_posting : ℕ → ℕ → List ℕ → List ℕ
spelled_posting least row hits = number (row + 1 - least) ++ number (length hits) ++ hits

-- a row's entry, where this is the least row that it can be: how far the row lies behind the one before (the first row of a chunk
-- lies 1 behind none), the length of the hit list in bytes, and the hit list
abbrev pub posting : ℕ → ℕ → List (ℕ × ℕ) → List ℕ
posting least row hits = number (row + 1 - least) ++ number (length (hit_list hits)) ++ hit_list hits

-- the entries of ascending rows, of which the first is this one at least
abbrev pub posting_list : ℕ → List (ℕ × List (ℕ × ℕ)) → List ℕ
posting_list least [] = []
posting_list least (entry ∷ entries) = posting least entry.0 entry.1 ++ posting_list (entry.0 + 1) entries

-- an entry as a list can have it: the row is no less than this one and can be counted, and it has hits
pub record IsEntry (least row : ℕ) (hits : List (ℕ × ℕ)) : Type 0 where
  pub behind : least ≤ row
  pub counted : row + 1 < 2 ^ 32
  pub are : AreHits hits

-- the entry is spelled at this place of the bytes, before the rest of them
pub record IsEntryAt (bytes : List ℕ) (at least row : ℕ) (hits : List (ℕ × ℕ)) (rest : List ℕ) : Type 0 where
  pub is : IsEntry least row hits
  pub here : drop at bytes ≡ posting least row hits ++ rest
