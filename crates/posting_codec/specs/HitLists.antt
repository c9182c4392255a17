-- Hit lists: the spelling of a word's places in one row, and where one stands.
use Rattle.std.specs.Prelude.{◌≡◌, ℕ, ◌+◌, ◌-◌, ◌*◌, ◌<◌, ◌≤◌, List, [], ◌∷◌, ◌++◌, length, drop}
use Rattle.posting_codec.specs.Numbers.{number}

-- a field's number below 32, and a position of 1 to 65,535
pub record IsHit (hit : ℕ × ℕ) : Type 0 where
  pub field : hit.0 < 32
  pub from_one : 1 ≤ hit.1
  pub within : hit.1 < 65536

-- a hit as one number: by field, then by position
abbrev pub key : ℕ × ℕ → ℕ
key hit = hit.0 * 65536 + hit.1

-- hits that lie one behind the other, the first one behind this key
abbrev pub Ascend : ℕ → List (ℕ × ℕ) → Type 0
Ascend before [] = Unit {0}
Ascend before (hit ∷ hits) = IsHit hit × (before < key hit) × Ascend (key hit) hits

-- the places of a word in a row that has it: some hits, each behind the one before
pub record AreHits (hits : List (ℕ × ℕ)) : Type 0 where
  pub some : 1 ≤ length hits
  pub ascend : Ascend 0 hits

-- how far each hit's key lies behind the one before, the first one behind this key, each as a short number
abbrev pub differences : ℕ → List (ℕ × ℕ) → List ℕ
differences before [] = []
differences before (hit ∷ hits) = number (key hit - before) ++ differences (key hit) hits

-- the spelling of a hit list: how many hits, and then how far each lies behind the one before
unfoldable pub hit_list : List (ℕ × ℕ) → List ℕ
hit_list hits = number (length hits) ++ differences 0 hits

-- the hits are spelled at this place of the bytes, before the rest of them
pub record AreHitsAt (bytes : List ℕ) (at : ℕ) (hits : List (ℕ × ℕ)) (rest : List ℕ) : Type 0 where
  pub are : AreHits hits
  pub here : drop at bytes ≡ hit_list hits ++ rest
