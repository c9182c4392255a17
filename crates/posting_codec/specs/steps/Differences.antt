-- A hit list while it is read: one hit behind a key, and some of them.
use Rattle.std.specs.Prelude.{◌≡◌, ℕ, ◌-◌, ◌<◌, List, ◌++◌, length, drop}
use Rattle.posting_codec.specs.Numbers.{number}
use Rattle.posting_codec.specs.HitLists.{IsHit, key, Ascend, differences}

-- how far the hit lies behind this key is spelled at this place, before the rest of the bytes
pub record IsBehind (bytes : List ℕ) (at last : ℕ) (hit : ℕ × ℕ) (rest : List ℕ) : Type 0 where
  pub is_hit : IsHit hit
  pub behind : last < key hit
  pub here : drop at bytes ≡ number (key hit - last) ++ rest

-- so many hits are spelled at this place without their count, before the rest of the bytes
pub record AreDifferencesAt (bytes : List ℕ) (at count : ℕ) (hits : List (ℕ × ℕ)) (rest : List ℕ) : Type 0 where
  pub counted : length hits ≡ count
  pub ascend : Ascend 0 hits
  pub here : drop at bytes ≡ differences 0 hits ++ rest
