-- Each position of each row has a place in a list of bits, and so has what stands at no position of a row. A place is taken once where all
-- is well; where one is taken again, its row is noted, and the least such row counts.
use Rattle.std.specs.Prelude.{ℕ, ◌+◌, ◌-◌, ◌*◌, ◌<◌, ◌≤◌, List, length, take, drop, All, ◌==◌, ◌&&◌, nat_lt, nat_le, if◌then◌else◌, slice_index, slice_set}
use Rattle.std.specs.List.{fold}

-- the bits of places that are taken, and the least row in which one was taken twice
abbrev pub Seen : Type 0
Seen = List ℕ × ℕ

-- a row is noted
abbrev pub with_row : ℕ → ℕ → ℕ
with_row least row = if nat_lt row least then row else least

-- this row takes this place
abbrev pub take_place : Seen → ℕ × ℕ → Seen
take_place s place = if slice_index s.0 place.1 == 1 then (s.0, with_row s.1 place.0) else (slice_set s.0 place.1 1, s.1)

-- places are taken in turn
abbrev pub take_all : Seen → List (ℕ × ℕ) → Seen
take_all s places = fold take_place s places

-- Of a row: where its places begin, the first being the one for what stands at no position; then where those of each field do, and where
-- the last ones end. The place of a hit: that of its position in its field, if there is one.
abbrev pub place_at : List ℕ → ℕ × ℕ → ℕ
place_at own hit =
    if nat_lt (hit.0 + 2) (length own) && nat_le (slice_index own (hit.0 + 1) + hit.1) (slice_index own (hit.0 + 2)) then slice_index own (hit.0 + 1) + hit.1 - 1 else slice_index own 0

-- with its row
abbrev pub place_in : ℕ → List ℕ → ℕ × ℕ → ℕ × ℕ
place_in row own hit = (row, place_at own hit)

-- they lie within so many places
pub record AreOwn (own : List ℕ) (places : ℕ) : Type 0 where
  pub some : 0 < length own
  pub within : All (λ start. start ≤ places) own
  pub outer : slice_index own 0 < places

-- those of the row of this number, where each row has so many
abbrev pub own_at : List ℕ → ℕ → ℕ → List ℕ
own_at starts width row = take (width + 1) (drop (row * width) starts)

-- those of so many rows
pub record AreStarts (starts : List ℕ) (width rows places : ℕ) : Type 0 where
  pub long : rows * width < length starts
  pub each : (row : ℕ) → row < rows → AreOwn (own_at starts width row) places
