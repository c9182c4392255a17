-- Keywords near each other, as a proximity `"a b c"~N` asks for them.
use Rattle.std.specs.Prelude.{ℕ, ◌+◌, ◌-◌, List, length, map, Bool, ◌&&◌, ◌==◌, nat_lt, nat_le}
use Rattle.std.specs.List.{filter, flat_map, list_any, list_all, range_with_len, count_by}
use Rattle.occ_lists.specs.declared.occ.Occ.{Occ}
use Rattle.occ_lists.specs.Places.{occ, has_place}

-- A listed keyword: the number of its word, and its places.
pub record Listed : Type 0 where
  pub word : ℕ
  pub places : List (ℕ × ℕ)

-- how often a word is listed
abbrev pub times : ℕ → List Listed → ℕ
times word listed = count_by (λ l. l.word == word) listed

-- a listed keyword of the word stands at the place
abbrev pub stands : List Listed → ℕ → ℕ × ℕ → Bool
stands listed word place = list_any (λ l. (l.word == word) && has_place l.places place) listed

-- at how many positions from the first to the last one a listed keyword of the word stands
abbrev pub held : List Listed → ℕ → Occ → ℕ
held listed word o = count_by (λ position. stands listed word (o.field, position)) (range_with_len o.first (o.last + 1 - o.first))

-- the window holds each word at least as often as it is listed
abbrev pub holds_all : List Listed → Occ → Bool
holds_all listed o = list_all (λ l. nat_le (times l.word listed) (held listed l.word o)) listed

-- the places of all
abbrev pub all_places : List Listed → List (ℕ × ℕ)
all_places listed = flat_map (λ l. l.places) listed

-- A window may go from one place to another one, not before it: in one field, with fewer positions than n and the number of
-- listed keywords together.
abbrev pub may_reach : ℕ → List Listed → ℕ × ℕ → ℕ × ℕ → Bool
may_reach n listed from to = (from.0 == to.0) && (nat_le from.1 to.1 && nat_lt (to.1 + 1 - from.1) (n + length listed))

-- The windows of a proximity n: they begin and end at a listed keyword, hold each word at least as often as it is listed, and
-- have fewer positions than n and the number of listed words together.
abbrev pub windows : ℕ → List Listed → List Occ
windows n listed =
    filter (holds_all listed)
    (flat_map (λ from. map (λ to. occ from.0 from.1 to.1) (filter (may_reach n listed from) (all_places listed))) (all_places listed))
