-- From place to place of a proximity: where its windows may end.
use Rattle.std.specs.Prelude.{◌≡◌, ℕ, ◌+◌, ◌-◌, ◌≤◌, List, length, drop, map, Bool, ◌&&◌, ◌==◌, All, nat_le, nat_lt}
use Rattle.std.specs.List.{filter, flat_map}
use Rattle.doc_types.specs.declared.tokens.TheConstants.{MAX_POSITION}
use Rattle.occ_lists.specs.declared.occ.Occ.{Occ}
use Rattle.occ_lists.specs.declared.windows.Proximity.{Proximity}
use Rattle.occ_lists.specs.OccLists.{SameMembers}
use Rattle.occ_lists.specs.Places.{ArePlaces, occ}
use Rattle.occ_lists.specs.Windows.{Listed, all_places, holds_all}
use Rattle.occ_lists.specs.steps.Wanted.{IsReady, holds_words}

-- a window from the one place ends at the other
abbrev pub ends_at : Proximity → ℕ × ℕ → ℕ × ℕ → Bool
ends_at proximity from to =
    (from.0 == to.0) && (nat_le from.1 to.1 && nat_lt (to.1 + 1 - from.1) proximity.size)
    && holds_words proximity.words.items (occ from.0 from.1 to.1)

-- the last element, where there is one
abbrev pub last_of : {X : Type 0} → List X → List X
last_of xs = drop (length xs - 1) xs

-- the occurrences from a place to each of some others
abbrev pub to_each : ℕ × ℕ → List (ℕ × ℕ) → List Occ
to_each from ends = map (λ to. occ from.0 from.1 to.1) ends

-- the windows from each place to each at which one ends
abbrev pub made : Proximity → List Occ
made proximity = flat_map (λ from. to_each from (filter (ends_at proximity from) proximity.all.items)) proximity.all.items

-- the windows from each place to the last at which one ends
abbrev pub widest : Proximity → List Occ
widest proximity = flat_map (λ from. to_each from (last_of (filter (ends_at proximity from) proximity.all.items))) proximity.all.items

-- All places ascend, with positions as documents have them.
pub record IsSorted (proximity : Proximity) : Type 0 where
  pub words : All IsReady proximity.words.items
  pub ascend : ArePlaces proximity.all.items
  pub small : All (λ place. (1 ≤ place.1) × (place.1 ≤ MAX_POSITION)) proximity.all.items

-- It is made of these listed keywords.
pub record IsProximity (n : ℕ) (listed : List Listed) (proximity : Proximity) : Type 0 where
  pub size : proximity.size ≡ n + length listed
  pub words : (o : Occ) → holds_words proximity.words.items o ≡ holds_all listed o
  pub all : SameMembers proximity.all.items (all_places listed)
