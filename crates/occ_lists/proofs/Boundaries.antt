-- The boundaries next to a position, found by binary search.
use Rattle.std.proofs.Common.{◌≡◌, ◌≢◌, ℕ, ◌+◌, ◌-◌, ◌<◌, ◌≤◌, Bool, true, false, List, length, take, get_or, get_or-take, length-take, sym, ◌∙◌, ap, subst, arith, inl, inr}
use Rattle.std.specs.Prelude.{◌&&◌, ◌||◌, ◌==◌, nat_lt, nat_le, IsTrue}
use Rattle.std.specs.List.Sorted.{IsPartitionedBy}
use Rattle.std.proofs.lemmas.Bool.{cases_lt, lt-ltb, le-ltb}
use Rattle.std.proofs.lemmas.Bool.Decides.{nat_tests}
use Rattle.std.proofs.lemmas.List.Folds.{list_any_at, list_any_none}
use Rattle.occ_lists.specs.Places.{ArePlaces, is_before}
use Rattle.occ_lists.specs.steps.Boundaries.{has_between}
use Rattle.occ_lists.proofs.Between.{IsParted, parted}

-- what has_between asks of each
abbrev pub is_between : ℕ → ℕ → ℕ → ℕ × ℕ → Bool
is_between field from to g = (g.0 == field) && (nat_lt from g.1 && nat_lt g.1 to)

-- of an earlier field, or of this one at the position or before it
abbrev pub place_up_to : ℕ → ℕ → ℕ × ℕ → Bool
place_up_to field position g = nat_lt g.0 field || ((g.0 == field) && nat_le g.1 position)

-- of an earlier field, or of this one before the position
abbrev pub place_below : ℕ → ℕ → ℕ × ℕ → Bool
place_below field position g = nat_lt g.0 field || ((g.0 == field) && nat_lt g.1 position)

up_to_kept : (field position : ℕ) (g later : ℕ × ℕ) → IsTrue (is_before g later) → place_up_to field position later ≡ true → place_up_to field position g ≡ true
up_to_kept field position g later order begun = grind (arith, nat_tests)

below_kept : (field position : ℕ) (g later : ℕ × ℕ) → IsTrue (is_before g later) → place_below field position later ≡ true → place_below field position g ≡ true
below_kept field position g later order begun = grind (arith, nat_tests)

pub up_to_parted : (field position : ℕ) (places : List (ℕ × ℕ)) → ArePlaces places → IsPartitionedBy (place_up_to field position) places
up_to_parted field position places ascend = parted (λ g later. IsTrue (is_before g later)) (place_up_to field position) (up_to_kept field position) places ascend

pub below_parted : (field position : ℕ) (places : List (ℕ × ℕ)) → ArePlaces places → IsPartitionedBy (place_below field position) places
below_parted field position places ascend = parted (λ g later. IsTrue (is_before g later)) (place_below field position) (below_kept field position) places ascend

-- ---- the first boundary after a position
up_to_apart : (field position limit : ℕ) (g : ℕ × ℕ) → place_up_to field position g ≡ true → is_between field position limit g ≡ false
up_to_apart field position limit g before = grind (arith, nat_tests)

late_apart : (field position limit : ℕ) (g : ℕ × ℕ) → (g.0 ≡ field → limit ≤ g.1) → is_between field position limit g ≡ false
late_apart field position limit g late = grind (arith, nat_tests)

nothing_after : (places : List (ℕ × ℕ)) (field position limit at : ℕ) → IsParted (place_up_to field position) places at → ((k : ℕ) (d : ℕ × ℕ) → at ≤ k → k < length places → (get_or places k d).0 ≡ field → limit ≤ (get_or places k d).1) → has_between places field position limit ≡ false
nothing_after places field position limit at split late = list_any_none (is_between field position limit) places (λ k d within. elim (cases_lt k at) [
  | inl before ↦ up_to_apart field position limit (get_or places k d) (split.0 k d (omega arith) before)
  | inr after ↦ late_apart field position limit (get_or places k d) (late k d after within)
])

later_is_late : (first g : ℕ × ℕ) (limit : ℕ) → limit ≤ first.1 → IsTrue (is_before first g) → g.0 ≡ first.0 → limit ≤ g.1
later_is_late first g limit far order same = grind (arith, nat_tests)

next_is_between : (field position limit : ℕ) (g : ℕ × ℕ) → g.0 ≡ field → place_up_to field position g ≡ false → g.1 < limit → is_between field position limit g ≡ true
next_is_between field position limit g same past near = grind (arith, nat_tests)

pub next_found : (places : List (ℕ × ℕ)) (field position limit at : ℕ) (end : ℕ × ℕ) → ArePlaces places → IsParted (place_up_to field position) places at → at < length places → ((d : ℕ × ℕ) → end ≡ get_or places at d) → end.0 ≡ field → has_between places field position limit ≡ nat_lt end.1 limit
next_found places field position limit at end ascend split within is same = elim (cases_lt end.1 limit) [
  | inl near ↦
      list_any_at (is_between field position limit) places at end within (subst (λ g. is_between field position limit g ≡ true) (is end) (next_is_between field position limit end same (subst (λ g. place_up_to field position g ≡ false) (sym (is end)) (split.1 at end (omega arith) within)) near))
      ∙ sym (lt-ltb end.1 limit near)
  | inr far ↦
      nothing_after places field position limit at split (λ k d from inside here. elim (cases_lt at k) [
        | inl later ↦ later_is_late end (get_or places k d) limit far (subst (λ g. IsTrue (is_before g (get_or places k d))) (sym (is d)) (ascend at k d later inside)) (here ∙ sym same)
        | inr now ↦ (let one : at ≡ k = omega arith in subst (λ (g : ℕ × ℕ). limit ≤ g.1) (is d ∙ ap (λ i. get_or places i d) one) far)
      ])
      ∙ sym (le-ltb end.1 limit far)
]

past_other : (field position : ℕ) (end g : ℕ × ℕ) → place_up_to field position end ≡ false → end.0 ≢ field → IsTrue (is_before end g) → g.0 ≢ field
past_other field position end g past other order = grind (arith, nat_tests)

pub next_other : (places : List (ℕ × ℕ)) (field position limit at : ℕ) (end : ℕ × ℕ) → ArePlaces places → IsParted (place_up_to field position) places at → at < length places → ((d : ℕ × ℕ) → end ≡ get_or places at d) → end.0 ≢ field → has_between places field position limit ≡ false
next_other places field position limit at end ascend split within is other =
    nothing_after places field position limit at split (λ k d from inside here. absurd (elim (cases_lt at k) [
      | inl later ↦ past_other field position end (get_or places k d) (subst (λ g. place_up_to field position g ≡ false) (sym (is end)) (split.1 at end (omega arith) within)) other (subst (λ g. IsTrue (is_before g (get_or places k d))) (sym (is d)) (ascend at k d later inside)) here
      | inr now ↦ (let one : at ≡ k = omega arith in other (ap (λ (g : ℕ × ℕ). g.0) (is d ∙ ap (λ i. get_or places i d) one) ∙ here))
    ]))

pub next_none : (places : List (ℕ × ℕ)) (field position limit at : ℕ) → IsParted (place_up_to field position) places at → length places ≤ at → has_between places field position limit ≡ false
next_none places field position limit at split none = nothing_after places field position limit at split (λ k d from inside here. absurd (omega arith))

-- ---- the last boundary before a position
past_apart : (field limit position : ℕ) (g : ℕ × ℕ) → place_below field position g ≡ false → is_between field limit position g ≡ false
past_apart field limit position g past = grind (arith, nat_tests)

early_apart : (field limit position : ℕ) (g : ℕ × ℕ) → (g.0 ≡ field → g.1 ≤ limit) → is_between field limit position g ≡ false
early_apart field limit position g early = grind (arith, nat_tests)

nothing_before : (places : List (ℕ × ℕ)) (field limit position at : ℕ) → IsParted (place_below field position) places at → ((k : ℕ) (d : ℕ × ℕ) → k < at → k < length places → (get_or places k d).0 ≡ field → (get_or places k d).1 ≤ limit) → has_between places field limit position ≡ false
nothing_before places field limit position at split early = list_any_none (is_between field limit position) places (λ k d within. elim (cases_lt k at) [
  | inl before ↦ early_apart field limit position (get_or places k d) (early k d before within)
  | inr after ↦ past_apart field limit position (get_or places k d) (split.1 k d after within)
])

earlier_is_early : (g last : ℕ × ℕ) (limit : ℕ) → last.1 ≤ limit → IsTrue (is_before g last) → g.0 ≡ last.0 → g.1 ≤ limit
earlier_is_early g last limit near order same = grind (arith, nat_tests)

last_is_between : (field limit position : ℕ) (g : ℕ × ℕ) → g.0 ≡ field → place_below field position g ≡ true → limit < g.1 → is_between field limit position g ≡ true
last_is_between field limit position g same before far = grind (arith, nat_tests)

pub last_found : (places : List (ℕ × ℕ)) (field limit position at before : ℕ) (end : ℕ × ℕ) → ArePlaces places → IsParted (place_below field position) places at → at ≤ length places → at ≡ before + 1 → ((d : ℕ × ℕ) → end ≡ get_or places before d) → end.0 ≡ field → has_between places field limit position ≡ nat_lt limit end.1
last_found places field limit position at before end ascend split within next is same = elim (cases_lt limit end.1) [
  | inl far ↦
      list_any_at (is_between field limit position) places before end (omega arith) (subst (λ g. is_between field limit position g ≡ true) (is end) (last_is_between field limit position end same (subst (λ g. place_below field position g ≡ true) (sym (is end)) (split.0 before end (omega arith) (omega arith))) far))
      ∙ sym (lt-ltb limit end.1 far)
  | inr near ↦
      nothing_before places field limit position at split (λ k d from inside here. elim (cases_lt k before) [
        | inl earlier ↦ earlier_is_early (get_or places k d) end limit near (subst (λ g. IsTrue (is_before (get_or places k d) g)) (sym (is d)) (ascend k before d earlier (omega arith))) (here ∙ sym same)
        | inr now ↦ (let one : before ≡ k = omega arith in subst (λ (g : ℕ × ℕ). g.1 ≤ limit) (is d ∙ ap (λ i. get_or places i d) one) near)
      ])
      ∙ sym (le-ltb limit end.1 near)
]

below_other : (field position : ℕ) (g end : ℕ × ℕ) → place_below field position end ≡ true → end.0 ≢ field → IsTrue (is_before g end) → g.0 ≢ field
below_other field position g end below other order = grind (arith, nat_tests)

pub last_other : (places : List (ℕ × ℕ)) (field limit position at before : ℕ) (end : ℕ × ℕ) → ArePlaces places → IsParted (place_below field position) places at → at ≤ length places → at ≡ before + 1 → ((d : ℕ × ℕ) → end ≡ get_or places before d) → end.0 ≢ field → has_between places field limit position ≡ false
last_other places field limit position at before end ascend split within next is other =
    nothing_before places field limit position at split (λ k d from inside here. absurd (elim (cases_lt k before) [
      | inl earlier ↦ below_other field position (get_or places k d) end (subst (λ g. place_below field position g ≡ true) (sym (is end)) (split.0 before end (omega arith) (omega arith))) other (subst (λ g. IsTrue (is_before (get_or places k d) g)) (sym (is d)) (ascend k before d earlier (omega arith))) here
      | inr now ↦ (let one : before ≡ k = omega arith in other (ap (λ (g : ℕ × ℕ). g.0) (is d ∙ ap (λ i. get_or places i d) one) ∙ here))
    ]))

pub last_none : (places : List (ℕ × ℕ)) (field limit position at : ℕ) → IsParted (place_below field position) places at → at ≡ 0 → has_between places field limit position ≡ false
last_none places field limit position at split none = nothing_before places field limit position at split (λ k d from inside here. absurd (omega arith))

-- the last of the places up to one
pub last_of_front : (places front : List (ℕ × ℕ)) (at : ℕ) (end : ℕ × ℕ) → at ≤ length places → front ≡ take at places → 0 < length front → ((d : ℕ × ℕ) → end ≡ get_or front (length front - 1) d) → (at ≡ (at - 1) + 1) × ((d : ℕ × ℕ) → end ≡ get_or places (at - 1) d)
last_of_front places front at end within is some at_end =
    let long : length front ≡ at = ap length is ∙ length-take at places ∙ omega arith in
    let before : at - 1 < at = omega arith in
    (omega arith, λ d. at_end d ∙ ap (λ i. get_or front (i - 1) d) long ∙ ap (λ list. get_or list (at - 1) d) is ∙ rw get_or-take)
