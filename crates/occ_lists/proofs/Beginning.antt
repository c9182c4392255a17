-- Occurrences of a field that begin within bounds, found by binary search.
use Rattle.std.proofs.Common.{◌≡◌, ℕ, ◌-◌, Bool, true, false, List, Option, Some, None, arith}
use Rattle.std.specs.Prelude.{◌&&◌, ◌||◌, ◌==◌, not, nat_lt, nat_le, IsTrue}
use Rattle.std.specs.List.Sorted.{IsPartitionedBy}
use Rattle.std.proofs.lemmas.Bool.Decides.{nat_tests}
use Rattle.occ_lists.specs.declared.occ.Occ.{Occ}
use Rattle.occ_lists.specs.OccLists.{Ascend, precedes}
use Rattle.occ_lists.specs.steps.Beside.{goes_before, goes_soon}
use Rattle.occ_lists.specs.steps.Boundaries.{begins_by, begins_within, is_by}
use Rattle.occ_lists.proofs.Between.{parted}

-- of an earlier field, or of that of x and begun before x ends or there
abbrev pub not_after : Occ → Occ → Bool
not_after x o = nat_lt o.field x.field || ((o.field == x.field) && nat_le o.first x.last)

-- of no later field than x
abbrev pub in_or_before : Occ → Occ → Bool
in_or_before x o = nat_le o.field x.field

-- of an earlier field, or of that of x and begun at most n positions after x ends
abbrev pub up_to_soon : ℕ → Occ → Occ → Bool
up_to_soon n x o = nat_lt o.field x.field || ((o.field == x.field) && nat_le (o.first - x.last) n)

not_after_kept : (x o later : Occ) → IsTrue (precedes o later) → not_after x later ≡ true → not_after x o ≡ true
not_after_kept x o later order begun = grind (arith, nat_tests)

in_or_before_kept : (x o later : Occ) → IsTrue (precedes o later) → in_or_before x later ≡ true → in_or_before x o ≡ true
in_or_before_kept x o later order begun = grind (arith, nat_tests)

up_to_soon_kept : (n : ℕ) (x o later : Occ) → IsTrue (precedes o later) → up_to_soon n x later ≡ true → up_to_soon n x o ≡ true
up_to_soon_kept n x o later order begun = grind (arith, nat_tests)

pub not_after_parted : (x : Occ) (occs : List Occ) → Ascend occs → IsPartitionedBy (not_after x) occs
not_after_parted x occs ascend = parted (λ o later. IsTrue (precedes o later)) (not_after x) (not_after_kept x) occs ascend

pub in_or_before_parted : (x : Occ) (occs : List Occ) → Ascend occs → IsPartitionedBy (in_or_before x) occs
in_or_before_parted x occs ascend = parted (λ o later. IsTrue (precedes o later)) (in_or_before x) (in_or_before_kept x) occs ascend

pub up_to_soon_parted : (n : ℕ) (x : Occ) (occs : List Occ) → Ascend occs → IsPartitionedBy (up_to_soon n x) occs
up_to_soon_parted n x occs ascend = parted (λ o later. IsTrue (precedes o later)) (up_to_soon n x) (up_to_soon_kept n x) occs ascend

pub before_is : (x y : Occ) → goes_before x y ≡ (not (not_after x y) && in_or_before x y)
before_is x y = grind (arith, nat_tests)

pub soon_is : (n : ℕ) (x y : Occ) → goes_soon n x y ≡ (not (not_after x y) && up_to_soon n x y)
soon_is n x y = grind (arith, nat_tests)

-- ---- from one position to another, which may be left out
-- of an earlier field, or of this one and begun before a position
abbrev pub begins_before : ℕ → ℕ → Occ → Bool
begins_before field position o = nat_lt o.field field || ((o.field == field) && nat_lt o.first position)

begins_before_kept : (field position : ℕ) (o later : Occ) → IsTrue (precedes o later) → begins_before field position later ≡ true → begins_before field position o ≡ true
begins_before_kept field position o later order begun = grind (arith, nat_tests)

some_field_kept : (field : ℕ) (o later : Occ) → IsTrue (precedes o later) → begins_by field None later ≡ true → begins_by field None o ≡ true
some_field_kept field o later order begun = grind (arith, nat_tests)

some_position_kept : (field last : ℕ) (o later : Occ) → IsTrue (precedes o later) → begins_by field (Some last) later ≡ true → begins_by field (Some last) o ≡ true
some_position_kept field last o later order begun = grind (arith, nat_tests)

begins_by_kept : (field : ℕ) (last : Option ℕ) (o later : Occ) → IsTrue (precedes o later) → begins_by field last later ≡ true → begins_by field last o ≡ true
begins_by_kept field None o later order begun = some_field_kept field o later order begun
begins_by_kept field (Some last) o later order begun = some_position_kept field last o later order begun

pub begins_before_parted : (field position : ℕ) (occs : List Occ) → Ascend occs → IsPartitionedBy (begins_before field position) occs
begins_before_parted field position occs ascend = parted (λ o later. IsTrue (precedes o later)) (begins_before field position) (begins_before_kept field position) occs ascend

pub begins_by_parted : (field : ℕ) (last : Option ℕ) (occs : List Occ) → Ascend occs → IsPartitionedBy (begins_by field last) occs
begins_by_parted field last occs ascend = parted (λ o later. IsTrue (precedes o later)) (begins_by field last) (begins_by_kept field last) occs ascend

-- where no last position is given
pub by_field : (field : ℕ) (o : Occ) → nat_le o.field field ≡ begins_by field None o
by_field field o = grind (arith, nat_tests)

within_split : (field first : ℕ) (by : Bool) (o : Occ) → ((o.field == field) && (nat_le first o.first && by)) ≡ (not (begins_before field first o) && (nat_lt o.field field || ((o.field == field) && by)))
within_split field first true o = grind (arith, nat_tests)
within_split field first false o = grind (arith, nat_tests)

pub within_is : (field first : ℕ) (last : Option ℕ) (o : Occ) → begins_within field first last o ≡ (not (begins_before field first o) && begins_by field last o)
within_is field first last o = within_split field first (is_by last o.first) o
