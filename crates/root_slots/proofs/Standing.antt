-- How two slots stand, and what they are then read as.
use Rattle.std.proofs.Common.{◌≡◌, ◌⊎◌, inl, inr, ℕ, zero, suc, ◌+◌, ◌<◌, ◌≤◌, Bool, true, false, ltb, List, ◌∷◌, ◌++◌, Option, Some, None, Vec, Result, Ok, Err, refl, sym, ap, subst, ◌∙◌, arith}
use Rattle.std.specs.Prelude.{IfOk, IfSome}
use Rattle.std.specs.declared.alloc.Global.{Global}
use Rattle.std.proofs.lemmas.Bool.{cases_eq, cases_lt, ltb-true, ltb-false}
use Rattle.chunk_store.specs.Images.{contents}
use Rattle.chunk_store.specs.Calls.{Finds}
use Rattle.byte_fields.proofs.Taking.{IsBytes}
use Rattle.root_slots.specs.Choosing.{HasRootCause, IsBadRoot}
use Rattle.root_slots.specs.Openings.{Opens, ReadsRoot, own_of}
use Rattle.root_slots.specs.steps.Chosen.{GivesRoot, IsOfBytes, bytes_of, chosen, no_root}
use Rattle.root_slots.specs.Roots.{HoldsOpen, Leaves, MayHold, Stand, Stands, Stays, own_slot}
use Rattle.root_slots.specs.States.{IsState}
use Rattle.root_slots.specs.Slots.{IsBelow, IsClosed, IsOpen, IsRoot, IsShut, Slot, Slots, tail}
use Rattle.root_slots.specs.declared.fault.RootFault.{RootFault}
use Rattle.root_slots.specs.declared.fault.RootFault.TheVariants as faults
use Rattle.root_slots.specs.declared.fault.RootKind.{RootKind}
use Rattle.root_slots.specs.declared.root.Holder.{Holder}
use Rattle.root_slots.specs.declared.root.Holder.TheVariants.{Neither, Zeroth, First}
use Rattle.root_slots.specs.declared.root.Root.{Root}
use Rattle.root_slots.specs.declared.slot.SlotRead.{SlotRead}
use Rattle.root_slots.specs.declared.slot.SlotRead.TheVariants.{Short, Shut, Open}
use Rattle.root_slots.specs.declared.state.RootState.{RootState}
use Rattle.root_slots.proofs.SlotLaws.{Means, slot_means}

abbrev pub File : Type 0
File = Option (List ℕ)

abbrev pub both : File → File → Slots
both z f = record { zeroth = z; first = f }

-- ---- what two slots are read as, by what each is

of_slot : (s t : Slot) → Some s ≡ Some t → s ≡ t
of_slot s t e = cc

root_with : (holder : Holder) (number : ℕ) (zeroth_shut first_shut : Bool) (state : RootState) (z f : File)
    → Stand holder zeroth_shut first_shut (Some (record { number = number; state = state })) None (both z f)
    → Opens (record { holder = holder; number = number; zeroth_shut = zeroth_shut; first_shut = first_shut }) (Some state) (both z f)
root_with holder number zeroth_shut first_shut state z f stand = record {
  stands = record { used = λ s is. let same : record { number = number; state = state } ≡ s = of_slot (record { number = number; state = state }) s is in omega (arith, ap (λ (t : Slot). t.number) same); slots_are = stand };
  fresh = λ none. absurd (cc none);
}

root_without : (zeroth_shut first_shut : Bool) (z f : File) → Stand Neither zeroth_shut first_shut None None (both z f) → Opens (no_root zeroth_shut first_shut) None (both z f)
root_without zeroth_shut first_shut z f stand = record { stands = record { used = λ s is. absurd (cc is); slots_are = stand }; fresh = λ none. refl }

-- an open slot that isn't the root is the other one, as replacing wants it
pub older_stays : (s : Slot) (bound : ℕ) (file : File) → s.number < bound → IsOpen s file → Stays false bound None file
older_stays s bound file lt was = inr (s, record { slot = was.slot; gate = 1; rest = was.rest; is = was.is }, inl lt)

both_open : (a b : ℕ) (state other : RootState) (z f : File) (test : Bool) → ltb a b ≡ test → IsOpen (record { number = a; state = state }) z → IsOpen (record { number = b; state = other }) f
    → Opens (chosen (Open a state) (Open b other)).0 (chosen (Open a state) (Open b other)).1 (both z f)
both_open a b state other z f true is hz hf = rw is (root_with First b false false other z f (refl, hf, older_stays (record { number = a; state = state }) b z (ltb-true _ _ is) hz))
both_open a b state other z f false is hz hf = rw is (root_with Zeroth a false false state z f (refl, hz, older_stays (record { number = b; state = other }) (a + 1) f (omega (arith, ltb-false _ _ is)) hf))

found_means : (a b : SlotRead) (z f : File) → Means a z → Means b f → Opens (chosen a b).0 (chosen a b).1 (both z f)
found_means (Open a state) (Open b other) z f mz mf = both_open a b state other z f (ltb a b) refl mz mf
found_means (Open a state) Shut z f mz mf = root_with Zeroth a false true state z f (refl, mz, mf)
found_means (Open a state) Short z f mz mf = root_with Zeroth a false false state z f (refl, mz, inl mf)
found_means Shut (Open b state) z f mz mf = root_with First b true false state z f (refl, mf, mz)
found_means Short (Open b state) z f mz mf = root_with First b false false state z f (refl, mf, inl mz)
found_means Shut Short z f mz mf = root_without true false z f (mz, inl mf)
found_means Shut Shut z f mz mf = root_without true true z f (mz, mf)
found_means Short Short z f mz mf = root_without false false z f (inl mz, inl mf)
found_means Short Shut z f mz mf = root_without false true z f (inl mz, mf)

pub root_means : (r : Result (Root × Option RootState) RootFault) (z f : List ℕ) → IsBytes z → IsBytes f → GivesRoot r z f → ReadsRoot r (both (Some z) (Some f))
root_means (Ok found) z f fz ff given =
    subst (λ (x : Root × Option RootState). Opens x.0 x.1 (both (Some z) (Some f))) (sym given.4)
    (found_means given.0 given.1 (Some z) (Some f) (slot_means z given.0 fz given.2) (slot_means f given.1 ff given.3))
root_means (Err faults.NoMemory) z f fz ff given = tt
root_means (Err faults.DiskFault) z f fz ff given = tt
root_means (Err (faults.BadRoot slot place kind)) z f fz ff given = given

-- a state that was read keeps the layout
stand_state : (holder : Holder) (zs fs : Bool) (s : Slot) (doubt : Option Slot) (slots : Slots) → Stand holder zs fs (Some s) doubt slots → IsState s.state
stand_state Neither zs fs s doubt slots stand = absurd stand
stand_state Zeroth zs fs s doubt slots stand = stand.1.slot.state
stand_state First zs fs s doubt slots stand = stand.1.slot.state

opens_state : (root : Root) (state : Option RootState) (slots : Slots) → Opens root state slots → IfSome state IsState
opens_state root None slots opens = tt
opens_state root (Some s) slots opens = stand_state root.holder root.zeroth_shut root.first_shut (record { number = root.number; state = s }) None slots opens.stands.slots_are

found_state : (r : Result (Root × Option RootState) RootFault) (slots : Slots) → ReadsRoot r slots → IfOk r (λ found. IfSome found.1 IsState)
found_state (Ok found) slots reads = opens_state found.0 found.1 slots reads
found_state (Err fault) slots reads = tt

pub keeps_layout : (r : Result (Root × Option RootState) RootFault) (z f : List ℕ) → IsBytes z → IsBytes f → GivesRoot r z f → IfOk r (λ found. IfSome found.1 IsState)
keeps_layout r z f fz ff given = found_state r (both (Some z) (Some f)) (root_means r z f fz ff given)

pub of_bytes : (r : Result (Root × Option RootState) RootFault) (z f : List ℕ) → GivesRoot r z f → IsOfBytes r
of_bytes (Ok found) z f given = tt
of_bytes (Err faults.NoMemory) z f given = tt
of_bytes (Err faults.DiskFault) z f given = given
of_bytes (Err (faults.BadRoot slot place kind)) z f given = tt

pub bytes_cause : (before now : ℕ) (r : Result (Root × Option RootState) RootFault) → before ≤ now → IsOfBytes r → HasRootCause before now r
bytes_cause before now (Ok found) later of = later
bytes_cause before now (Err faults.NoMemory) later of = later
bytes_cause before now (Err faults.DiskFault) later of = absurd of
bytes_cause before now (Err (faults.BadRoot slot place kind)) later of = later

-- ---- a file that isn't there is as one without bytes

shut_in : (file : File) → IsShut (Some (contents file)) → IsShut file
shut_in file shut = record { gate = shut.gate; rest = shut.rest; closed = shut.closed; is = shut.is }

open_in : (s : Slot) (file : File) → IsOpen s (Some (contents file)) → IsOpen s file
open_in s file was = record { slot = was.slot; rest = was.rest; is = was.is }

stays_in : (shut : Bool) (bound : ℕ) (doubt : Option Slot) (file : File) → Stays shut bound doubt (Some (contents file)) → Stays shut bound doubt file
stays_in true bound doubt file stays = shut_in file stays
stays_in false bound doubt file (inl short) = inl short
stays_in false bound doubt file (inr (s, holds, older)) = inr (s, record { slot = holds.slot; gate = holds.gate; rest = holds.rest; is = holds.is }, older)

stand_in : (holder : Holder) (zs fs : Bool) (own doubt : Option Slot) (z f : File) → Stand holder zs fs own doubt (both (Some (contents z)) (Some (contents f))) → Stand holder zs fs own doubt (both z f)
stand_in Neither zs fs None doubt z f stand = (stays_in zs 0 doubt z stand.0, stays_in fs 0 None f stand.1)
stand_in Neither zs fs (Some s) doubt z f stand = stand
stand_in Zeroth zs fs None doubt z f stand = stand
stand_in Zeroth zs fs (Some s) doubt z f stand = (stand.0, open_in s z stand.1, stays_in fs (s.number + 1) doubt f stand.2)
stand_in First zs fs None doubt z f stand = stand
stand_in First zs fs (Some s) doubt z f stand = (stand.0, open_in s f stand.1, stays_in zs s.number doubt z stand.2)

bad_in : (slot place : ℕ) (kind : RootKind) (z f : File) → IsBadRoot slot place kind (both (Some (contents z)) (Some (contents f))) → IsBadRoot slot place kind (both z f)
bad_in zero place kind z f bad = bad
bad_in (suc zero) place kind z f bad = bad
bad_in (suc (suc slot)) place kind z f bad = bad

reads_in : (r : Result (Root × Option RootState) RootFault) (z f : File) → ReadsRoot r (both (Some (contents z)) (Some (contents f))) → ReadsRoot r (both z f)
reads_in (Ok found) z f was = record {
  stands = record { used = was.stands.used; slots_are = stand_in found.0.holder found.0.zeroth_shut found.0.first_shut (own_of found.0 found.1) None z f was.stands.slots_are };
  fresh = was.fresh;
}
reads_in (Err faults.NoMemory) z f was = tt
reads_in (Err faults.DiskFault) z f was = tt
reads_in (Err (faults.BadRoot slot place kind)) z f was = bad_in slot place kind z f was

bytes_found : (found : Option (Vec ℕ Global)) (file : File) → Finds found file → bytes_of found ≡ contents file
bytes_found None file finds = ap contents (sym finds)
bytes_found (Some v) file finds = ap contents (sym finds)

pub read_by : (r : Result (Root × Option RootState) RootFault) (a b : List ℕ) (x y : Option (Vec ℕ Global)) (z f : File) → a ≡ bytes_of x → b ≡ bytes_of y → Finds x z → Finds y f → ReadsRoot r (both (Some a) (Some b)) → ReadsRoot r (both z f)
read_by r a b x y z f is_a is_b zeroth first reads =
    reads_in r z f (subst (λ (l : List ℕ). ReadsRoot r (both (Some (contents z)) (Some l))) (is_b ∙ bytes_found y f first) (subst (λ (l : List ℕ). ReadsRoot r (both (Some l) (Some b))) (is_a ∙ bytes_found x z zeroth) reads))

-- ---- what slots are read as that stand so

pub held_is : (s : Slot) (file : File) → MayHold s file → IsShut file ⊎ IsOpen s file
held_is s file holds = elim (cases_eq holds.gate 1) [
  | inl is_1 ↦ inr (record { slot = holds.slot; rest = holds.rest; is = holds.is ∙ ap (λ (g : ℕ). g ∷ (tail s ++ holds.rest)) is_1 })
  | inr not_1 ↦ inl (record { gate = holds.gate; rest = tail s ++ holds.rest; closed = not_1; is = holds.is })
]

-- a slot that isn't the own one is closed, or it holds what is older, or what is in doubt
behind_is : (shut : Bool) (bound : ℕ) (doubt : Option Slot) (file : File) → Stays shut bound doubt file → IsBelow bound file ⊎ ((s : Slot) × (Some s ≡ doubt) × IsOpen s file)
behind_is true bound doubt file stays = inl (inl (inr stays))
behind_is false bound doubt file (inl short) = inl (inl (inl short))
behind_is false bound doubt file (inr (s, holds, older)) = elim (held_is s file holds) [
  | inl shut ↦ inl (inl (inr shut))
  | inr was ↦ elim older [ inl lt ↦ inl (inr (s, lt, was)) | inr doubted ↦ inr (s, doubted, was) ]
]

pub own_left : (own doubt : Option Slot) (slots : Slots) → IsRoot own slots → Leaves own doubt slots
own_left own None slots root = root
own_left own (Some s) slots root = inl root

doubt_left : (own doubt : Option Slot) (s : Slot) (slots : Slots) → Some s ≡ doubt → IsRoot (Some s) slots → Leaves own doubt slots
doubt_left own doubt s slots is root = subst (λ (d : Option Slot). Leaves own d slots) is (inr root)

nothing_below : (file : File) → IsBelow 0 file → IsClosed file
nothing_below file (inl closed) = closed
nothing_below file (inr (s, lt, was)) = absurd (omega (arith, lt))

pub unused_closed : (shut : Bool) (file : File) → Stays shut 0 None file → IsClosed file
unused_closed shut file stays = elim (behind_is shut 0 None file stays) [ inl below ↦ nothing_below file below | inr (s, no_doubt, was) ↦ absurd (cc no_doubt) ]

-- two open slots, of which the one holds the own state
over_zeroth : (own s : Slot) (z f : File) → IsOpen own z → IsOpen s f → IsRoot (Some own) (both z f) ⊎ IsRoot (Some s) (both z f)
over_zeroth own s z f hz hf = elim (cases_lt own.number s.number) [
  | inl lt ↦ inr (inr (hf, inr (own, lt, hz)))
  | inr ge ↦ inl (inl (hz, inr (s, omega (arith, ge), hf)))
]

over_first : (own s : Slot) (z f : File) → IsOpen own f → IsOpen s z → IsRoot (Some own) (both z f) ⊎ IsRoot (Some s) (both z f)
over_first own s z f hf hz = elim (cases_lt s.number own.number) [
  | inl lt ↦ inl (inr (hf, inr (s, lt, hz)))
  | inr ge ↦ inr (inl (hz, inr (own, omega (arith, ge), hf)))
]

either_left : (own doubt : Option Slot) (s : Slot) (slots : Slots) → Some s ≡ doubt → IsRoot own slots ⊎ IsRoot (Some s) slots → Leaves own doubt slots
either_left own doubt s slots is (inl root) = own_left own doubt slots root
either_left own doubt s slots is (inr root) = doubt_left own doubt s slots is root

pub stand_leaves : (holder : Holder) (zs fs : Bool) (own doubt : Option Slot) (z f : File) → Stand holder zs fs own doubt (both z f) → Leaves own doubt (both z f)
stand_leaves Neither zs fs None doubt z f stand =
    let first : IsClosed f = unused_closed fs f stand.1 in
    elim (behind_is zs 0 doubt z stand.0) [
      | inl below ↦ own_left None doubt (both z f) (nothing_below z below, first)
      | inr (s, is, was) ↦ doubt_left None doubt s (both z f) is (inl (was, inl first))
    ]
stand_leaves Neither zs fs (Some s) doubt z f stand = absurd stand
stand_leaves Zeroth zs fs None doubt z f stand = absurd stand
stand_leaves Zeroth zs fs (Some own) doubt z f stand = elim (behind_is fs (own.number + 1) doubt f stand.2) [
  | inl below ↦ own_left (Some own) doubt (both z f) (inl (stand.1, below))
  | inr (s, is, was) ↦ either_left (Some own) doubt s (both z f) is (over_zeroth own s z f stand.1 was)
]
stand_leaves First zs fs None doubt z f stand = absurd stand
stand_leaves First zs fs (Some own) doubt z f stand = elim (behind_is zs own.number doubt z stand.2) [
  | inl below ↦ own_left (Some own) doubt (both z f) (inr (stand.1, below))
  | inr (s, is, was) ↦ either_left (Some own) doubt s (both z f) is (over_first own s z f stand.1 was)
]

pub root_leaves : (root : Root) (own doubt : Option Slot) (slots : Slots) → Stands root own doubt slots → Leaves own doubt slots
root_leaves root own doubt slots stands = stand_leaves root.holder root.zeroth_shut root.first_shut own doubt slots.zeroth slots.first stands.slots_are

-- the own state is in the slot of its number
pub holds_own : (holder : Holder) (zeroth_shut first_shut : Bool) (own : Slot) (doubt : Option Slot) (slots : Slots) → Stand holder zeroth_shut first_shut (Some own) doubt slots → HoldsOpen (own_slot holder) own slots
holds_own Neither zeroth_shut first_shut own doubt slots stand = absurd stand
holds_own Zeroth zeroth_shut first_shut own doubt slots stand = stand.1
holds_own First zeroth_shut first_shut own doubt slots stand = stand.1
