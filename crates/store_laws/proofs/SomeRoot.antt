-- A slot is wrong, or a root stands in one, or none is open: never neither.
use Rattle.std.proofs.Common.{◌≡◌, ◌⊎◌, inl, inr, ℕ, List, Option, Some, None, Result, Ok, Err, refl}
use Rattle.chunk_store.specs.Images.{Image, contents}
use Rattle.image_rows.proofs.Undamaged.{are_all_bytes}
use Rattle.root_slots.specs.Choosing.{slot_at}
use Rattle.root_slots.specs.Openings.{own_of}
use Rattle.root_slots.specs.Slots.{IsBelow, IsClosed, IsOpen, IsRoot, Slot, slots_of}
use Rattle.root_slots.specs.steps.Chosen.{chosen}
use Rattle.root_slots.proofs.Standing.{both, root_leaves, root_means}
use Rattle.store_steps.specs.Damage.{IsBadSlot, IsRootIn, of_root}
use Rattle.store_steps.specs.declared.damage.Damage.{Damage}
use Rattle.store_laws.specs.Outcomes.{HaveBytes}
use Rattle.store_laws.proofs.OneRoot.{stands_in}

-- what a result is
pub either_is : {A E : Type 0} (r : Result A E) → ((value : A) × (r ≡ Ok value)) ⊎ ((fault : E) × (r ≡ Err fault))
either_is (Ok value) = inl (value, refl)
either_is (Err fault) = inr (fault, refl)

-- ---- a slot that isn't there is one without bytes

open_as : (s : Slot) (file : Option (List ℕ)) → IsOpen s (Some (contents file)) → IsOpen s file
open_as s file is = record { slot = is.slot; rest = is.rest; is = is.is }

closed_as : (file : Option (List ℕ)) → IsClosed (Some (contents file)) → IsClosed file
closed_as file (inl short) = inl short
closed_as file (inr shut) = inr (record { gate = shut.gate; rest = shut.rest; closed = shut.closed; is = shut.is })

below_as : (bound : ℕ) (file : Option (List ℕ)) → IsBelow bound (Some (contents file)) → IsBelow bound file
below_as bound file (inl closed) = inl (closed_as file closed)
below_as bound file (inr (s, lt, is)) = inr (s, lt, open_as s file is)

root_as : (own : Option Slot) (x : Image) → IsRoot own (both (Some (contents (x 0))) (Some (contents (x 1)))) → IsRoot own (slots_of x)
root_as None x is = (closed_as (x 0) is.0, closed_as (x 1) is.1)
root_as (Some s) x (inl (zeroth, first)) = inl (open_as s (x 0) zeroth, below_as _ (x 1) first)
root_as (Some s) x (inr (first, zeroth)) = inr (open_as s (x 1) first, below_as _ (x 0) zeroth)

by_root : (x : Image) (own : Option Slot) → IsRoot own (slots_of x) → (IsRoot None (slots_of x) → ⊥) → ((file : ℕ) (root : Slot) → IsRootIn file root x → ⊥) → ⊥
by_root x None root none found = none root
by_root x (Some s) root none found = let at = stands_in s x root in found at.0 s at.1

-- ---- two slots

pub some_root : (x : Image) → HaveBytes x → ((damage : Damage) → IsBadSlot x damage → ⊥) → (IsRoot None (slots_of x) → ⊥) → ((file : ℕ) (root : Slot) → IsRootIn file root x → ⊥) → ⊥
some_root x have bad none found = elim (either_is (slot_at (contents (x 0)))) [
  | inr wrong ↦ bad (record { file = 0; place = wrong.0.place; kind = of_root wrong.0.kind }) (record { kind = wrong.0.kind; is = refl; bad = wrong.1 })
  | inl zeroth ↦ elim (either_is (slot_at (contents (x 1)))) [
    | inr wrong ↦ bad (record { file = 1; place = wrong.0.place; kind = of_root wrong.0.kind }) (record { kind = wrong.0.kind; is = refl; bad = ((zeroth.0, zeroth.1), wrong.1) })
    | inl first ↦
        let read = chosen zeroth.0 first.0 in
        let opens = root_means (Ok read) (contents (x 0)) (contents (x 1)) (are_all_bytes (contents (x 0)) (have 0)) (are_all_bytes (contents (x 1)) (have 1)) (zeroth.0, first.0, zeroth.1, first.1, refl) in
        by_root x (own_of read.0 read.1) (root_as (own_of read.0 read.1) x (root_leaves read.0 (own_of read.0 read.1) None (both (Some (contents (x 0))) (Some (contents (x 1)))) opens.stands)) none found
  ]
]
