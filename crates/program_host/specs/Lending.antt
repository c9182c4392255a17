-- Things that are given out and handed back: the stores and the doors of a host, the connections of a door.
use Rattle.std.specs.Prelude.{◌≡◌, ℕ, ◌≤◌, List, ◌++◌, Bool, true, false, Result, Ok, Err, length, map}
use Rattle.srch_base.specs.Counts.{Rose}
use Rattle.srch_base.specs.declared.faults.OpenFault.{OpenFault}
use Rattle.srch_base.specs.declared.faults.OpenFault.TheVariants.{Failed, NoMemory}

-- A thing that was given and handed back, as it was each time.
pub record Lent (X : Type 0) : Type 0 where
  pub given : X
  pub back : X

-- the things as they were given, and as they came back
abbrev pub given_of : {X : Type 0} → List (Lent X) → List X
given_of lent = map (λ thing. thing.given) lent

abbrev pub back_of : {X : Type 0} → List (Lent X) → List X
back_of lent = map (λ thing. thing.back) lent

-- These were given, and handed back in that order.
pub record Lends {X : Type 0} (given given' back back' : List X) (lent : List (Lent X)) : Type 0 where
  pub gives : given' ≡ given ++ given_of lent
  pub takes : back' ≡ back ++ back_of lent

-- no more were handed back than were given
abbrev pub IsWithin : {X Y : Type 0} → (X → List Y) → (X → List Y) → X → Type 0
IsWithin back given x = length (back x) ≤ length (given x)

-- The count rose where the host failed, and stands still where it didn't.
abbrev pub CountsOpening : {T : Type 0} → Result T OpenFault → ℕ → ℕ → Type 0
CountsOpening (Err Failed) before now = (before ≤ now) × Rose before now
CountsOpening (Err NoMemory) before now = now ≡ before
CountsOpening (Ok x) before now = now ≡ before

-- the answer that the host failed, and not that memory was refused
abbrev pub says_failed : {T : Type 0} → Result T OpenFault → Bool
says_failed (Err Failed) = true
says_failed (Err NoMemory) = false
says_failed (Ok x) = false
