-- One root: what two slots are read as, and in which of them it stands.
use Rattle.std.proofs.Common.{◌≡◌, ◌≢◌, ◌⊎◌, inl, inr, ℕ, zero, suc, ◌+◌, ◌<◌, false, ltb, List, [], ◌∷◌, ◌++◌, length, drop, Option, Some, None, Result, Ok, Err, refl, sym, ◌∙◌, ap, arith, append_assoc, length-append}
use Rattle.std.specs.Int.{w32, w64, to_le_bytes}
use Rattle.std.proofs.lemmas.Bool.{cases_lt, le-ltb, lt-ltb}
use Rattle.std.proofs.lemmas.List.{length-drop, take_at}
use Rattle.chunk_store.specs.Images.{Image, contents}
use Rattle.byte_fields.proofs.Taking.{inverse32, inverse64}
use Rattle.root_slots.specs.Choosing.{BadSlot, IsBad, IsGood, behind_at, numbered, opened, sized_at, slot_at}
use Rattle.root_slots.specs.Slots.{IsBelow, IsClosed, IsOpen, IsRoot, Slot, slots_of}
use Rattle.root_slots.specs.States.{state_bytes}
use Rattle.root_slots.specs.declared.fault.RootKind.{RootKind}
use Rattle.root_slots.proofs.Inverses.{state_again}
use Rattle.store_steps.specs.Damage.{IsRootIn}

-- ---- what a slot is read as

open_at : (s : Slot) (file : Option (List ℕ)) → IsOpen s file → slot_at (contents file) ≡ opened s.number 0 (Ok s.state)
unfolding slot_at behind_at
open_at s file is =
    let state = state_bytes s.state in
    let size = length state in
    let sized = to_le_bytes w32 size ++ (state ++ is.rest) in
    let parts : contents file ≡ 1 ∷ (to_le_bytes w64 s.number ++ sized) = is.is ∙ ap (λ (l : List ℕ). 1 ∷ (to_le_bytes w64 s.number ++ l)) (append_assoc (to_le_bytes w32 size) state is.rest) in
    let long : ltb (length (state ++ is.rest)) size ≡ false = le-ltb (length (state ++ is.rest)) size (omega (arith, length-append state is.rest)) in
    ap slot_at parts
    ∙ ap numbered (inverse64.again s.number sized is.slot.number)
    ∙ ap (sized_at s.number) (inverse32.again size (state ++ is.rest) is.slot.state.fits)
    ∙ rw (long, take_at state is.rest size refl) (ap (opened s.number size) (state_again s.state is.slot.state))

-- A slot that is read as closed: there is none, or its gate is closed.
abbrev ReadsClosed : List ℕ → Type 0
ReadsClosed bytes = (slot_at bytes ≡ slot_at []) ⊎ (slot_at bytes ≡ slot_at (0 ∷ []))

behind_short : (rest : List ℕ) → length rest < 12 → behind_at rest ≡ numbered (Err 0)
unfolding behind_at
behind_short rest short = elim (cases_lt (length rest) 8) [
  | inl lt ↦ rw (lt-ltb (length rest) 8 lt) refl
  | inr le ↦ rw (le-ltb (length rest) 8 le, lt-ltb (length (drop 8 rest)) 4 (omega (arith, short, length-drop 8 rest))) refl
]

short_at : (bytes : List ℕ) → length bytes < 13 → ReadsClosed bytes
unfolding slot_at
short_at [] short = inl refl
short_at (zero ∷ rest) short = inr refl
short_at (suc zero ∷ rest) short = inl (behind_short rest (omega (arith, short)))
short_at (suc (suc gate) ∷ rest) short = inr refl

shut_at : (gate : ℕ) (rest : List ℕ) → gate ≢ 1 → slot_at (gate ∷ rest) ≡ slot_at (0 ∷ [])
unfolding slot_at
shut_at zero rest closed = refl
shut_at (suc zero) rest closed = absurd (closed refl)
shut_at (suc (suc gate)) rest closed = refl

closed_at : (file : Option (List ℕ)) → IsClosed file → ReadsClosed (contents file)
closed_at file (inl short) = short_at (contents file) short
closed_at file (inr shut) = inr (ap slot_at shut.is ∙ shut_at shut.gate shut.rest shut.closed)

-- ---- what it is

one_open : (s t : Slot) (file : Option (List ℕ)) → IsOpen s file → IsOpen t file → s ≡ t
one_open s t file one two =
    let first = open_at s file one in
    let second = open_at t file two in
    let number : s.number ≡ t.number = cc in
    let state : s.state ≡ t.state = cc in
    λ i. record { number = number i; state = state i }

never_closed : (s : Slot) (file : Option (List ℕ)) → IsOpen s file → IsClosed file → ⊥
unfolding slot_at
never_closed s file is closed =
    let first = open_at s file is in
    elim (closed_at file closed) [ inl short ↦ absurd cc | inr shut ↦ absurd cc ]

open_good : (s : Slot) (file : Option (List ℕ)) → IsOpen s file → IsGood file
open_good s file is = (_, open_at s file is)

closed_good : (file : Option (List ℕ)) → IsClosed file → IsGood file
unfolding slot_at
closed_good file closed = elim (closed_at file closed) [ inl short ↦ (_, short) | inr shut ↦ (_, shut) ]

below_good : (bound : ℕ) (file : Option (List ℕ)) → IsBelow bound file → IsGood file
below_good bound file (inl closed) = closed_good file closed
below_good bound file (inr (s, lt, is)) = open_good s file is

pub never_bad : (place : ℕ) (kind : RootKind) (file : Option (List ℕ)) → IsGood file → IsBad place kind file → ⊥
never_bad place kind file good bad = let is = good.1 in absurd cc

abbrev failed : (A : Type 0) → BadSlot → Result A BadSlot
failed A bad = Err bad

fault_is : {A : Type 0} (a b : BadSlot) → failed A a ≡ failed A b → a ≡ b
fault_is a b is = cc

pub one_bad : (place its : ℕ) (kind other : RootKind) (file : Option (List ℕ)) → IsBad place kind file → IsBad its other file → (place ≡ its) × (kind ≡ other)
one_bad place its kind other file one two =
    let same = fault_is (record { place = place; kind = kind }) (record { place = its; kind = other }) (sym one ∙ two) in
    (ap (λ (b : BadSlot). b.place) same, ap (λ (b : BadSlot). b.kind) same)

-- ---- two slots

-- where a slot holds the root, the other doesn't
apart : (s t : Slot) (z f : Option (List ℕ)) → IsOpen s z → IsBelow (s.number + 1) f → IsOpen t f → IsBelow t.number z → ⊥
apart s t z f zeroth (inl closed) first below = never_closed t f first closed
apart s t z f zeroth (inr other) first (inl closed) = never_closed s z zeroth closed
apart s t z f zeroth (inr (u, low, is)) first (inr (v, lower, was)) =
    let here : u.number ≡ t.number = ap (λ (w : Slot). w.number) (one_open u t f is first) in
    let there : v.number ≡ s.number = ap (λ (w : Slot). w.number) (one_open v s z was zeroth) in
    omega (arith, low, lower, here, there)

-- One root stands in one slot.
pub one_slot : (a b : ℕ) (s t : Slot) (x : Image) → IsRootIn a s x → IsRootIn b t x → (a ≡ b) × (s ≡ t)
one_slot zero zero s t x one two = (refl, one_open s t (x 0) one.0 two.0)
one_slot zero (suc zero) s t x one two = absurd (apart s t (x 0) (x 1) one.0 one.1 two.0 two.1)
one_slot zero (suc (suc b)) s t x one two = absurd two
one_slot (suc zero) zero s t x one two = absurd (apart t s (x 0) (x 1) two.0 two.1 one.0 one.1)
one_slot (suc zero) (suc zero) s t x one two = (refl, one_open s t (x 1) one.0 two.0)
one_slot (suc zero) (suc (suc b)) s t x one two = absurd two
one_slot (suc (suc a)) b s t x one two = absurd one

pub root_in : (a : ℕ) (s : Slot) (x : Image) → IsRootIn a s x → IsRoot (Some s) (slots_of x)
root_in zero s x is = inl is
root_in (suc zero) s x is = inr is
root_in (suc (suc a)) s x is = absurd is

-- the slot in which a root stands
pub stands_in : (s : Slot) (x : Image) → IsRoot (Some s) (slots_of x) → (a : ℕ) × IsRootIn a s x
stands_in s x (inl zeroth) = (0, zeroth)
stands_in s x (inr first) = (1, first)

pub no_root : (a : ℕ) (s : Slot) (x : Image) → IsRoot None (slots_of x) → IsRootIn a s x → ⊥
no_root zero s x none is = never_closed s (x 0) is.0 none.0
no_root (suc zero) s x none is = never_closed s (x 1) is.0 none.1
no_root (suc (suc a)) s x none is = is

-- where a root stands, both slots are read
pub both_good : (a : ℕ) (s : Slot) (x : Image) → IsRootIn a s x → IsGood (x 0) × IsGood (x 1)
both_good zero s x is = (open_good s (x 0) is.0, below_good (s.number + 1) (x 1) is.1)
both_good (suc zero) s x is = (below_good s.number (x 0) is.1, open_good s (x 1) is.0)
both_good (suc (suc a)) s x is = absurd is

pub none_good : (x : Image) → IsRoot None (slots_of x) → IsGood (x 0) × IsGood (x 1)
none_good x none = (closed_good (x 0) none.0, closed_good (x 1) none.1)
