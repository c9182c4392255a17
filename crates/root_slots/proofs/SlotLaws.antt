-- What is read of a slot is what it holds.
use Rattle.std.proofs.Common.{◌≡◌, inl, inr, ℕ, zero, suc, ◌<◌, ◌≤◌, Bool, true, false, cond, ltb, List, [], ◌∷◌, ◌++◌, length, take, drop, Option, Some, Result, Ok, Err, refl, sym, ap, subst, ◌∙◌, append_assoc, arith}
use Rattle.std.specs.Int.{Width, byte_len, w32, w64, to_le_bytes, from_le_bytes}
use Rattle.std.proofs.lemmas.Bool.{cases_lt, ltb-false, le-ltb, lt-ltb}
use Rattle.std.proofs.lemmas.List.{take-append-drop, length-take, length-drop}
use Rattle.chunk_store.specs.Images.{contents}
use Rattle.byte_fields.specs.Fields.{number_at}
use Rattle.byte_fields.proofs.Taking.{IsBytes, IsBytes-take, IsBytes-rest, inverse32, inverse64}
use Rattle.root_slots.specs.Choosing.{BadSlot, behind_at, numbered, opened, sized_at, slot_at}
use Rattle.root_slots.specs.Reading.{state_at}
use Rattle.root_slots.specs.Slots.{Slot, IsOpen, IsShut, tail}
use Rattle.root_slots.specs.States.{state_bytes}
use Rattle.root_slots.specs.declared.fault.RootKind.TheVariants as kinds
use Rattle.root_slots.specs.declared.slot.SlotRead.{SlotRead}
use Rattle.root_slots.specs.declared.slot.SlotRead.TheVariants.{Short, Shut, Open}
use Rattle.root_slots.specs.declared.state.RootState.{RootState}
use Rattle.root_slots.proofs.Inverses.{state_takes}

abbrev read_as : {A : Type 0} → A → Result A BadSlot
read_as x = Ok x

read_is : {A : Type 0} (x y : A) → read_as x ≡ read_as y → x ≡ y
read_is x y e = cc

number_long : (w : Width) (bytes : List ℕ) → byte_len w ≤ length bytes → number_at w bytes ≡ Ok (from_le_bytes w (take (byte_len w) bytes), drop (byte_len w) bytes)
number_long w bytes long = rw (le-ltb (length bytes) (byte_len w) long) refl

number_short : (w : Width) (bytes : List ℕ) → length bytes < byte_len w → number_at w bytes ≡ Err (length bytes)
number_short w bytes short = rw (lt-ltb (length bytes) (byte_len w) short) refl

-- what a slot is, by what it is read as
abbrev pub Means : SlotRead → Option (List ℕ) → Type 0
Means Short file = length (contents file) < 13
Means Shut file = IsShut file
Means (Open number state) file = IsOpen (record { number = number; state = state }) file

opened_ok : (number size : ℕ) (read : Result RootState ℕ) (r : SlotRead) → opened number size read ≡ Ok r → (s : RootState) × (read ≡ Ok s) × (Open number s ≡ r)
opened_ok number size (Ok s) r e = (s, refl, read_is (Open number s) r e)
opened_ok number size (Err left) r e = absurd cc

guard_slot : {A : Type 0} (b : Bool) (d : BadSlot) (r : Result A BadSlot) (y : A) → cond b (Err d) r ≡ Ok y → (b ≡ false) × (r ≡ Ok y)
guard_slot true d r y e = absurd cc
guard_slot false d r y e = (refl, e)

-- a number and a length are there, and the state
whole_means : (rest : List ℕ) (r : SlotRead) → IsBytes rest → 8 ≤ length rest → 4 ≤ length (drop 8 rest)
    → sized_at (from_le_bytes w64 (take 8 rest)) (Ok (from_le_bytes w32 (take 4 (drop 8 rest)), drop 4 (drop 8 rest))) ≡ Ok r → Means r (Some (1 ∷ rest))
whole_means rest r fits long long2 f =
    let n = from_le_bytes w64 (take 8 rest) in
    let r2 = drop 8 rest in
    let size = from_le_bytes w32 (take 4 r2) in
    let t = drop 4 r2 in
    let bad : BadSlot = record { place = 0; kind = kinds.Length } in
    let g = guard_slot (ltb (length t) size) bad (opened n size (state_at (take size t))) r f in
    let o = opened_ok n size (state_at (take size t)) r g.1 in
    let t0 = inverse64.takes rest (n, r2) fits (number_long w64 rest long) in
    let t1 = inverse32.takes r2 (size, t) t0.0.rest_fits (number_long w32 r2 long2) in
    let len : length (take size t) ≡ size = omega (arith, length-take size t, ltb-false _ _ g.0) in
    let state = state_takes (take size t) o.0 (IsBytes-take size t t1.0.rest_fits) (omega (arith, len, t1.1)) o.1 in
    let slot : Slot = record { number = n; state = o.0 } in
    let size_is : size ≡ length (state_bytes o.0) = sym len ∙ ap length state.1 in
    let parts : rest ≡ to_le_bytes w64 n ++ (to_le_bytes w32 size ++ (take size t ++ drop size t)) =
    t0.0.parts ∙ ap (λ (l : List ℕ). to_le_bytes w64 n ++ l) (t1.0.parts ∙ ap (λ (l : List ℕ). to_le_bytes w32 size ++ l) (sym (take-append-drop size t))) in
    let called : rest ≡ to_le_bytes w64 n ++ (to_le_bytes w32 (length (state_bytes o.0)) ++ (state_bytes o.0 ++ drop size t)) =
    parts ∙ ap (λ (k : ℕ). to_le_bytes w64 n ++ (to_le_bytes w32 k ++ (take size t ++ drop size t))) size_is
    ∙ ap (λ (l : List ℕ). to_le_bytes w64 n ++ (to_le_bytes w32 (length (state_bytes o.0)) ++ (l ++ drop size t))) state.1 in
    let is : rest ≡ tail slot ++ drop size t = called
    ∙ ap (λ (l : List ℕ). to_le_bytes w64 n ++ l) (sym (append_assoc (to_le_bytes w32 (length (state_bytes o.0))) (state_bytes o.0) (drop size t)))
    ∙ sym (append_assoc (to_le_bytes w64 n) (to_le_bytes w32 (length (state_bytes o.0)) ++ state_bytes o.0) (drop size t)) in
    subst (λ (x : SlotRead). Means x (Some (1 ∷ rest))) o.2 (record { slot = record { number = t0.1; state = state.0 }; rest = drop size t; is = ap (λ (l : List ℕ). 1 ∷ l) is })

behind_means : (rest : List ℕ) (r : SlotRead) → IsBytes rest → behind_at rest ≡ Ok r → Means r (Some (1 ∷ rest))
unfolding behind_at
behind_means rest r fits e = elim (cases_lt (length rest) 8) [
  | inl short ↦
      let cut : read_as Short ≡ Ok r = ap numbered (sym (number_short w64 rest short)) ∙ e in
      subst (λ (x : SlotRead). Means x (Some (1 ∷ rest))) (read_is Short r cut) (omega (arith, short))
  | inr long ↦
      let sized : sized_at (from_le_bytes w64 (take 8 rest)) (number_at w32 (drop 8 rest)) ≡ Ok r = ap numbered (sym (number_long w64 rest long)) ∙ e in
      elim (cases_lt (length (drop 8 rest)) 4) [
        | inl short2 ↦
            let cut : read_as Short ≡ Ok r = ap (sized_at (from_le_bytes w64 (take 8 rest))) (sym (number_short w32 (drop 8 rest) short2)) ∙ sized in
            subst (λ (x : SlotRead). Means x (Some (1 ∷ rest))) (read_is Short r cut) (omega (arith, short2, length-drop 8 rest))
        | inr long2 ↦ whole_means rest r fits long long2 (ap (sized_at (from_le_bytes w64 (take 8 rest))) (sym (number_long w32 (drop 8 rest) long2)) ∙ sized)
      ]
]

pub slot_means : (bytes : List ℕ) (r : SlotRead) → IsBytes bytes → slot_at bytes ≡ Ok r → Means r (Some bytes)
unfolding slot_at
slot_means [] r fits e = subst (λ (x : SlotRead). Means x (Some [])) (read_is Short r e) (omega arith)
slot_means (zero ∷ rest) r fits e = subst (λ (x : SlotRead). Means x (Some (0 ∷ rest))) (read_is Shut r e) (record { gate = 0; rest = rest; closed = λ is. cc is; is = refl })
slot_means (suc zero ∷ rest) r fits e = behind_means rest r (IsBytes-rest 1 rest fits) e
slot_means (suc (suc gate) ∷ rest) r fits e = subst (λ (x : SlotRead). Means x (Some (suc (suc gate) ∷ rest))) (read_is Shut r e) (record { gate = suc (suc gate); rest = rest; closed = λ is. absurd (omega (arith, is)); is = refl })
