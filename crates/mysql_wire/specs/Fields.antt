-- Payloads as fields, one after the other, as they are read: each length-encoded number in any of its four spellings.
use Rattle.std.specs.Prelude.{◌≡◌, ◌⊎◌, ℕ, ◌<◌, ◌≤◌, List, [], ◌∷◌, ◌++◌, length, Result, Ok, Err}
use Rattle.srch_base.specs.Numbers.{number_of}
use Rattle.srch_base.specs.declared.faults.Or.{Or}
use Rattle.srch_base.specs.declared.faults.Or.TheVariants.{NoMemory, Fault}
use Rattle.mysql_wire.specs.declared.fields.WireFault.{WireFault}

-- These bytes are a number of this size, the low byte first.
abbrev pub IsPlain : ℕ → List ℕ → ℕ → Type 0
IsPlain size bytes n = (length bytes ≡ size) × (n ≡ number_of bytes)

-- The number stands after a mark that tells its size.
abbrev pub IsMarked : ℕ → ℕ → List ℕ → ℕ → Type 0
IsMarked mark size bytes n = (low : List ℕ) × (bytes ≡ mark ∷ low) × IsPlain size low n

-- These bytes are a length-encoded number: "Protocol::LengthEncodedInteger".
abbrev pub IsNumber : List ℕ → ℕ → Type 0
IsNumber bytes n = ((bytes ≡ n ∷ []) × (n < 251)) ⊎ (IsMarked 0xfc 2 bytes n ⊎ (IsMarked 0xfd 3 bytes n ⊎ IsMarked 0xfe 8 bytes n))

-- a field, with what it holds
pub data Field : Type 0 where
  Exactly : (bytes : List ℕ) → Field
  Sized : (size : ℕ) → (bytes : List ℕ) → Field
  Plain : (size : ℕ) → (n : ℕ) → Field
  Number : (n : ℕ) → Field
  Lengthed : (text : List ℕ) → Field

-- These bytes are the field.
abbrev pub IsField : Field → List ℕ → Type 0
IsField (Exactly bytes) part = part ≡ bytes
IsField (Sized size bytes) part = (length bytes ≡ size) × (part ≡ bytes)
IsField (Plain size n) part = IsPlain size part n
IsField (Number n) part = IsNumber part n
IsField (Lengthed text) part = (head : List ℕ) × IsNumber head (length text) × (part ≡ head ++ text)

-- The payload is these fields one after the other, and nothing else.
unfoldable pub Fills : List Field → List ℕ → Type 0
Fills [] payload = payload ≡ []
Fills (field ∷ fields) payload = (part rest : List ℕ) × (payload ≡ part ++ rest) × IsField field part × Fills fields rest

-- The first of these fields fill the payload as far as this place.
pub record Reaches (fields : List Field) (payload : List ℕ) (place : ℕ) : Type 0 where
  pub done : List Field
  pub others : List Field
  pub front : List ℕ
  pub rest : List ℕ
  pub fields_are : fields ≡ done ++ others
  pub payload_is : payload ≡ front ++ rest
  pub filled : Fills done front
  pub place_is : place ≡ length front

-- Where the first field begins that isn't whole or breaks the layout, or what stands after the last field: no value's fields reach further.
pub record IsFirstFault {V : Type 0} (fields : V → List Field) (payload : List ℕ) (place : ℕ) : Type 0 where
  pub value : V
  pub reached : Reaches (fields value) payload place
  pub farthest : (other : V) (further : ℕ) → Reaches (fields other) payload further → further ≤ place

-- What a reader answers: the one value whose fields fill the payload or, where there is none, the place of the fault. Want of memory is free.
abbrev pub Reads : {X V : Type 0} → (X → V) → (V → List Field) → List ℕ → Result X (Or WireFault) → Type 0
Reads {X} {V} view fields payload (Ok x) = Fills (fields (view x)) payload × ((other : V) → Fills (fields other) payload → other ≡ view x)
Reads {X} {V} view fields payload (Err NoMemory) = Unit {0}
Reads {X} {V} view fields payload (Err (Fault fault)) = ((value : V) → Fills (fields value) payload → ⊥) × IsFirstFault fields payload fault.place
