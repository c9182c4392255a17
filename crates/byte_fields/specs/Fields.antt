-- Reading from left to right. A fault is how many bytes are left where the first field begins that isn't whole or breaks the layout.
use Rattle.std.specs.Prelude.{◌≡◌, ℕ, zero, suc, ◌-◌, List, [], ◌∷◌, length, take, drop, Bool, Result, Ok, Err, nat_lt, if◌then◌else◌}
use Rattle.std.specs.Int.{Width, byte_len, from_le_bytes}
use Rattle.srch_base.specs.declared.faults.Or.{Or}
use Rattle.srch_base.specs.declared.faults.Or.TheVariants.{NoMemory, Fault}

-- what is read, and the bytes after it
abbrev pub Read : Type 0 → Type 0
Read A = Result (A × List ℕ) ℕ

-- one field after another
infixl 10 ◌>>=◌
abbrev pub ◌>>=◌ : {A B : Type 0} → Result A ℕ → (A → Result B ℕ) → Result B ℕ
(Ok x) >>= f = f x
(Err left) >>= f = Err left

-- the byte at the front
abbrev pub byte_at : List ℕ → Read ℕ
byte_at [] = Err 0
byte_at (byte ∷ rest) = Ok (byte, rest)

-- so many bytes at the front
abbrev pub piece_at : ℕ → List ℕ → Read (List ℕ)
piece_at size bytes = if nat_lt (length bytes) size then Err (length bytes) else Ok (take size bytes, drop size bytes)

-- the number of some width at the front, the low byte first
abbrev pub number_at : Width → List ℕ → Read ℕ
number_at w bytes = if nat_lt (length bytes) (byte_len w) then Err (length bytes) else Ok (from_le_bytes w (take (byte_len w) bytes), drop (byte_len w) bytes)

-- a field that passes a test too; it begins where the bytes do
abbrev pub checked : {A : Type 0} → (A → Bool) → (List ℕ → Read A) → List ℕ → Read A
checked test read bytes = read bytes >>= λ field. if test field.0 then Ok field else Err (length bytes)

-- a fault, moved to where so many bytes are left
abbrev pub begun_at : {A : Type 0} → ℕ → Result A ℕ → Result A ℕ
begun_at left (Ok x) = Ok x
begun_at left (Err inside) = Err left

-- several fields that count as one: it begins where the bytes do
abbrev pub as_one : {A : Type 0} → (List ℕ → Read A) → List ℕ → Read A
as_one read bytes = begun_at (length bytes) (read bytes)

-- So many values in a row. How the next one is read depends on the one before.
unfoldable pub many : {S A : Type 0} → (S → List ℕ → Read A) → (A → S) → ℕ → S → List ℕ → Read (List A)
many read next zero s bytes = Ok ([], bytes)
many read next (suc n) s bytes = do
  first ← read s bytes
  others ← many read next n (next first.0) first.1
  Ok (first.0 ∷ others.0, others.1)

-- so many values in a row, each read alike
abbrev pub each : {A : Type 0} → (List ℕ → Read A) → ℕ → List ℕ → Read (List A)
each read n bytes = many (λ (_ : Unit {0}). read) (λ _. tt) n tt bytes

-- each value fits what follows the one before
abbrev pub AllFrom : {S A : Type 0} → (S → A → Type 0) → (A → S) → S → List A → Type 0
AllFrom Fits next s [] = Unit {0}
AllFrom Fits next s (x ∷ xs) = Fits s x × AllFrom Fits next (next x) xs

-- a fault by its place among all bytes
abbrev pub placed : {A : Type 0} → ℕ → Result A ℕ → Result A ℕ
placed size (Ok x) = Ok x
placed size (Err left) = Err (size - left)

-- What a function returned, seen by view, is what is read, unless memory ran out.
abbrev pub Fails : {Y : Type 0} → Or ℕ → Result Y ℕ → Type 0
Fails NoMemory read = Unit {0}
Fails (Fault left) read = read ≡ Err left

abbrev pub Gives : {X Y : Type 0} → (X → Y) → Result X (Or ℕ) → Result Y ℕ → Type 0
Gives view (Ok x) read = read ≡ Ok (view x)
Gives view (Err e) read = Fails e read
