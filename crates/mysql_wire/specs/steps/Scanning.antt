-- How the readers go from field to field. What a payload stands for is said by its fields alone.
use Rattle.std.specs.Prelude.{◌≡◌, ℕ, ◌-◌, List, [], ◌∷◌, length, take, drop, Option, Some, None, Result, Ok, Err, nat_le, nat_eq, ◌==◌, if◌then◌else◌}
use Rattle.std.specs.Cmp.Lexicographic.{pointwise}
use Rattle.srch_base.specs.declared.faults.Or.{Or}
use Rattle.srch_base.specs.declared.faults.Or.TheVariants.{Fault}
use Rattle.mysql_wire.specs.declared.fields.Stop.{Stop}
use Rattle.mysql_wire.specs.declared.fields.WireFault.{WireFault}
use Rattle.mysql_wire.specs.steps.NumberFronts.{fixed_front, lenenc_front}
use Rattle.mysql_wire.specs.Fields.{Field, Exactly, Sized, Plain, Number, Lengthed}

-- ---- one field, and the bytes after it

abbrev pub exactly_at : List ℕ → List ℕ → Option (List ℕ)
exactly_at want bytes = if pointwise nat_eq (take (length want) bytes) want then Some (drop (length want) bytes) else None

abbrev pub sized_at : ℕ → List ℕ → Option (List ℕ × List ℕ)
sized_at size bytes = if nat_le size (length bytes) then Some (take size bytes, drop size bytes) else None

-- the bytes after a number, where it is this one
abbrev pub if_number : ℕ → Option (ℕ × List ℕ) → Option (List ℕ)
if_number want None = None
if_number want (Some (n, rest)) = if n == want then Some rest else None

-- the bytes after a text, where it is this one and these bytes stand after its length
abbrev pub if_text : List ℕ → Option (List ℕ) → Option (List ℕ)
if_text want None = None
if_text want (Some bytes) = exactly_at want bytes

abbrev pub known_at : Field → List ℕ → Option (List ℕ)
known_at (Exactly want) bytes = exactly_at want bytes
known_at (Sized size want) bytes = if length want == size then exactly_at want bytes else None
known_at (Plain size want) bytes = if_number want (fixed_front size bytes)
known_at (Number want) bytes = if_number want (lenenc_front bytes)
known_at (Lengthed want) bytes = if_text want (if_number (length want) (lenenc_front bytes))

-- the text after a length
abbrev pub behind : Option (ℕ × List ℕ) → Option (List ℕ × List ℕ)
behind None = None
behind (Some (size, bytes)) = sized_at size bytes

abbrev pub text_at : List ℕ → Option (List ℕ × List ℕ)
text_at bytes = behind (lenenc_front bytes)

-- a text, as a value
abbrev pub as_value : Option (List ℕ × List ℕ) → Option (Option (List ℕ) × List ℕ)
as_value None = None
as_value (Some (text, rest)) = Some (Some text, rest)

-- a value of a row, or the mark of NULL
abbrev pub cell_at : List ℕ → Option (Option (List ℕ) × List ℕ)
cell_at [] = None
cell_at (mark ∷ rest) = if mark == 0xfb then Some (None, rest) else as_value (text_at (mark ∷ rest))

-- ---- a payload, field by field: its value, or how many bytes are left from the field at fault

infixl 10 ◌>>=◌
abbrev pub ◌>>=◌ : {A B : Type 0} → Result A ℕ → (A → Result B ℕ) → Result B ℕ
(Ok x) >>= f = f x
(Err left) >>= f = Err left

abbrev pub at : {A : Type 0} → List ℕ → Option A → Result A ℕ
at bytes None = Err (length bytes)
at bytes (Some x) = Ok x

-- which fields may come next, by what those before hold
pub data Layout (A : Type 0) : Type 0 where
  Done : (value : A) → Layout A
  Known : (field : Field) → (next : Layout A) → Layout A
  Either : (field : Field) → (next : Layout A) → (other : Field) → (next_other : Layout A) → Layout A
  SizedBytes : (size : ℕ) → (next : List ℕ → Layout A) → Layout A
  PlainNumber : (size : ℕ) → (next : ℕ → Layout A) → Layout A
  AnyNumber : (next : ℕ → Layout A) → Layout A
  AnyText : (next : List ℕ → Layout A) → Layout A
  Rest : (value : List ℕ → A) → Layout A

-- nothing is left
abbrev pub ended : {A : Type 0} → A → List ℕ → Result A ℕ
ended value [] = Ok value
ended value (byte ∷ bytes) = Err (length (byte ∷ bytes))

abbrev pub or_other : {A : Type 0} → Result (List ℕ) ℕ → (List ℕ → Result A ℕ) → Result A ℕ → Result A ℕ
or_other (Ok rest) f other = f rest
or_other (Err left) f other = other

abbrev pub scan : {A : Type 0} → Layout A → List ℕ → Result A ℕ
scan (Done value) bytes = ended value bytes
scan (Known field next) bytes = at bytes (known_at field bytes) >>= λ rest. scan next rest
scan (Either field next other next_other) bytes = or_other (at bytes (known_at field bytes)) (λ rest. scan next rest) (at bytes (known_at other bytes) >>= λ rest. scan next_other rest)
scan (SizedBytes size next) bytes = at bytes (sized_at size bytes) >>= λ x. scan (next x.0) x.1
scan (PlainNumber size next) bytes = at bytes (fixed_front size bytes) >>= λ x. scan (next x.0) x.1
scan (AnyNumber next) bytes = at bytes (lenenc_front bytes) >>= λ x. scan (next x.0) x.1
scan (AnyText next) bytes = at bytes (text_at bytes) >>= λ x. scan (next x.0) x.1
scan (Rest value) bytes = Ok (value bytes)

-- What a function returned, seen by view, is what reading gives.
abbrev pub Gives : {X Y : Type 0} → (X → Y) → Result X Stop → Result Y ℕ → Type 0
Gives view (Ok x) read = read ≡ Ok (view x)
Gives view (Err stop) read = read ≡ Err stop.left

-- what the reader of a whole payload answers
abbrev pub answer_to : {X : Type 0} → List ℕ → Result X Stop → Result X (Or WireFault)
answer_to payload (Ok x) = Ok x
answer_to payload (Err stop) = Err (Fault (record { place = length payload - stop.left }))
