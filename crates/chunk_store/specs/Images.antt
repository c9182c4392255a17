-- Images: the files of a disk with their bytes.
use Rattle.std.specs.Prelude.{◌≡◌, ◌≢◌, ℕ, ◌+◌, List, [], ◌++◌, length, take, drop, Option, Some, None}

-- the files by their numbers, each with its bytes where it is there
abbrev pub Image : Type 0
Image = ℕ → Option (List ℕ)

-- the bytes of a file; a file that isn't there has none
abbrev pub contents : Option (List ℕ) → List ℕ
contents None = []
contents (Some bytes) = bytes

-- The file is there.
abbrev pub IsThere : Option (List ℕ) → Type 0
IsThere None = ⊥
IsThere (Some bytes) = Unit {0}

-- The disk tells nothing, or what it tells has P.
abbrev pub Told : (Image → Type 0) → Option Image → Type 0
Told P told = (image : Image) → told ≡ Some image → P image

-- Nothing was told before and after, or two images that are related.
abbrev pub Both : (Image → Image → Type 0) → Option Image → Option Image → Type 0
Both R None None = Unit {0}
Both R None (Some after) = ⊥
Both R (Some before) None = ⊥
Both R (Some before) (Some after) = R before after

-- The images differ in this file at most, whose contents are related.
pub record Changes (file : ℕ) (R : Option (List ℕ) → Option (List ℕ) → Type 0) (old new : Image) : Type 0 where
  pub here : R (old file) (new file)
  pub others : (f : ℕ) → f ≢ file → new f ≡ old f

-- old with these bytes at this place
abbrev pub over : ℕ → List ℕ → List ℕ → List ℕ
over at bytes old = take at old ++ bytes ++ drop (at + length bytes) old

-- The file has these bytes at this place now, and the others as before.
abbrev pub Writes : ℕ → List ℕ → Option (List ℕ) → Option (List ℕ) → Type 0
Writes at bytes old new = new ≡ Some (over at bytes (contents old))

-- The file is gone.
abbrev pub Vanishes : Option (List ℕ) → Option (List ℕ) → Type 0
Vanishes old new = new ≡ None

-- The bytes that are read stand at this place.
abbrev pub Reads : List ℕ → ℕ → List ℕ → Type 0
Reads file at bytes = bytes ≡ take (length bytes) (drop at file)
