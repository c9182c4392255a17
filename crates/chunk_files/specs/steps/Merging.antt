-- Going over two chunks side by side, by ascending ids.
use Rattle.std.specs.Prelude.{ℕ, min, ◌<◌, ◌≤◌, List, Option, Some, None, length, get_or}
use Rattle.doc_types.specs.declared.documents.DocRow.{DocRow}

-- the lower one of two rows, where there are any
abbrev pub sooner : Option ℕ → Option ℕ → Option ℕ
sooner None other = other
sooner (Some row) None = Some row
sooner (Some row) (Some its) = Some (min row its)

-- the first rows, so many, have ids below this one
abbrev pub AreBelow : ℕ → ℕ → List DocRow → Type 0
AreBelow id count rows = (k : ℕ) (d : DocRow) → k < count → k < length rows → (get_or rows k d).doc.id < id

-- Of the rows, whose ids ascend, those before this place are the ones with ids below this one.
pub record IsFirst (id at : ℕ) (rows : List DocRow) : Type 0 where
  pub within : at ≤ length rows
  pub below : AreBelow id at rows
  pub behind : (k : ℕ) (d : DocRow) → at ≤ k → k < length rows → id ≤ (get_or rows k d).doc.id
