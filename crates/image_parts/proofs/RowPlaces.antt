-- Where a row stands, and what stands in it.
use Rattle.std.proofs.Common.{◌≡◌, ℕ, ℤ, zero, suc, ◌+◌, ◌*◌, ◌<◌, ◌≤◌, ◌^◌, List, [], ◌∷◌, ◌++◌, Some, None, Option, IsSome, length, take, drop, slice_get, get_or, refl, sym, ap, subst, ◌∙◌, arith, All, AllPairs}
use Rattle.std.specs.Coded.{codes, le_prop}
use Rattle.std.specs.Int.{w32, w64, to_le_bytes, from_le_bytes, cast_signed, cast_unsigned}
use Rattle.std.specs.List.{flat_map}
use Rattle.std.specs.Option.{option_and_then, option_map}
use Rattle.std.proofs.Props.{props}
use Rattle.std.proofs.Math.Logic.{∥∥₁_elim}
use Rattle.std.proofs.Math.Facts.{to_z-of_z, Fits-of_z}
use Rattle.std.proofs.lemmas.List.{length-take}
use Rattle.std.proofs.lemmas.List.Elements.{All-take}
use Rattle.std.proofs.lemmas.Option.{get_or_from_slice_get, same_Some, slice_get_within}
use Rattle.doc_types.specs.declared.documents.DocRow.{DocRow}
use Rattle.doc_types.specs.declared.schema.Value.{Value}
use Rattle.doc_types.specs.declared.schema.Value.TheVariants as values
use Rattle.doc_types.specs.Chunks.{value_at}
use Rattle.doc_bytes.specs.Payload.{value_bytes}
use Rattle.doc_bytes.specs.RoundTrip.{IsNumber}
use Rattle.chunk_image.specs.ChunkImage.{HasRoom, marks_bytes, row_bytes, rows_bytes}
use Rattle.chunk_image.specs.Marks.{row_marks}
use Rattle.image_parts.specs.declared.parts.Parts.{Parts}
use Rattle.image_parts.specs.Images.{ArePartsOf, HaveImage, IsWhole}
use Rattle.image_parts.specs.steps.Standing.{StandsAt}
use Rattle.image_parts.proofs.Pieces.{behind, eight, front, middle, within}
use Rattle.image_parts.proofs.Split.{flat, row_size, rows_size, rows_split, values_size}
use Rattle.image_parts.proofs.Laid.{laid}

pub element : {X : Type 0} (xs : List X) (i : ℕ) → i < length xs → (x : X) × (slice_get xs i ≡ Some x)
element [] i low = absurd (omega (arith, low))
element (x ∷ xs) zero low = (x, refl)
element (x ∷ xs) (suc i) low = element xs i (omega (arith, low))

pub at_element : {X : Type 0} (P : X → Type 0) (xs : List X) (i : ℕ) (x : X) → slice_get xs i ≡ Some x → All P xs → P x
at_element P xs i x e all = subst P (get_or_from_slice_get xs i x x e) (all i x (slice_get_within xs i x e))

-- a row of an image
module _ (rows : List DocRow) (words : List (List ℕ)) (bytes : List ℕ) (parts : Parts) (have : HaveImage rows words bytes) (are : ArePartsOf rows words parts) (i : ℕ) (row : DocRow) (e : slice_get rows i ≡ Some row) where
  -- where its marks begin
  abbrev pub marks_begin : ℕ
  marks_begin = length (marks_bytes (take i rows))

  pub row_here : StandsAt bytes (32 + i * parts.stride) (row_bytes marks_begin row)
  row_here =
      let before = rows_bytes 0 (take i rows) in
      let others = rows_bytes (marks_begin + length (row_marks row)) (drop (suc i) rows) in
      let low : i < length rows = slice_get_within rows i row e in
      let size : length before ≡ length (take i rows) * parts.stride = rows_size 0 parts.stride (take i rows) (All-take (λ (row : DocRow). 20 + 8 * length row.doc.values ≡ parts.stride) i rows are.row_size) in
      let count : length (take i rows) ≡ i = omega (arith, length-take i rows, low) in
      let whole : StandsAt bytes 32 (before ++ (row_bytes marks_begin row ++ others)) = subst (StandsAt bytes 32) (rows_split 0 marks_begin rows i row e (omega arith)) (laid rows words bytes parts have are).columns in
      middle bytes before (row_bytes marks_begin row) others 32 (32 + i * parts.stride) whole (ap (λ n. 32 + n) (ap (λ n. n * parts.stride) (sym count) ∙ sym size))

  pub stride_is : 20 + 8 * length row.doc.values ≡ parts.stride
  stride_is = at_element (λ (row : DocRow). 20 + 8 * length row.doc.values ≡ parts.stride) rows i row e are.row_size

  abbrev rest : List ℕ
  rest = flat_map value_bytes row.doc.values ++ to_le_bytes w32 marks_begin

  pub id_here : StandsAt bytes (32 + i * parts.stride) (to_le_bytes w64 row.doc.id)
  id_here = front bytes (to_le_bytes w64 row.doc.id) (to_le_bytes w64 row.born ++ rest) (32 + i * parts.stride) row_here

  pub born_here : (at : ℕ) → at ≡ 32 + i * parts.stride + 8 → StandsAt bytes at (to_le_bytes w64 row.born)
  born_here at is = middle bytes (to_le_bytes w64 row.doc.id) (to_le_bytes w64 row.born) rest (32 + i * parts.stride) at row_here is

  pub values_here : StandsAt bytes (32 + i * parts.stride + 16) rest
  values_here = behind bytes (to_le_bytes w64 row.doc.id ++ to_le_bytes w64 row.born) rest (32 + i * parts.stride) (32 + i * parts.stride + 16) row_here refl

  pub value_here : (attr at : ℕ) (v : Value) → slice_get row.doc.values attr ≡ Some v → at ≡ 32 + i * parts.stride + 16 + 8 * attr → StandsAt bytes at (value_bytes v)
  value_here attr at v f is =
      let all : StandsAt bytes (32 + i * parts.stride + 16) (flat_map value_bytes row.doc.values) = front bytes (flat_map value_bytes row.doc.values) (to_le_bytes w32 marks_begin) (32 + i * parts.stride + 16) values_here in
      let before = flat_map value_bytes (take attr row.doc.values) in
      let others = flat_map value_bytes (drop (suc attr) row.doc.values) in
      let low : attr < length row.doc.values = slice_get_within row.doc.values attr v f in
      middle bytes before (value_bytes v) others (32 + i * parts.stride + 16) at (subst (StandsAt bytes (32 + i * parts.stride + 16)) (flat value_bytes row.doc.values attr v f) all)
      (omega (arith, is, values_size (take attr row.doc.values), length-take attr row.doc.values, low))

  pub begin_here : (at : ℕ) → at + 4 ≡ 32 + i * parts.stride + parts.stride → StandsAt bytes at (to_le_bytes w32 marks_begin)
  begin_here at is =
      behind bytes (flat_map value_bytes row.doc.values) (to_le_bytes w32 marks_begin) (32 + i * parts.stride + 16) at values_here (omega (arith, is, stride_is, values_size row.doc.values))

  -- the row lies within the bytes
  pub row_within : 32 + i * parts.stride + parts.stride ≤ length bytes
  row_within =
      let size : length (row_bytes marks_begin row) ≡ parts.stride = row_size marks_begin row ∙ stride_is in
      let w : 32 + i * parts.stride + length (row_bytes marks_begin row) ≤ length bytes = within bytes (row_bytes marks_begin row) (32 + i * parts.stride) row_here (omega (arith, size, stride_is)) in
      omega (arith, w, size)

  pub bytes_short : length bytes ≤ 536870912
  bytes_short = (laid rows words bytes parts have are).short

  pub id_small : row.doc.id < 2 ^ 64
  id_small = ∥∥₁_elim have (hlevel (le_prop, props)) (λ (is : IsWhole rows words bytes). (at_element HasRoom rows i row e is.room).id)

  pub born_small : row.born < 2 ^ 64
  born_small = ∥∥₁_elim have (hlevel (le_prop, props)) (λ (is : IsWhole rows words bytes). (at_element HasRoom rows i row e is.room).born)

  pub id_is : from_le_bytes w64 (take 8 (drop (32 + i * parts.stride) bytes)) ≡ row.doc.id
  id_is = eight bytes (32 + i * parts.stride) row.doc.id id_here id_small

  pub born_is : (at : ℕ) → at ≡ 32 + i * parts.stride + 8 → from_le_bytes w64 (take 8 (drop at bytes)) ≡ row.born
  born_is at is = eight bytes at row.born (born_here at is) born_small

  -- a number that was read, as the code hands it on
  abbrev pub as_read : ℕ → Value
  as_read at = values.Whole (cast_signed w64 (cast_unsigned w64 (cast_signed w64 (from_le_bytes w64 (take 8 (drop at bytes))))))

  whole_is : (at : ℕ) (v : Value) → StandsAt bytes at (value_bytes v) → IsNumber v → as_read at ≡ v
  whole_is at (values.Whole n) s fits =
      let read : cast_signed w64 (from_le_bytes w64 (take 8 (drop at bytes))) ≡ n = ap (cast_signed w64) (eight bytes at (cast_unsigned w64 n) s (Fits-of_z fits).fits) ∙ to_z-of_z fits in
      ap values.Whole (ap (λ z. cast_signed w64 (cast_unsigned w64 z)) read ∙ to_z-of_z fits)

  value_set : (x y : Value) → IsProp (x ≡ y)
  value_set x y = hlevel codes

  pub value_is : (attr at : ℕ) (v : Value) → slice_get row.doc.values attr ≡ Some v → at ≡ 32 + i * parts.stride + 16 + 8 * attr → as_read at ≡ v
  value_is attr at v f is =
      ∥∥₁_elim have (value_set (as_read at) v) (λ (w : IsWhole rows words bytes).
      whole_is at v (value_here attr at v f is) (at_element IsNumber row.doc.values attr v f (at_element HasRoom rows i row e w.room).values))

-- what calls ask for and answer, of the row of a number
pub record RowFits (bytes : List ℕ) (parts : Parts) (i : ℕ) : Type 0 where
  pub some : 20 ≤ parts.stride
  pub fits : 32 + i * parts.stride + parts.stride ≤ length bytes
  pub short : length bytes ≤ 536870912

pub row_fits : (rows : List DocRow) (words : List (List ℕ)) (bytes : List ℕ) (parts : Parts) (i : ℕ) → HaveImage rows words bytes → ArePartsOf rows words parts → i < length rows → RowFits bytes parts i
row_fits rows words bytes parts i have are low =
    let found = element rows i low in
    record {
      some = omega (arith, stride_is rows words bytes parts have are i found.0 found.1);
      fits = row_within rows words bytes parts have are i found.0 found.1;
      short = bytes_short rows words bytes parts have are i found.0 found.1;
    }

-- the same number of rows
pub low_too : (rows others : List DocRow) (words its : List (List ℕ)) (parts : Parts) (i : ℕ) → ArePartsOf rows words parts → ArePartsOf others its parts → i < length rows → i < length others
low_too rows others words its parts i are aro low = omega (arith, low, are.rows_n, aro.rows_n)

pub id_answer : (rows : List DocRow) (words : List (List ℕ)) (bytes : List ℕ) (parts : Parts) (i place number : ℕ) → HaveImage rows words bytes → ArePartsOf rows words parts → i < length rows
    → place ≡ 32 + i * parts.stride → number ≡ from_le_bytes w64 (take 8 (drop place bytes)) → option_map (λ (found : DocRow). found.doc.id) (slice_get rows i) ≡ Some number
id_answer rows words bytes parts i place number have are low is read =
    let found = element rows i low in
    ap (option_map (λ (row : DocRow). row.doc.id)) found.1
    ∙ ap Some (sym (read ∙ ap (λ n. from_le_bytes w64 (take 8 (drop n bytes))) is ∙ id_is rows words bytes parts have are i found.0 found.1))

pub born_answer : (rows : List DocRow) (words : List (List ℕ)) (bytes : List ℕ) (parts : Parts) (i place number : ℕ) → HaveImage rows words bytes → ArePartsOf rows words parts → i < length rows
    → place ≡ 32 + i * parts.stride → number ≡ from_le_bytes w64 (take 8 (drop (place + 8) bytes)) → option_map (λ (found : DocRow). found.born) (slice_get rows i) ≡ Some number
born_answer rows words bytes parts i place number have are low is read =
    let found = element rows i low in
    ap (option_map (λ (row : DocRow). row.born)) found.1
    ∙ ap Some (sym (read ∙ born_is rows words bytes parts have are i found.0 found.1 (place + 8) (omega (arith, is))))

-- a value that is there
pub record Valued (rows : List DocRow) (i attr : ℕ) : Type 0 where
  pub row : DocRow
  pub v : Value
  pub at : slice_get rows i ≡ Some row
  pub is : slice_get row.doc.values attr ≡ Some v

pub valued : (rows : List DocRow) (i attr : ℕ) → IsSome (value_at rows i attr) → Valued rows i attr
valued rows i attr some = go (slice_get rows i) refl some where
  inner : (row : DocRow) → slice_get rows i ≡ Some row → (found : Option Value) → slice_get row.doc.values attr ≡ found → IsSome found → Valued rows i attr
  inner row e None f some = absurd cc
  inner row e (Some v) f some = record { row = row; v = v; at = e; is = f }

  go : (found : Option DocRow) → slice_get rows i ≡ found → IsSome (option_and_then (λ (row : DocRow). slice_get row.doc.values attr) found) → Valued rows i attr
  go None e some = absurd cc
  go (Some row) e some = inner row e (slice_get row.doc.values attr) refl some

pub value_low : (rows : List DocRow) (words : List (List ℕ)) (bytes : List ℕ) (parts : Parts) (i attr : ℕ) → HaveImage rows words bytes → ArePartsOf rows words parts → IsSome (value_at rows i attr) → (i < length rows) × (20 + 8 * attr + 8 ≤ parts.stride)
value_low rows words bytes parts i attr have are some =
    let f = valued rows i attr some in
    (slice_get_within rows i f.row f.at, omega (arith, stride_is rows words bytes parts have are i f.row f.at, slice_get_within f.row.doc.values attr f.v f.is))

pub value_answer : (rows others : List DocRow) (words its : List (List ℕ)) (bytes : List ℕ) (parts : Parts) (i attr place number : ℕ) (z : ℤ) → HaveImage rows words bytes → ArePartsOf rows words parts → IsSome (value_at rows i attr)
    → HaveImage others its bytes → ArePartsOf others its parts
    → place ≡ 32 + i * parts.stride → number ≡ from_le_bytes w64 (take 8 (drop (place + 16 + 8 * attr) bytes)) → z ≡ cast_signed w64 number → value_at others i attr ≡ Some (values.Whole (cast_signed w64 (cast_unsigned w64 z)))
value_answer rows others words its bytes parts i attr place number z have are some having aro is read cast =
    let low = value_low rows words bytes parts i attr have are some in
    let found = element others i (low_too rows others words its parts i are aro low.0) in
    let size = stride_is others its bytes parts having aro i found.0 found.1 in
    let v = element found.0.doc.values attr (omega (arith, low.1, size)) in
    ap (option_and_then (λ (row : DocRow). slice_get row.doc.values attr)) found.1 ∙ v.1
    ∙ ap Some (sym (ap (λ n. values.Whole (cast_signed w64 (cast_unsigned w64 n))) (cast ∙ ap (cast_signed w64) read) ∙ value_is others its bytes parts having aro i found.0 found.1 attr (place + 16 + 8 * attr) v.0 v.1 (omega (arith, is))))

-- the id that was read of a row
pub id_there : (rows : List DocRow) (i number : ℕ) → option_map (λ (found : DocRow). found.doc.id) (slice_get rows i) ≡ Some number → i < length rows → (d : DocRow) → (get_or rows i d).doc.id ≡ number
id_there rows i number read low d =
    let found = element rows i low in
    let one : Some found.0.doc.id ≡ Some number = sym (ap (option_map (λ (row : DocRow). row.doc.id)) found.1) ∙ read in
    ap (λ (row : DocRow). row.doc.id) (get_or_from_slice_get rows i found.0 d found.1) ∙ same_Some found.0.doc.id number one

-- rows ascend by their ids
pub ids_ascend : (rows : List DocRow) (words : List (List ℕ)) (bytes : List ℕ) → HaveImage rows words bytes → AllPairs (λ (row later : DocRow). row.doc.id < later.doc.id) rows
ids_ascend rows words bytes have = ∥∥₁_elim have (hlevel (le_prop, props)) (λ (is : IsWhole rows words bytes). is.of.ids)
