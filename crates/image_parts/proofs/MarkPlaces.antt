-- Where the marks of a row stand, and its numbers in them.
use Rattle.std.proofs.Common.{◌≡◌, ℕ, suc, ◌+◌, ◌-◌, ◌*◌, ◌<◌, ◌≤◌, false, Result, Ok, Err, List, [], ◌∷◌, ◌++◌, Some, length, take, drop, slice_get, refl, sym, ap, subst, ◌∙◌, arith, length-append}
use Rattle.std.specs.Int.{w32, from_le_bytes}
use Rattle.std.specs.List.{flat_map}
use Rattle.std.specs.Option.{option_map, option_map_or}
use Rattle.std.specs.Result.{OnOk, is_err}
use Rattle.std.proofs.lemmas.List.{drop_all, take_more}
use Rattle.std.proofs.lemmas.List.Concat.{flat_map-append}
use Rattle.std.proofs.lemmas.Option.{get_or_from_slice_get, slice_get_within}
use Rattle.doc_types.specs.declared.documents.DocRow.{DocRow}
use Rattle.posting_codec.specs.Numbers.{number}
use Rattle.chunk_image.specs.Marks.{mark_numbers, row_marks}
use Rattle.image_parts.specs.declared.parts.Parts.{Parts}
use Rattle.image_parts.specs.Images.{ArePartsOf, HaveImage}
use Rattle.image_parts.specs.steps.Reading.{AreNumbersAt}
use Rattle.image_parts.specs.steps.Standing.{StandsAt}
use Rattle.image_parts.proofs.Pieces.{four, middle}
use Rattle.image_parts.proofs.Split.{flat}
use Rattle.image_parts.proofs.Laid.{laid}
use Rattle.image_parts.proofs.RowPlaces.{at_element, begin_here, element}
use Rattle.image_parts.proofs.MarkRoom.{marked}

module _ (rows : List DocRow) (words : List (List ℕ)) (bytes : List ℕ) (parts : Parts) (have : HaveImage rows words bytes) (are : ArePartsOf rows words parts) (i : ℕ) (row : DocRow) (e : slice_get rows i ≡ Some row) where
  abbrev begin : ℕ
  begin = length (flat_map row_marks (take i rows))

  pub marks_here : StandsAt bytes (parts.marks + begin) (row_marks row)
  marks_here =
      middle bytes (flat_map row_marks (take i rows)) (row_marks row) (flat_map row_marks (drop (suc i) rows)) parts.marks (parts.marks + begin)
      (subst (StandsAt bytes parts.marks) (flat row_marks rows i row e) (laid rows words bytes parts have are).marks) refl

  -- the marks end before the word table
  pub marks_end : parts.marks + begin + length (row_marks row) ≤ parts.table
  marks_end =
      let all = ap length (flat row_marks rows i row e) in
      omega (arith, are.table_at, all, length-append (flat_map row_marks (take i rows)) (row_marks row ++ flat_map row_marks (drop (suc i) rows)), length-append (row_marks row) (flat_map row_marks (drop (suc i) rows)))

  pub table_within : parts.table ≤ length bytes
  table_within = let l = laid rows words bytes parts have are in omega (arith, l.end, are.postings_at, are.dictionary_at)

  pub begin_is : (at : ℕ) → at + 4 ≡ 32 + i * parts.stride + parts.stride → from_le_bytes w32 (take 4 (drop at bytes)) ≡ begin
  begin_is at is = four bytes at begin (begin_here rows words bytes parts have are i row e at is) (omega (arith, marks_end, table_within, (laid rows words bytes parts have are).short))

  pub numbers_here : (at : ℕ) → at ≡ parts.marks + begin → AreNumbersAt bytes at (mark_numbers row)
  unfolding row_marks
  numbers_here at is = record { fit = (marked rows words bytes have i row e).fit; here = subst (λ n. StandsAt bytes n (flat_map number (mark_numbers row))) (sym is) marks_here }

-- what calls ask for, of the marks of the row of a number
pub record MarksFit (bytes : List ℕ) (parts : Parts) : Type 0 where
  pub within : parts.marks ≤ length bytes
  pub short : length bytes ≤ 536870912

pub marks_fit : (rows : List DocRow) (words : List (List ℕ)) (bytes : List ℕ) (parts : Parts) → HaveImage rows words bytes → ArePartsOf rows words parts → MarksFit bytes parts
marks_fit rows words bytes parts have are =
    let l = laid rows words bytes parts have are in
    record { within = omega (arith, l.end, are.postings_at, are.dictionary_at, are.table_at); short = l.short }

-- the marks of a row end where those of the next one begin, or where the word table does
pub next_begin : (rows : List DocRow) (i : ℕ) (row : DocRow) → slice_get rows i ≡ Some row → (at marks : ℕ) → at ≡ marks + length (flat_map row_marks (take (i + 1) rows)) → at ≡ marks + length (flat_map row_marks (take i rows)) + length (row_marks row)
next_begin rows i row e at marks is =
    let low : i < length rows = slice_get_within rows i row e in
    let one : take (i + 1) rows ≡ take i rows ++ row ∷ [] = take_more rows i row low ∙ ap (λ r. take i rows ++ r ∷ []) (get_or_from_slice_get rows i row row e) in
    let all : flat_map row_marks (take (i + 1) rows) ≡ flat_map row_marks (take i rows) ++ (row_marks row ++ []) = ap (flat_map row_marks) one ∙ flat_map-append row_marks (take i rows) (row ∷ []) in
    omega (arith, is, ap length all, length-append (flat_map row_marks (take i rows)) (row_marks row ++ []), length-append (row_marks row) [])

pub table_begin : (rows : List DocRow) (words : List (List ℕ)) (parts : Parts) (i : ℕ) (row : DocRow) → ArePartsOf rows words parts → slice_get rows i ≡ Some row → parts.rows ≤ i + 1 → parts.table ≡ parts.marks + length (flat_map row_marks (take i rows)) + length (row_marks row)
table_begin rows words parts i row are e last =
    let none : drop (suc i) rows ≡ [] = drop_all (suc i) rows (omega (arith, last, are.rows_n)) in
    let all : flat_map row_marks rows ≡ flat_map row_marks (take i rows) ++ (row_marks row ++ []) = flat row_marks rows i row e ∙ ap (λ rs. flat_map row_marks (take i rows) ++ (row_marks row ++ flat_map row_marks rs)) none in
    omega (arith, are.table_at, ap length all, length-append (flat_map row_marks (take i rows)) (row_marks row ++ []), length-append (row_marks row) [])

-- the bytes between
pub lent_marks : (rows : List DocRow) (words : List (List ℕ)) (bytes : List ℕ) (parts : Parts) (i begin end : ℕ) (lent : List ℕ) → HaveImage rows words bytes → ArePartsOf rows words parts → i < length rows
    → begin ≡ parts.marks + length (flat_map row_marks (take i rows))
    → ((found : DocRow) → slice_get rows i ≡ Some found → end ≡ parts.marks + length (flat_map row_marks (take i rows)) + length (row_marks found))
    → lent ≡ take (end - begin) (drop begin bytes) → option_map row_marks (slice_get rows i) ≡ Some lent
lent_marks rows words bytes parts i begin end lent have are low starts ends taken =
    let found = element rows i low in
    let size : end - begin ≡ length (row_marks found.0) = omega (arith, starts, ends found.0 found.1) in
    ap (option_map row_marks) found.1
    ∙ ap Some (sym (taken ∙ ap (λ n. take n (drop begin bytes)) size ∙ ap (λ n. take (length (row_marks found.0)) (drop n bytes)) starts ∙ (marks_here rows words bytes parts have are i found.0 found.1).is))

-- they lie within the image
pub marks_within : (rows : List DocRow) (words : List (List ℕ)) (bytes : List ℕ) (parts : Parts) (i begin end : ℕ) → HaveImage rows words bytes → ArePartsOf rows words parts → i < length rows
    → begin ≡ parts.marks + length (flat_map row_marks (take i rows))
    → ((found : DocRow) → slice_get rows i ≡ Some found → end ≡ parts.marks + length (flat_map row_marks (take i rows)) + length (row_marks found))
    → (begin ≤ end) × (end ≤ length bytes)
marks_within rows words bytes parts i begin end have are low starts ends =
    let found = element rows i low in
    (omega (arith, starts, ends found.0 found.1), omega (arith, ends found.0 found.1, marks_end rows words bytes parts have are i found.0 found.1, table_within rows words bytes parts have are i found.0 found.1))

-- what was appended of a row
pub appended : {X : Type 0} (F : DocRow → List X) (rows : List DocRow) (i : ℕ) (row : DocRow) (old now : List X) → slice_get rows i ≡ Some row → now ≡ old ++ F row → now ≡ old ++ option_map_or F (slice_get rows i) []
appended F rows i row old now e put = put ∙ ap (λ found. old ++ option_map_or F found []) (sym e)

pub fields_there : (rows : List DocRow) (words : List (List ℕ)) (parts : Parts) (i : ℕ) (row : DocRow) → ArePartsOf rows words parts → slice_get rows i ≡ Some row → length row.doc.fields ≡ parts.fields
fields_there rows words parts i row are e = at_element (λ (row : DocRow). length row.doc.fields ≡ parts.fields) rows i row e are.fields_n

-- what holds after a call that didn't fail
pub was_ok : {T E : Type 0} (r : Result T E) (P : Type 0) → is_err r ≡ false → OnOk r P → P
was_ok (Ok x) P e holds = holds
was_ok (Err x) P e holds = absurd cc
