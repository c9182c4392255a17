-- Rows of an image are few.
use Rattle.std.proofs.Common.{◌≡◌, ◌<◌, ◌≤◌, ◌+◌, ◌*◌, ℕ, List, [], ◌∷◌, ◌++◌, All, get_or, length, length-append, take, ap, subst, sym, ◌∙◌, arith}
use Rattle.std.proofs.lemmas.List.{take_all, take_more}
use Rattle.std.proofs.lemmas.List.Elements.{All-append, All-cons, All-nil}
use Rattle.std.proofs.Math.Logic.{∥∥₁_elim}
use Rattle.std.proofs.Props.{props}
use Rattle.doc_types.specs.declared.documents.DocRow.{DocRow}
use Rattle.doc_types.specs.Snapshots.{LayerValue}
use Rattle.chunk_image.specs.Marks.{row_marks}
use Rattle.chunk_image.specs.ChunkImage.{dictionary_bytes, header_bytes, marks_bytes, postings_bytes, row_bytes, rows_bytes, table_bytes}
use Rattle.image_parts.specs.Images.{HaveImage, IsWhole}
use Rattle.image_parts.proofs.Split.{row_size}
use Rattle.job_chunks.specs.Chunks.{HasFewRows}

each_row : (at : ℕ) (rows : List DocRow) → 20 * length rows ≤ length (rows_bytes at rows)
each_row at [] = omega arith
each_row at (row ∷ rows) = omega (arith, length-append (row_bytes at row) (rows_bytes (at + length (row_marks row)) rows), row_size at row, each_row (at + length (row_marks row)) rows)

whole_few : (rows : List DocRow) (words : List (List ℕ)) (bytes : List ℕ) → IsWhole rows words bytes → HasFewRows rows
whole_few rows words bytes is =
    let h = header_bytes is.schema rows words in
    let r = rows_bytes 0 rows in
    let m = marks_bytes rows in
    let t = table_bytes rows 0 0 words in
    let d = dictionary_bytes words in
    let p = postings_bytes rows words in
    let size : length bytes ≡ length ((((((h ++ r) ++ m) ++ t) ++ d) ++ p)) = ap length is.is in
    omega (arith, each_row 0 rows, is.short, size, length-append (((((h ++ r) ++ m) ++ t) ++ d)) p, length-append ((((h ++ r) ++ m) ++ t)) d, length-append (((h ++ r) ++ m)) t, length-append ((h ++ r)) m, length-append h r)

pub few : (rows : List DocRow) (words : List (List ℕ)) (bytes : List ℕ) → HaveImage rows words bytes → HasFewRows rows
few rows words bytes have = ∥∥₁_elim have (hlevel props) (λ is. whole_few rows words bytes is)

abbrev AreFew : List LayerValue → Type 0
AreFew layers = All (λ layer. HasFewRows layer.rows) layers

-- one layer more
pub few_more : (layers : List LayerValue) (i : ℕ) (layer : LayerValue) → i < length layers → layer ≡ get_or layers i layer → AreFew (take i layers) → HasFewRows layer.rows → AreFew (take (i + 1) layers)
few_more layers i layer low is all own =
    let P : LayerValue → Type 0 = λ l. HasFewRows l.rows in
    subst AreFew (sym (take_more layers i layer low ∙ ap (λ l. take i layers ++ l ∷ []) (sym is))) (All-append P (take i layers) (layer ∷ []) all (All-cons P layer [] own (All-nil P)))

pub few_all : (layers : List LayerValue) (i : ℕ) → length layers ≤ i → AreFew (take i layers) → AreFew layers
few_all layers i high all = subst AreFew (take_all i layers high) all
