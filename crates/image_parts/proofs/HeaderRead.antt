-- What the header of an image tells.
use Rattle.std.proofs.Common.{◌≡◌, ℕ, ◌+◌, ◌*◌, ◌≤◌, List, length, take, drop, refl, sym, ap, ◌∙◌, arith, All}
use Rattle.std.specs.Coded.{codes, le_prop}
use Rattle.std.specs.Int.{w16, w32, from_le_bytes}
use Rattle.std.proofs.Props.{props}
use Rattle.std.proofs.Math.Logic.{∥∥₁_elim}
use Rattle.std.proofs.lemmas.Nat.{from_le_bytes-to_le_bytes_2, from_le_bytes-to_le_bytes_4}
use Rattle.doc_types.specs.declared.documents.DocRow.{DocRow}
use Rattle.chunk_image.specs.ChunkImage.{dictionary_bytes, header_bytes, marks_bytes, postings_bytes, rows_bytes, table_bytes}
use Rattle.image_parts.specs.Images.{ArePartsOf, HaveImage, IsWhole}
use Rattle.image_parts.proofs.Split.{rows_size, table_size}
use Rattle.image_parts.proofs.Laid.{whole_length}

-- the number of 4 bytes at a place, and of 2
abbrev pub four_at : List ℕ → ℕ → ℕ
four_at bytes at = from_le_bytes w32 (take 4 (drop at bytes))

abbrev pub two_at : List ℕ → ℕ → ℕ
two_at bytes at = from_le_bytes w16 (take 2 (drop at bytes))

pub record IsHeader (rows : List DocRow) (words : List (List ℕ)) (bytes : List ℕ) : Type 0 where
  pub rows_n : four_at bytes 8 ≡ length rows
  pub fields_n : All (λ row. length row.doc.fields ≡ two_at bytes 12) rows
  pub row_size : All (λ row. 20 + 8 * length row.doc.values ≡ 20 + 8 * two_at bytes 14) rows
  pub words_n : four_at bytes 16 ≡ length words
  pub marks_n : four_at bytes 20 ≡ length (marks_bytes rows)
  pub dictionary_n : four_at bytes 24 ≡ length (dictionary_bytes words)
  pub sizes : length bytes ≡ 32 + length rows * (20 + 8 * two_at bytes 14) + length (marks_bytes rows) + 12 * length words + length (dictionary_bytes words) + length (postings_bytes rows words)
  pub short : length bytes ≤ 536870912

header_of : (rows : List DocRow) (words : List (List ℕ)) (bytes : List ℕ) → IsWhole rows words bytes → IsHeader rows words bytes
header_of rows words bytes is =
    let h = header_bytes is.schema rows words in
    let r = rows_bytes 0 rows in let m = marks_bytes rows in let t = table_bytes rows 0 0 words in
    let d = dictionary_bytes words in let p = postings_bytes rows words in
    let fields : two_at bytes 12 ≡ length is.schema.fields = ap (λ b. two_at b 12) is.is ∙ from_le_bytes-to_le_bytes_2 (length is.schema.fields) (omega (arith, is.limits.few_fields)) in
    let attrs : two_at bytes 14 ≡ length is.schema.attrs = ap (λ b. two_at b 14) is.is ∙ from_le_bytes-to_le_bytes_2 (length is.schema.attrs) (omega (arith, is.limits.few_attrs)) in
    let size : All (λ (row : DocRow). 20 + 8 * length row.doc.values ≡ 20 + 8 * two_at bytes 14) rows = λ k e low. omega (arith, attrs, (is.of.docs k e low).values) in
    let long : length bytes ≡ 32 + length r + length m + length t + length d + length p = whole_length bytes h r m t d p is.is refl in
    record {
      rows_n = ap (λ b. four_at b 8) is.is ∙ from_le_bytes-to_le_bytes_4 (length rows) is.small.few_rows;
      fields_n = λ k e low. (is.of.docs k e low).fields ∙ sym fields;
      row_size = size;
      words_n = ap (λ b. four_at b 16) is.is ∙ from_le_bytes-to_le_bytes_4 (length words) is.few_words;
      marks_n = ap (λ b. four_at b 20) is.is ∙ from_le_bytes-to_le_bytes_4 (length m) (omega (arith, long, is.short));
      dictionary_n = ap (λ b. four_at b 24) is.is ∙ from_le_bytes-to_le_bytes_4 (length d) (omega (arith, long, is.short));
      sizes = omega (arith, long, rows_size 0 (20 + 8 * two_at bytes 14) rows size, table_size rows 0 0 words);
      short = is.short;
    }

pub header : (rows : List DocRow) (words : List (List ℕ)) (bytes : List ℕ) → HaveImage rows words bytes → IsHeader rows words bytes
header rows words bytes have = ∥∥₁_elim have (hlevel (codes, le_prop, props)) (header_of rows words bytes)

pub record HeaderFits (bytes : List ℕ) : Type 0 where
  pub long : 32 ≤ length bytes
  pub sizes : 32 + four_at bytes 8 * (20 + 8 * two_at bytes 14) + four_at bytes 20 + 12 * four_at bytes 16 + four_at bytes 24 ≤ length bytes
  pub short : length bytes ≤ 536870912

pub header_fits : (rows : List DocRow) (words : List (List ℕ)) (bytes : List ℕ) → HaveImage rows words bytes → HeaderFits bytes
header_fits rows words bytes have =
    let h = header rows words bytes have in
    let rows_part : four_at bytes 8 * (20 + 8 * two_at bytes 14) ≡ length rows * (20 + 8 * two_at bytes 14) = ap (λ n. n * (20 + 8 * two_at bytes 14)) h.rows_n in
    record { long = omega (arith, h.sizes); sizes = omega (arith, h.sizes, rows_part, h.marks_n, h.words_n, h.dictionary_n); short = h.short }

-- the numbers that were read
module _ (bytes : List ℕ) (r a m : ℕ) (rows_is : r ≡ four_at bytes 8) (attrs_is : a ≡ two_at bytes 14) (marks_is : m ≡ four_at bytes 20) where
  product : r * (20 + 8 * a) ≡ four_at bytes 8 * (20 + 8 * two_at bytes 14)
  product = ap (λ n. n * (20 + 8 * a)) rows_is ∙ ap (λ n. four_at bytes 8 * (20 + 8 * n)) attrs_is

  pub table_small : HeaderFits bytes → 32 + r * (20 + 8 * a) + m ≤ 536870912
  table_small h = omega (arith, h.sizes, h.short, product, marks_is)

  pub all_small : (w d : ℕ) → w ≡ four_at bytes 16 → d ≡ four_at bytes 24 → HeaderFits bytes → 32 + r * (20 + 8 * a) + m + w * 12 + d ≤ 536870912
  all_small w d words_is dictionary_is h = omega (arith, h.sizes, h.short, product, marks_is, words_is, dictionary_is)

  pub parts_are : (rows : List DocRow) (words : List (List ℕ)) (f w d : ℕ) → HaveImage rows words bytes → f ≡ two_at bytes 12 → w ≡ four_at bytes 16 → d ≡ four_at bytes 24
      → ArePartsOf rows words (record {
        rows = r;
        fields = f;
        words = w;
        stride = 20 + 8 * a;
        marks = 32 + r * (20 + 8 * a);
        table = 32 + r * (20 + 8 * a) + m;
        dictionary = 32 + r * (20 + 8 * a) + m + w * 12;
        postings = 32 + r * (20 + 8 * a) + m + w * 12 + d;
      })
  parts_are rows words f w d have fields_is words_is dictionary_is =
      let h = header rows words bytes have in
      let size : All (λ (row : DocRow). 20 + 8 * length row.doc.values ≡ 20 + 8 * a) rows = λ k e low. omega (arith, h.row_size k e low, attrs_is) in
      let count : r ≡ length rows = rows_is ∙ h.rows_n in
      record {
        rows_n = count;
        fields_n = λ k e low. h.fields_n k e low ∙ sym fields_is;
        words_n = words_is ∙ h.words_n;
        row_size = size;
        marks_at = ap (λ n. 32 + n) (ap (λ n. n * (20 + 8 * a)) count ∙ sym (rows_size 0 (20 + 8 * a) rows size));
        table_at = ap (λ n. 32 + r * (20 + 8 * a) + n) (marks_is ∙ h.marks_n);
        dictionary_at = omega (arith, words_is, h.words_n);
        postings_at = ap (λ n. 32 + r * (20 + 8 * a) + m + w * 12 + n) (dictionary_is ∙ h.dictionary_n);
      }
