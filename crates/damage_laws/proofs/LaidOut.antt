-- What the header of an image says, and that its parts are those of its rows and words.
use Rattle.std.proofs.Common.{◌≡◌, ℕ, zero, suc, ◌+◌, ◌*◌, ◌<◌, ◌≤◌, ◌^◌, List, [], ◌∷◌, ◌++◌, length, take, drop, refl, sym, ap, ◌∙◌, arith, append_assoc, length-append}
use Rattle.std.specs.Int.{w32, from_le_bytes, to_le_bytes}
use Rattle.std.proofs.lemmas.List.{drop-drop, drop_at, take_at}
use Rattle.std.proofs.lemmas.Nat.{from_le_bytes-to_le_bytes_2, from_le_bytes-to_le_bytes_4}
use Rattle.doc_types.specs.declared.documents.DocRow.{DocRow}
use Rattle.doc_types.specs.declared.schema.Schema.{Schema}
use Rattle.doc_types.specs.Documents.{AreRowsOf}
use Rattle.doc_types.specs.Schemas.{IsSchema}
use Rattle.chunk_image.specs.ChunkImage.{IsImageOf, dictionary_bytes, header_bytes, marks_bytes, postings_bytes, rows_bytes, table_bytes}
use Rattle.image_parts.proofs.Split.{rows_size, table_size}
use Rattle.chunk_damage.specs.Header.{HasMagic, HasSizes, dictionary_at, dictionary_part, four_in, marks_at, marks_part, postings_at, postings_part, row_size, rows_in, table_at, table_part, two_in, words_in}

five : (h r m t d p : List ℕ) → h ++ r ++ m ++ t ++ d ++ p ≡ h ++ (r ++ (m ++ (t ++ (d ++ p))))
five h r m t d p = append_assoc (h ++ r ++ m ++ t) d p ∙ append_assoc (h ++ r ++ m) t (d ++ p) ∙ append_assoc (h ++ r) m (t ++ (d ++ p)) ∙ append_assoc h r (m ++ (t ++ (d ++ p)))

-- what lies behind a piece
pub past : (bytes piece rest : List ℕ) (at to : ℕ) → drop at bytes ≡ piece ++ rest → to ≡ at + length piece → drop to bytes ≡ rest
past bytes piece rest at to here e = ap (λ n. drop n bytes) e ∙ sym (drop-drop (length piece) at bytes) ∙ ap (drop (length piece)) here ∙ drop_at piece rest (length piece) refl

-- a number of 4 bytes that stands at a place
pub four_here : (bytes rest : List ℕ) (at n : ℕ) → drop at bytes ≡ to_le_bytes w32 n ++ rest → n < 2 ^ 32 → four_in bytes at ≡ n
four_here bytes rest at n here low = ap (λ l. from_le_bytes w32 (take 4 l)) here ∙ ap (from_le_bytes w32) (take_at (to_le_bytes w32 n) rest 4 refl) ∙ from_le_bytes-to_le_bytes_4 n low

-- an image by its parts
pub record IsLaidOut (schema : Schema) (rows : List DocRow) (words : List (List ℕ)) (bytes : List ℕ) : Type 0 where
  pub magic_is : HasMagic bytes
  pub sizes : HasSizes schema bytes
  pub few_rows : length rows < 2 ^ 32
  pub rows_n : rows_in bytes ≡ length rows
  pub words_n : words_in bytes ≡ length words
  pub short : 32 + length rows * row_size schema + length (marks_bytes rows) + 12 * length words + length (dictionary_bytes words) + length (postings_bytes rows words) < 2 ^ 32
  pub rows_at : drop 32 bytes ≡ rows_bytes 0 rows ++ (marks_bytes rows ++ (table_bytes rows 0 0 words ++ (dictionary_bytes words ++ postings_bytes rows words)))
  pub marks : marks_part schema bytes ≡ marks_bytes rows
  pub table : table_part schema bytes ≡ table_bytes rows 0 0 words
  pub dictionary : dictionary_part schema bytes ≡ dictionary_bytes words
  pub postings : postings_part schema bytes ≡ postings_bytes rows words

no_marks : (rows : List DocRow) → length rows ≡ 0 → length (marks_bytes rows) ≡ 0
no_marks [] none = refl
no_marks (r ∷ rs) none = absurd (omega (arith, none))

no_words : (rows : List DocRow) (words : List (List ℕ)) → length words ≡ 0 → (length (dictionary_bytes words) ≡ 0) × (length (postings_bytes rows words) ≡ 0)
no_words rows [] none = (refl, refl)
no_words rows (w ∷ ws) none = absurd (omega (arith, none))

pub laid_out : (schema : Schema) (rows : List DocRow) (bytes : List ℕ) → IsSchema schema → AreRowsOf schema rows → (is : IsImageOf schema rows bytes) → length bytes < 2 ^ 32 → IsLaidOut schema rows is.words bytes
laid_out schema rows bytes limits are is low =
    let words : List (List ℕ) = is.words in
    let h : List ℕ = header_bytes schema rows words in
    let r : List ℕ = rows_bytes 0 rows in let m : List ℕ = marks_bytes rows in let t : List ℕ = table_bytes rows 0 0 words in
    let d : List ℕ = dictionary_bytes words in let p : List ℕ = postings_bytes rows words in
    let whole : bytes ≡ h ++ (r ++ (m ++ (t ++ (d ++ p)))) = is.is ∙ five h r m t d p in
    let rows_long : length r ≡ length rows * row_size schema = rows_size 0 (row_size schema) rows (λ k e within. ap (λ n. 20 + 8 * n) (are.docs k e within).values) in
    let table_long : length t ≡ 12 * length words = table_size rows 0 0 words in
    let long : length bytes ≡ 32 + length r + length m + length t + length d + length p =
    omega (arith, ap length whole, length-append h (r ++ (m ++ (t ++ (d ++ p)))), length-append r (m ++ (t ++ (d ++ p))), length-append m (t ++ (d ++ p)), length-append t (d ++ p), length-append d p) in
    let few : length rows < 2 ^ 32 = omega (arith, long, rows_long, few_by (length rows) (length schema.attrs), low) in
    let rows_n : rows_in bytes ≡ length rows = ap (λ b. four_in b 8) is.is ∙ from_le_bytes-to_le_bytes_4 (length rows) few in
    let words_n : words_in bytes ≡ length words = ap (λ b. four_in b 16) is.is ∙ from_le_bytes-to_le_bytes_4 (length words) is.few_words in
    let fields_n : two_in bytes 12 ≡ length schema.fields = ap (λ b. two_in b 12) is.is ∙ from_le_bytes-to_le_bytes_2 (length schema.fields) (omega (arith, limits.few_fields)) in
    let attrs_n : two_in bytes 14 ≡ length schema.attrs = ap (λ b. two_in b 14) is.is ∙ from_le_bytes-to_le_bytes_2 (length schema.attrs) (omega (arith, limits.few_attrs)) in
    let marks_n : four_in bytes 20 ≡ length m = ap (λ b. four_in b 20) is.is ∙ from_le_bytes-to_le_bytes_4 (length m) (omega (arith, long, low)) in
    let dictionary_n : four_in bytes 24 ≡ length d = ap (λ b. four_in b 24) is.is ∙ from_le_bytes-to_le_bytes_4 (length d) (omega (arith, long, low)) in
    let postings_n : four_in bytes 28 ≡ length p = ap (λ b. four_in b 28) is.is ∙ from_le_bytes-to_le_bytes_4 (length p) (omega (arith, long, low)) in
    let rows_here : drop 32 bytes ≡ r ++ (m ++ (t ++ (d ++ p))) = past bytes h (r ++ (m ++ (t ++ (d ++ p)))) 0 32 whole refl in
    let stride : rows_in bytes * row_size schema ≡ length rows * row_size schema = ap (λ n. n * row_size schema) rows_n in
    let marks_here : drop (marks_at schema bytes) bytes ≡ m ++ (t ++ (d ++ p)) = past bytes r (m ++ (t ++ (d ++ p))) 32 (marks_at schema bytes) rows_here (omega (arith, stride, rows_long)) in
    let table_here : drop (table_at schema bytes) bytes ≡ t ++ (d ++ p) = past bytes m (t ++ (d ++ p)) (marks_at schema bytes) (table_at schema bytes) marks_here (omega (arith, marks_n)) in
    let dictionary_here : drop (dictionary_at schema bytes) bytes ≡ d ++ p = past bytes t (d ++ p) (table_at schema bytes) (dictionary_at schema bytes) table_here (omega (arith, words_n, table_long)) in
    record {
      magic_is = ap (take 8) is.is;
      sizes = record {
        long = omega (arith, long);
        fields = fields_n;
        attrs = attrs_n;
        sum = omega (arith, long, stride, rows_long, marks_n, words_n, table_long, dictionary_n, postings_n);
        no_rows = λ none. marks_n ∙ no_marks rows (sym rows_n ∙ none);
        no_words = λ none. let its = no_words rows words (sym words_n ∙ none) in (dictionary_n ∙ its.0, postings_n ∙ its.1);
      };
      few_rows = few;
      rows_n = rows_n;
      words_n = words_n;
      short = omega (arith, long, rows_long, table_long, low);
      rows_at = rows_here;
      marks = ap (λ l. take (four_in bytes 20) l) marks_here ∙ take_at m (t ++ (d ++ p)) (four_in bytes 20) (sym marks_n);
      table = ap (λ l. take (12 * words_in bytes) l) table_here ∙ take_at t (d ++ p) (12 * words_in bytes) (omega (arith, words_n, table_long));
      dictionary = ap (λ l. take (four_in bytes 24) l) dictionary_here ∙ take_at d p (four_in bytes 24) (sym dictionary_n);
      postings = past bytes d p (dictionary_at schema bytes) (postings_at schema bytes) dictionary_here (omega (arith, dictionary_n));
    }
  where
    few_by : (n attrs : ℕ) → n ≤ n * (20 + 8 * attrs)
    few_by zero attrs = omega arith
    few_by (suc n) attrs = omega (arith, few_by n attrs)
