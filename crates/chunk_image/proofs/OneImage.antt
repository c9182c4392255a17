-- An image is of one list of rows.
use Rattle.std.proofs.Common.{◌≡◌, ℕ, ◌<◌, ◌≤◌, ◌^◌, List, [], ◌∷◌, ◌++◌, length, refl, sym, ap, subst, ◌∙◌, arith, map, All, zero, suc, append_assoc, append-nil, inl, inr}
use Rattle.std.specs.Int.{w16, w32, to_le_bytes}
use Rattle.std.specs.List.{AllZip}
use Rattle.std.proofs.lemmas.Bool.{cases_lt}
use Rattle.std.proofs.lemmas.List.Elements.{All-contains}
use Rattle.doc_types.specs.declared.documents.DocRow.{DocRow}
use Rattle.doc_types.specs.declared.schema.Schema.{Schema}
use Rattle.doc_types.specs.Documents.{AreRowsOf, AreSmall}
use Rattle.doc_types.specs.Schemas.{IsSchema}
use Rattle.doc_types.specs.Chunks.{AreWordsOf, rows_with}
use Rattle.chunk_image.specs.AlikeRows.{AreAlike, postings}
use Rattle.chunk_image.proofs.AllRows.{rows_told as told_by_answers}
use Rattle.chunk_image.specs.ChunkImage.{IsImageOf, image, magic, rows_bytes, marks_bytes, table_bytes, dictionary_bytes, postings_bytes}
use Rattle.chunk_image.proofs.Fixed.{four, four_any, parted, two}
use Rattle.chunk_image.proofs.MarksTold.{AreMarkedAlike, rows_told as marks_told}
use Rattle.chunk_image.proofs.RowsTold.{AreKeptAlike, rows_told}
use Rattle.chunk_image.proofs.WordsTold.{counts_told, few_rows, many, postings_told, words_told}
use Rattle.chunk_image.proofs.Orderly.{have_fields, have_order}

five : (r m t d p : List ℕ) → r ++ m ++ t ++ d ++ p ≡ r ++ (m ++ (t ++ (d ++ p)))
five r m t d p = append_assoc (r ++ m ++ t) d p ∙ append_assoc (r ++ m) t (d ++ p) ∙ append_assoc r m (t ++ (d ++ p))

none : {X : Type 0} (xs : List X) → length xs ≤ 0 → xs ≡ []
none [] few = refl
none (x ∷ xs) few = absurd (omega (arith, few))

-- the words of both lists of rows have the same entries, and so has each word
each_word : (rows other : List DocRow) (ws : List (List ℕ)) → AreWordsOf rows ws → AreWordsOf other ws → All (λ w. postings w 0 rows ≡ postings w 0 other) ws
    → (word : List ℕ) → postings word 0 rows ≡ postings word 0 other
each_word rows other ws are its same word =
    elim (cases_lt 0 (length (rows_with word rows))) [
      | inl some ↦ All-contains (λ w. postings w 0 rows ≡ postings w 0 other) ws word same (are.all word some)
      | inr few ↦ elim (cases_lt 0 (length (rows_with word other))) [
        | inl some ↦ All-contains (λ w. postings w 0 rows ≡ postings w 0 other) ws word same (its.all word some)
        | inr its_few ↦ none (postings word 0 rows) (omega (arith, many word rows, few)) ∙ sym (none (postings word 0 other) (omega (arith, many word other, its_few)))
      ]
    ]

alike : (rs ss : List DocRow) → AllZip AreKeptAlike rs ss → AllZip AreMarkedAlike rs ss → AllZip AreAlike rs ss
alike [] [] kept marked = tt
alike [] (s ∷ ss) kept marked = absurd kept
alike (r ∷ rs) [] kept marked = absurd kept
alike (r ∷ rs) (s ∷ ss) kept marked =
    (record { ids = kept.0.ids; born = kept.0.born; values = kept.0.values; gaps = marked.0.gaps; spans = marked.0.spans }, alike rs ss kept.1 marked.1)

as_long : (n : ℕ) (rs ss : List DocRow) → length rs ≡ length ss → All (λ r. length r.doc.fields ≡ n) rs → All (λ s. length s.doc.fields ≡ n) ss → AllZip (λ (r s : DocRow). length r.doc.fields ≡ length s.doc.fields) rs ss
as_long n [] [] long nr ns = tt
as_long n [] (s ∷ ss) long nr ns = absurd (omega (arith, long))
as_long n (r ∷ rs) [] long nr ns = absurd (omega (arith, long))
as_long n (r ∷ rs) (s ∷ ss) long nr ns =
    (nr zero r (omega arith) ∙ sym (ns zero s (omega arith)), as_long n rs ss (omega (arith, long)) (λ k d h. nr (suc k) d (omega (arith, h))) (λ k d h. ns (suc k) d (omega (arith, h))))

-- what both images have in their headers, and that they go on alike
pub record SameHeader (schema its : Schema) (rows other : List DocRow) (ws vs : List (List ℕ)) : Type 0 where
  pub rows_n : length rows ≡ length other
  pub fields_n : length schema.fields ≡ length its.fields
  pub attrs_n : length schema.attrs ≡ length its.attrs
  pub words_n : length ws ≡ length vs
  pub rest : rows_bytes 0 rows ++ (marks_bytes rows ++ (table_bytes rows 0 0 ws ++ (dictionary_bytes ws ++ postings_bytes rows ws)))
      ≡ rows_bytes 0 other ++ (marks_bytes other ++ (table_bytes other 0 0 vs ++ (dictionary_bytes vs ++ postings_bytes other vs)))

headers : (schema its : Schema) (rows other : List DocRow) (ws vs : List (List ℕ)) → IsSchema schema → IsSchema its → length rows < 2 ^ 32 → length other < 2 ^ 32 → length ws < 2 ^ 32 → length vs < 2 ^ 32
    → image schema rows ws ≡ image its other vs → SameHeader schema its rows other ws vs
headers schema its rows other ws vs limits its_limits few its_few few_words its_few_words e =
    let body = rows_bytes 0 rows ++ marks_bytes rows ++ table_bytes rows 0 0 ws ++ dictionary_bytes ws ++ postings_bytes rows ws in
    let its_body = rows_bytes 0 other ++ marks_bytes other ++ table_bytes other 0 0 vs ++ dictionary_bytes vs ++ postings_bytes other vs in
    let m = length (marks_bytes rows) in let d = length (dictionary_bytes ws) in let p = length (postings_bytes rows ws) in
    let im = length (marks_bytes other) in let id = length (dictionary_bytes vs) in let ip = length (postings_bytes other vs) in
    let lens = to_le_bytes w32 m ++ to_le_bytes w32 d ++ to_le_bytes w32 p ++ body in
    let its_lens = to_le_bytes w32 im ++ to_le_bytes w32 id ++ to_le_bytes w32 ip ++ its_body in
    let words = to_le_bytes w32 (length ws) ++ lens in let its_words = to_le_bytes w32 (length vs) ++ its_lens in
    let attrs = to_le_bytes w16 (length schema.attrs) ++ words in let its_attrs = to_le_bytes w16 (length its.attrs) ++ its_words in
    let fields = to_le_bytes w16 (length schema.fields) ++ attrs in let its_fields = to_le_bytes w16 (length its.fields) ++ its_attrs in
    let all = to_le_bytes w32 (length rows) ++ fields in let its_all = to_le_bytes w32 (length other) ++ its_fields in
    let behind = parted magic magic all its_all refl e in
    let rows_n = four (length rows) (length other) fields its_fields few its_few behind.1 in
    let fields_n = two (length schema.fields) (length its.fields) attrs its_attrs (omega (arith, limits.few_fields)) (omega (arith, its_limits.few_fields)) rows_n.1 in
    let attrs_n = two (length schema.attrs) (length its.attrs) words its_words (omega (arith, limits.few_attrs)) (omega (arith, its_limits.few_attrs)) fields_n.1 in
    let words_n = four (length ws) (length vs) lens its_lens few_words its_few_words attrs_n.1 in
    let after_marks = four_any m im (to_le_bytes w32 d ++ to_le_bytes w32 p ++ body) (to_le_bytes w32 id ++ to_le_bytes w32 ip ++ its_body) words_n.1 in
    let after_words = four_any d id (to_le_bytes w32 p ++ body) (to_le_bytes w32 ip ++ its_body) after_marks in
    let same : body ≡ its_body = four_any p ip body its_body after_words in
    record {
      rows_n = rows_n.0;
      fields_n = fields_n.0;
      attrs_n = attrs_n.0;
      words_n = words_n.0;
      rest = sym (five (rows_bytes 0 rows) (marks_bytes rows) (table_bytes rows 0 0 ws) (dictionary_bytes ws) (postings_bytes rows ws)) ∙ same
          ∙ five (rows_bytes 0 other) (marks_bytes other) (table_bytes other 0 0 vs) (dictionary_bytes vs) (postings_bytes other vs);
    }

pub one_image : (schema its : Schema) (rows other : List DocRow) (bytes : List ℕ) → IsSchema schema → IsSchema its → AreRowsOf schema rows → AreRowsOf its other → AreSmall rows → AreSmall other
    → IsImageOf schema rows bytes → IsImageOf its other bytes → rows ≡ other
one_image schema its rows other bytes limits its_limits are aro small its_small is isto =
    let ws = is.words in let vs = isto.words in
    let head = headers schema its rows other ws vs limits its_limits small.few_rows its_small.few_rows is.few_words isto.few_words (sym is.is ∙ isto.is) in
    let kept = rows_told 0 0 (length schema.attrs) rows other (marks_bytes rows ++ (table_bytes rows 0 0 ws ++ (dictionary_bytes ws ++ postings_bytes rows ws)))
    (marks_bytes other ++ (table_bytes other 0 0 vs ++ (dictionary_bytes vs ++ postings_bytes other vs)))
    head.rows_n (λ k d h. (are.docs k d h).values) (λ k d h. (aro.docs k d h).values ∙ sym head.attrs_n) is.room isto.room head.rest in
    let marked = marks_told rows other (table_bytes rows 0 0 ws ++ (dictionary_bytes ws ++ postings_bytes rows ws)) (table_bytes other 0 0 vs ++ (dictionary_bytes vs ++ postings_bytes other vs))
    (as_long (length schema.fields) rows other head.rows_n (λ k d h. (are.docs k d h).fields) (λ k d h. (aro.docs k d h).fields ∙ sym head.fields_n)) (have_order schema rows are) (have_order its other aro) kept.1 in
    let counts = counts_told rows other 0 0 0 0 ws vs (dictionary_bytes ws ++ postings_bytes rows ws) (dictionary_bytes vs ++ postings_bytes other vs) head.words_n
    (λ word. omega (arith, few_rows rows word, small.few_rows)) (λ word. omega (arith, few_rows other word, its_small.few_rows)) marked.1 in
    let words = words_told ws vs (postings_bytes rows ws) (postings_bytes other vs) head.words_n counts.1 in
    let same : ws ≡ vs = words.0 in
    let lists : postings_bytes rows ws ++ [] ≡ postings_bytes other ws ++ [] =
    append-nil (postings_bytes rows ws) ∙ words.1 ∙ ap (postings_bytes other) (sym same) ∙ sym (append-nil (postings_bytes other ws)) in
    let each = postings_told rows other ws [] [] (have_fields schema rows limits are) (have_fields its other its_limits aro)
    (counts.0 ∙ ap (map (λ w. length (rows_with w other))) (sym same)) lists in
    told_by_answers schema its rows other are aro (record {
      each = alike rows other kept.0 marked.0;
      words = each_word rows other ws is.are (subst (AreWordsOf other) (sym same) isto.are) each.0;
    })
