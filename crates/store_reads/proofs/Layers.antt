-- The rows that were read, by ascending id: they are a chunk's.
use Rattle.std.proofs.Common.{◌≡◌, ℕ, ◌<◌, ◌^◌, suc, List, [], ◌∷◌, cond, ◌==◌, Option, Some, None, refl, sym, ◌∙◌, ap, subst, arith, length, get_or, All, AllPairs}
use Rattle.std.specs.Prelude.{IfSome}
use Rattle.std.specs.BTreeMap.{BTreeMap, IsOrdered}
use Rattle.std.specs.List.{find, sum_by}
use Rattle.std.specs.Map.{keys_of, lookup, values_of}
use Rattle.std.specs.Ordering.{is_eq, nat_cmp}
use Rattle.std.proofs.lemmas.Cmp.{nat_cmp_total}
use Rattle.std.proofs.lemmas.List.Elements.{All-cons, All-head, All-nil, All-tail}
use Rattle.std.proofs.lemmas.List.Kept.{AllPairs-cons, AllPairs-from_increasing}
use Rattle.std.proofs.lemmas.Map.Keys.{IsStrictlyIncreasing-from_sorted}
use Rattle.std.proofs.lemmas.Map.Views.{All-found}
use Rattle.doc_types.specs.declared.documents.DocRow.{DocRow}
use Rattle.doc_types.specs.declared.schema.Schema.{Schema}
use Rattle.doc_types.specs.Chunks.{IsContent}
use Rattle.doc_types.specs.Documents.{AreRowsOf, IsDocOf, word_count}
use Rattle.doc_types.specs.Schemas.{IsSchema}
use Rattle.layer_commit.proofs.RowMaps.{flipped}
use Rattle.layer_commit.proofs.Tried.{same_test}
use Rattle.store_reads.specs.steps.Recents.{AreRowsAt, IsRowAt}

pub entries_at : (schema : Schema) (through : ℕ) (rows : BTreeMap ℕ DocRow) → IsOrdered nat_cmp rows → AreRowsAt schema through rows → All (λ e. IsRowAt schema through e.0 e.1) rows.entries
entries_at schema through rows ordered each = λ k d h.
    subst (λ (o : Option DocRow). IfSome o (IsRowAt schema through (get_or rows.entries k d).0)) (All-found nat_cmp_total rows ordered k d h) (each (get_or rows.entries k d).0)

docs_of : (schema : Schema) (through : ℕ) (es : List (ℕ × DocRow)) → All (λ e. IsRowAt schema through e.0 e.1) es → All (λ row. IsDocOf schema row.doc) (values_of es)
docs_of schema through [] are = All-nil (λ (row : DocRow). IsDocOf schema row.doc)
docs_of schema through (e ∷ es) are =
    All-cons (λ (row : DocRow). IsDocOf schema row.doc) e.1 (values_of es) (All-head (λ (e : ℕ × DocRow). IsRowAt schema through e.0 e.1) e es are).of (docs_of schema through es (All-tail (λ (e : ℕ × DocRow). IsRowAt schema through e.0 e.1) e es are))

values_above : (schema : Schema) (through n : ℕ) (es : List (ℕ × DocRow)) → All (λ e. IsRowAt schema through e.0 e.1) es → All (λ key. n < key) (keys_of es) → All (λ row. n < row.doc.id) (values_of es)
values_above schema through n [] are low = All-nil (λ (row : DocRow). n < row.doc.id)
values_above schema through n (e ∷ es) are low =
    All-cons (λ (row : DocRow). n < row.doc.id) e.1 (values_of es)
    (omega (arith, (All-head (λ (e : ℕ × DocRow). IsRowAt schema through e.0 e.1) e es are).id_is, All-head (λ key. n < key) e.0 (keys_of es) low))
    (values_above schema through n es (All-tail (λ (e : ℕ × DocRow). IsRowAt schema through e.0 e.1) e es are) (All-tail (λ key. n < key) e.0 (keys_of es) low))

values_up : (schema : Schema) (through : ℕ) (es : List (ℕ × DocRow)) → All (λ e. IsRowAt schema through e.0 e.1) es → AllPairs (λ id later. id < later) (keys_of es) → AllPairs (λ row later. row.doc.id < later.doc.id) (values_of es)
values_up schema through [] are up = λ i j d l h. absurd (omega (arith, h))
values_up schema through (e ∷ es) are up =
    let here : e.1.doc.id ≡ e.0 = (All-head (λ (e : ℕ × DocRow). IsRowAt schema through e.0 e.1) e es are).id_is in
    let rest = All-tail (λ (e : ℕ × DocRow). IsRowAt schema through e.0 e.1) e es are in
    AllPairs-cons (λ (row later : DocRow). row.doc.id < later.doc.id) e.1 (values_of es)
    (subst (λ n. All (λ (row : DocRow). n < row.doc.id) (values_of es)) (sym here) (values_above schema through e.0 es rest (λ k d h. up 0 (suc k) d (omega arith) (omega (arith, h)))))
    (values_up schema through es rest (λ i j d l h. up (suc i) (suc j) d (omega (arith, l)) (omega (arith, h))))

-- the rows are of the schema
pub rows_of_schema : (schema : Schema) (through : ℕ) (rows : BTreeMap ℕ DocRow) → IsOrdered nat_cmp rows → AreRowsAt schema through rows → AreRowsOf schema (values_of rows.entries)
rows_of_schema schema through rows ordered each =
    let are = entries_at schema through rows ordered each in
    record {
      ids = values_up schema through rows.entries are (AllPairs-from_increasing (keys_of rows.entries) (IsStrictlyIncreasing-from_sorted (keys_of rows.entries) ordered));
      docs = docs_of schema through rows.entries are;
    }

-- and small enough for a chunk
pub content_by : (schema : Schema) (through : ℕ) (rows : BTreeMap ℕ DocRow) (list : List DocRow) → IsSchema schema → AreRowsAt schema through rows → IsOrdered nat_cmp rows → list ≡ values_of rows.entries → length list < 2 ^ 32 → sum_by word_count list < 2 ^ 32 → IsContent list
content_by schema through rows list limits each ordered is few words = record {
  schema = schema;
  limits = limits;
  of = subst (λ (l : List DocRow). AreRowsOf schema l) (sym is) (rows_of_schema schema through rows ordered each);
  small = record { few_rows = few; few_words = words };
}

pub words_fit : (o : Option ℕ) (list : List DocRow) → (o ≡ None → ⊥) → IfSome o (λ words. (words ≡ sum_by word_count list) × (words < 2 ^ 32)) → sum_by word_count list < 2 ^ 32
words_fit None list some fits = absurd (some refl)
words_fit (Some words) list some fits = omega (arith, fits.0, fits.1)

pub values_found : (schema : Schema) (through id : ℕ) (es : List (ℕ × DocRow)) → All (λ e. IsRowAt schema through e.0 e.1) es → find (λ row. row.doc.id == id) (values_of es) ≡ lookup (λ k. is_eq (nat_cmp id k)) es
values_found schema through id [] are = refl
values_found schema through id (e ∷ es) are =
    let rest = values_found schema through id es (All-tail (λ (e : ℕ × DocRow). IsRowAt schema through e.0 e.1) e es are) in
    let tie : (e.1.doc.id == id) ≡ is_eq (nat_cmp id e.0) = ap (λ n. n == id) (All-head (λ (e : ℕ × DocRow). IsRowAt schema through e.0 e.1) e es are).id_is ∙ flipped e.0 id ∙ same_test id e.0 in
    ap (λ b. cond b (Some e.1) (find (λ (row : DocRow). row.doc.id == id) (values_of es))) tie
    ∙ ap (λ o. cond (is_eq (nat_cmp id e.0)) (Some e.1) o) rest
