-- Rows from what lends their documents.
use Rattle.std.proofs.Common.{◌≡◌, ℕ, List, [], ◌∷◌, refl, ap, arith, length, map, All}
use Rattle.std.proofs.lemmas.List.{length-map}
use Rattle.std.proofs.lemmas.List.Elements.{All-cons, All-head, All-tail}
use Rattle.doc_types.specs.declared.documents.Doc.{Doc}
use Rattle.doc_types.specs.declared.documents.DocRow.{DocRow}
use Rattle.doc_types.specs.declared.schema.Schema.{Schema}
use Rattle.doc_types.specs.Documents.{IsDocOf}
use Rattle.chunk_image.proofs.RowsPosted.{HasFields}
use Rattle.image_write.specs.Written.{row_of}
use Rattle.image_write.specs.steps.Places.{AreFew}
use Rattle.image_write.proofs.Meeting.{are_few}

-- rows are made of their parts
pub rows_are : (rows : List DocRow) → map (λ row. row_of row.doc row.born) rows ≡ rows
rows_are [] = refl
rows_are (r ∷ rs) = ap (λ l. r ∷ l) (rows_are rs)

module _ {X : Type 0} (lent : X → Doc) (born : X → ℕ) where
  abbrev row_at : X → DocRow
  row_at x = row_of (lent x) (born x)

  pub docs_are : (xs : List X) → map (λ (row : DocRow). row.doc) (map row_at xs) ≡ map lent xs
  docs_are [] = refl
  docs_are (x ∷ xs) = ap (λ l. lent x ∷ l) (docs_are xs)

  pub few_lent : (xs : List X) → All HasFields (map row_at xs) → All AreFew (map lent xs)
  few_lent [] has = λ k d h. absurd (omega (arith, h))
  few_lent (x ∷ xs) has =
      let own = All-head HasFields (row_at x) (map row_at xs) has in
      All-cons AreFew (lent x) (map lent xs) (are_few (lent x) own.few own.are) (few_lent xs (All-tail HasFields (row_at x) (map row_at xs) has))

  pub docs_lent : (schema : Schema) (xs : List X) → All (λ (row : DocRow). IsDocOf schema row.doc) (map row_at xs) → All (λ x. IsDocOf schema (lent x)) xs
  docs_lent schema [] all = λ k d h. absurd (omega (arith, h))
  docs_lent schema (x ∷ xs) all =
      All-cons (λ x. IsDocOf schema (lent x)) x xs (All-head (λ (row : DocRow). IsDocOf schema row.doc) (row_at x) (map row_at xs) all)
      (docs_lent schema xs (All-tail (λ (row : DocRow). IsDocOf schema row.doc) (row_at x) (map row_at xs) all))

  pub as_many : (xs : List X) → length (map row_at xs) ≡ length xs
  as_many xs = length-map xs row_at
