-- The ends of sentences and paragraphs of a row, as they are read, and in order.
use Rattle.std.proofs.Common.{◌≡◌, ℕ, ◌-◌, ◌<◌, ◌≤◌, Bool, true, List, [], get_or, Some, slice_get, ap, ◌∙◌, arith}
use Rattle.std.specs.Prelude.{AllPairs}
use Rattle.std.specs.List.{filter}
use Rattle.std.specs.Option.{option_map_or}
use Rattle.std.proofs.lemmas.List.Kept.{AllPairs-filter}
use Rattle.doc_types.specs.declared.documents.DocRow.{DocRow}
use Rattle.doc_types.specs.declared.tokens.FieldTokens.{FieldTokens}
use Rattle.doc_types.specs.declared.tokens.Gap.{Gap}
use Rattle.doc_types.specs.declared.tokens.TokenWord.{TokenWord}
use Rattle.doc_types.specs.Chunks.{by_field, gaps_of, is_boundary}
use Rattle.doc_types.proofs.FieldParts.{parts}
use Rattle.occ_lists.specs.Places.{ArePlaces, is_before}
use Rattle.word_rows.specs.Keywords.{is_paragraph, sentence_ends, paragraph_ends}
use Rattle.word_rows.specs.steps.Loading.{ends_in, paragraphs_in}
use Rattle.word_rows.proofs.Lists.{pairs_map}
use Rattle.word_rows.proofs.PlacedRows.{IsPlacedField, IsPlacedRow, pairs_parts}

abbrev End : Type 0
End = ℕ × (ℕ × Gap)

abbrev end_of : End → ℕ × ℕ
end_of e = (e.0, e.1.0)

abbrev ends_paragraph : End → Bool
ends_paragraph e = is_paragraph e.1.1

-- what `gaps` gives
pub gaps_read : (rows : List DocRow) (row : ℕ) (found : DocRow) → slice_get rows row ≡ Some found → (gaps : List End) → gaps ≡ option_map_or (by_field gaps_of) (slice_get rows row) [] → (ends_in gaps ≡ sentence_ends found) × (paragraphs_in gaps ≡ paragraph_ends found)
gaps_read rows row found here gaps read =
    let its : gaps ≡ by_field gaps_of found = read ∙ ap (λ o. option_map_or (by_field gaps_of) o []) here in
    (ap ends_in its, ap paragraphs_in its)

-- ---- in order
above_zero : (a b : ℕ) → 1 ≤ a → a < b → a - 1 < b - 1
above_zero a b some less = omega arith

module _ (tokens : FieldTokens) (placed : IsPlacedField tokens) where
  gaps_ascend : AllPairs (λ a b. a.0 < b.0) (gaps_of tokens)
  gaps_ascend =
      pairs_map (λ (a b : ℕ × Gap). a.0 < b.0) (λ (token : TokenWord). (token.position - 1, token.gap)) (filter (λ token. is_boundary token.gap) tokens.words)
      (AllPairs-filter (λ (a b : TokenWord). a.position - 1 < b.position - 1) (λ token. is_boundary token.gap) tokens.words
      (λ i j d order within. above_zero _ _ (placed.bounds i d (omega arith)).0 (placed.ascend i j d order within)))

module _ (row : DocRow) (placed : IsPlacedRow row) where
  abbrev Before : End → End → Type 0
  Before a b = is_before (end_of a) (end_of b) ≡ true

  all_ascend : AllPairs Before (parts 0 gaps_of row.doc.fields)
  all_ascend = pairs_parts (λ gap. gap.0) gaps_of row.doc.fields 0 (λ k d within. gaps_ascend (get_or row.doc.fields k d) (placed k d within))

  pub sentences_ascend : ArePlaces (sentence_ends row)
  sentences_ascend = pairs_map (λ a b. is_before a b ≡ true) end_of (parts 0 gaps_of row.doc.fields) all_ascend

  pub paragraphs_ascend : ArePlaces (paragraph_ends row)
  paragraphs_ascend = pairs_map (λ a b. is_before a b ≡ true) end_of (filter ends_paragraph (parts 0 gaps_of row.doc.fields)) (AllPairs-filter Before ends_paragraph (parts 0 gaps_of row.doc.fields) all_ascend)
