-- What is read of a document: its values, one after the other.
use Rattle.std.proofs.Common.{◌≡◌, ℕ, ◌+◌, ◌≤◌, List, [], ◌∷◌, ◌++◌, Some, slice_get, length, take, get_or, sym, ap, ◌∙◌}
use Rattle.std.specs.Option.{option_and_then}
use Rattle.std.proofs.lemmas.List.{take_all, take_more}
use Rattle.std.proofs.lemmas.Option.{get_or_from_slice_get, slice_get_within}
use Rattle.doc_types.specs.declared.documents.DocRow.{DocRow}
use Rattle.doc_types.specs.declared.schema.Value.{Value}
use Rattle.doc_types.specs.Chunks.{value_at}

module _ (docs : List DocRow) (number : ℕ) (doc : DocRow) (here : slice_get docs number ≡ Some doc) where
  value_of : (attr : ℕ) → value_at docs number attr ≡ slice_get doc.doc.values attr
  value_of attr = ap (option_and_then (λ (found : DocRow). slice_get found.doc.values attr)) here

  -- the values up to one more
  pub values_more : (attr : ℕ) (value : Value) (list : List Value) → value_at docs number attr ≡ Some value → list ≡ take attr doc.doc.values → list ++ value ∷ [] ≡ take (attr + 1) doc.doc.values
  values_more attr value list told so =
      let its : slice_get doc.doc.values attr ≡ Some value = sym (value_of attr) ∙ told in
      let more : take (attr + 1) doc.doc.values ≡ take attr doc.doc.values ++ get_or doc.doc.values attr value ∷ [] = take_more doc.doc.values attr value (slice_get_within doc.doc.values attr value its) in
      ap (λ (values : List Value). values ++ value ∷ []) so
      ∙ ap (λ v. take attr doc.doc.values ++ v ∷ []) (sym (get_or_from_slice_get doc.doc.values attr value value its))
      ∙ sym more

  pub values_all : (attr : ℕ) (list : List Value) → length doc.doc.values ≤ attr → list ≡ take attr doc.doc.values → list ≡ doc.doc.values
  values_all attr list past so = so ∙ take_all attr doc.doc.values past
