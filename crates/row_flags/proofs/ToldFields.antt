-- The fields that are told of a row are those that have a hit, where the query is one keyword that goes by its fields.
use Rattle.std.proofs.Common.{◌≡◌, Bool, true, false, cond, ◌||◌, List, Some, refl, sym, ap, subst, ◌∙◌}
use Rattle.std.specs.Prelude.{◌==◌}
use Rattle.std.proofs.lemmas.Nat.Bits.{bit_at-zero}
use Rattle.doc_types.specs.declared.documents.DocRow.{DocRow}
use Rattle.doc_types.specs.Chunks.{has_word}
use Rattle.query_tree.specs.declared.key.Key.{Key}
use Rattle.query_tree.specs.declared.query.Node.{Node}
use Rattle.query_tree.specs.declared.query.Query.{Query}
use Rattle.query_tree.specs.TreeKeys.{node_keys}
use Rattle.word_rows.specs.Fields as fields_of
use Rattle.word_rows.specs.Fields.{LooksAtFields}
use Rattle.word_rows.specs.Keywords.{has_field, key_places}
use Rattle.word_rows.proofs.FieldBits.{absent_fields, key_fields}
use Rattle.word_rows.proofs.PlacedRows.{IsPlacedRow}
use Rattle.op_eval.specs.Fields.{AreFieldsOf, GoesByFields, IsFieldWord}
use Rattle.op_eval.specs.Finding.{Found}
use Rattle.op_eval.specs.Matching.{query_finds}
use Rattle.word_rows.specs.Slots.{number_among}
use Rattle.op_eval.proofs.ByFields.{of_tree, only_key, word_fields}
use Rattle.op_eval.proofs.NextMatches.{tree_finds}
use Rattle.row_flags.specs.declared.windows.Told.{Told}
use Rattle.row_flags.specs.steps.Tallies.{fields_for, first_told, tally_all, with_word}
use Rattle.row_flags.proofs.KeyTallies.{bits_either}

module _ (row : DocRow) (placed : IsPlacedRow row) where
  -- one keyword was looked for, and no field was told before
  one_told : (key : Key) (told : Told) (b : Bool) → LooksAtFields key → told.fields ≡ 0 → has_word key.word row ≡ b → fields_of.AreFieldsOf (cond b (with_word (fields_for true key row) told) told).fields (key_places row key)
  one_told key told true looks none has field =
      bits_either told.fields (fields_for true key row) field
      ∙ ap (λ n. has_field n field || has_field (fields_for true key row) field) none
      ∙ ap (λ n. (n == 1) || has_field (fields_for true key row) field) (bit_at-zero field)
      ∙ key_fields row key looks placed field
  one_told key told false looks none has field = ap (λ n. has_field n field) none ∙ absent_fields row key has field

  pub fields_told : (query : Query) (root : Node) (found : Bool) → query.root ≡ Some root → GoesByFields query → AreFieldsOf (query_finds query row) (tally_all true row (node_keys root) (first_told true found)).fields
  fields_told query root found is goes =
      let word : IsFieldWord root = of_tree query root is goes in
      let key : Key = word.key in
      let first = first_told true found in
      let its : fields_of.AreFieldsOf (tally_all true row (node_keys root) first).fields (key_places row key) =
      subst (λ (keys : List Key). fields_of.AreFieldsOf (tally_all true row keys first).fields (key_places row key)) (sym (only_key root word))
      (one_told key first (has_word key.word row) word.looks refl refl) in
      subst (λ (finds : DocRow → Found). AreFieldsOf (finds row) (tally_all true row (node_keys root) first).fields) (tree_finds query root is)
      (word_fields row (number_among (node_keys root)) root (tally_all true row (node_keys root) first).fields word its)
