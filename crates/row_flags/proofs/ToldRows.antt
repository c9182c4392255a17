-- What is told of rows by their flags and their keywords is what is known of them.
use Rattle.std.proofs.Common.{◌≡◌, ℕ, ◌+◌, ◌<◌, ◌≤◌, Bool, true, false, List, Some, length, get_or, map, min, slice_get, sym, ap, subst, ◌∙◌, zero-add, arith}
use Rattle.std.specs.Prelude.{All, Contains}
use Rattle.std.specs.Coded.{le_prop}
use Rattle.std.proofs.Math.Logic.{∥∥₁_elim}
use Rattle.std.proofs.lemmas.List.{get_or-map, length-map}
use Rattle.std.proofs.lemmas.List.Elements.{All-contains}
use Rattle.std.proofs.lemmas.Option.{get_or_from_slice_get, slice_get_within}
use Rattle.doc_types.specs.declared.documents.DocRow.{DocRow}
use Rattle.doc_types.specs.declared.hits.Hit.{Hit}
use Rattle.doc_types.specs.Chunks.{IsContent}
use Rattle.query_tree.specs.declared.key.Key.{Key}
use Rattle.query_tree.specs.declared.query.Node.{Node}
use Rattle.query_tree.specs.declared.query.Query.{Query}
use Rattle.query_tree.specs.TreeKeys.{node_keys, query_keys}
use Rattle.word_rows.specs.Keywords.{has_field, key_places, present_in}
use Rattle.word_rows.proofs.PlacedRows.{IsPlacedRow, at_one, placed_rows}
use Rattle.op_eval.specs.Fields.{AreFieldsOf, GoesByFields}
use Rattle.op_eval.specs.Hits.{AreHits}
use Rattle.op_eval.specs.Matching.{query_finds}
use Rattle.op_eval.specs.Numbered.{IsWordAt}
use Rattle.op_eval.specs.steps.Wanted.{is_wanted}
use Rattle.op_eval.proofs.KeywordHits.{hits_keyed}
use Rattle.op_eval.proofs.NextMatches.{tree_matches}
use Rattle.op_eval.proofs.NumberedHits.{words_stand}
use Rattle.row_flags.specs.declared.windows.Told.{Told}
use Rattle.row_flags.specs.Windows.{AreFieldsTold, AreTold, IsTold}
use Rattle.row_flags.specs.steps.Flags.{AreLivingFlags}
use Rattle.row_flags.specs.steps.Tallies.{AreTallied, first_told, tally_all}
use Rattle.row_flags.proofs.KeyTallies.{all_bits, all_found, all_kept, all_words, field_told, place_bit, place_word}
use Rattle.row_flags.proofs.ToldFields.{fields_told}

-- rows have few fields
few_fields : (rows : List DocRow) → ∥ IsContent rows ∥₁ → (number : ℕ) (row : DocRow) → slice_get rows number ≡ Some row → length row.doc.fields ≤ 32
few_fields rows content number row at =
    ∥∥₁_elim content (hlevel le_prop)
    (λ is.
    let doc = is.of.docs number row (slice_get_within rows number row at) in
    omega (arith, ap (λ (its : DocRow). length its.doc.fields) (get_or_from_slice_get rows number row row at), doc.fields, is.limits.few_fields))

module _ (query : Query) (row : DocRow) (few : length row.doc.fields ≤ 32) (found : Bool) where
  -- the field of a hit is told, where fields are asked for or not
  hit_told : (by_fields : Bool) (hit : Hit) (k : ℕ) (key : Key) → k < length (query_keys query) → get_or (query_keys query) k key ≡ key → Contains (key_places row key) (hit.field, hit.position) → has_field (tally_all by_fields row (query_keys query) (first_told by_fields found)).fields hit.field ≡ true
  hit_told true hit k key within at stands =
      field_told row (query_keys query) hit.field k key (first_told true found) within at (place_word row key (hit.field, hit.position) stands) (place_bit row key (hit.field, hit.position) stands)
  hit_told false hit k key within at stands =
      let word : IsWordAt row key.word (hit.field, hit.position) = All-contains (IsWordAt row key.word) (key_places row key) (hit.field, hit.position) (words_stand row key) stands in
      all_kept false row (query_keys query) hit.field (first_told false found) (all_bits hit.field (omega (arith, few, slice_get_within row.doc.fields hit.field word.tokens word.field)))

  hits_told : (by_fields : Bool) (hits : List Hit) → AreHits query row hits → All (λ hit. has_field (tally_all by_fields row (query_keys query) (first_told by_fields found)).fields hit.field ≡ true) hits
  hits_told by_fields hits are = λ i d within.
      let one = hits_keyed query row hits are i d within in
      hit_told by_fields (get_or hits i d) one.0 one.1 one.2 one.3 one.4.place

module _ (query : Query) (root : Node) (is : query.root ≡ Some root) (dead : List ℕ) (rows : List DocRow) (content : ∥ IsContent rows ∥₁) where
  tree_keys : node_keys root ≡ query_keys query
  tree_keys = sym (ap (λ tree. query_keys (record query { root = tree })) is)

  module _ (by_fields : Bool) (from : ℕ) (flags : List Bool) (told : List Told) (long : length told ≡ length flags) (tallied : AreTallied by_fields (node_keys root) rows from (map (first_told by_fields) flags) told) where
    -- what is told of a row is what its keywords tell
    its_tally : (i : ℕ) (row : DocRow) (its : Told) → slice_get rows (from + i) ≡ Some row → slice_get told i ≡ Some its → its ≡ tally_all by_fields row (node_keys root) (first_told by_fields (get_or flags i false))
    its_tally i row its here at =
        let low : i < length flags = omega (arith, slice_get_within told i its at, long) in
        sym (get_or_from_slice_get told i its its at)
        ∙ tallied i row its (omega (arith, low, length-map flags (first_told by_fields))) here
        ∙ ap (λ first. tally_all by_fields row (node_keys root) first) (get_or-map (first_told by_fields) flags i false its low)

    pub are_told : from + length flags ≤ length rows → AreLivingFlags root dead rows from flags → AreTold query dead rows from told
    are_told inside living = record {
      within = omega (arith, inside, long);
      each = λ i row its here at.
          let low : i < length flags = omega (arith, slice_get_within told i its at, long) in
          let found = get_or flags i false in
          let wanted : found ≡ is_wanted root dead (from + i, row) = living i row false low here in
          let now : its ≡ tally_all by_fields row (query_keys query) (first_told by_fields found) =
          its_tally i row its here at ∙ ap (λ keys. tally_all by_fields row keys (first_told by_fields found)) tree_keys in
          subst (λ its. IsTold query dead (from + i) row its) (sym now) (record {
            found = all_found by_fields row (query_keys query) (first_told by_fields found) ∙ wanted ∙ ap (λ passes. passes (from + i, row)) (tree_matches query root dead is);
            words = all_words by_fields row (query_keys query) (first_told by_fields found) (omega arith) ∙ ap (λ n. min n 65535) (zero-add (present_in row (query_keys query)));
            fields = hits_told query row (few_fields rows content (from + i) row here) found by_fields;
          });
    }

    pub are_exact : by_fields ≡ true → GoesByFields query → AreFieldsTold query rows from told
    are_exact asked goes i row its here at =
        let found = get_or flags i false in
        let now : its ≡ tally_all true row (node_keys root) (first_told true found) =
        its_tally i row its here at ∙ ap (λ b. tally_all b row (node_keys root) (first_told b found)) asked in
        subst (λ (its : Told). AreFieldsOf (query_finds query row) its.fields) (sym now) (fields_told row (at_one IsPlacedRow rows (placed_rows rows content) (from + i) row here) query root found is goes)
