-- What a keyword whose limits look at fields alone finds in a row, by the fields in which it has a place.
use Rattle.std.proofs.Common.{◌≡◌, ℕ, true, false, List, [], ◌∷◌, length, Option, Some, None, refl, sym, ap, subst, ◌∙◌}
use Rattle.std.specs.Prelude.{◌==◌, not}
use Rattle.std.proofs.lemmas.Bool.{eq-eqb, ne_eqb}
use Rattle.std.proofs.lemmas.List.Elements.{All-map}
use Rattle.doc_types.specs.declared.documents.DocRow.{DocRow}
use Rattle.doc_types.specs.declared.hits.Hit.{Hit}
use Rattle.query_tree.specs.declared.key.Key.{Key}
use Rattle.query_tree.specs.declared.query.Node.{Node}
use Rattle.query_tree.specs.declared.query.Query.{Query}
use Rattle.query_tree.specs.TreeKeys.{node_keys, query_keys}
use Rattle.query_tree.proofs.NodeKeys.{keys_word}
use Rattle.occ_lists.proofs.Members.{any_map}
use Rattle.word_rows.specs.Fields as fields_of
use Rattle.word_rows.specs.Keywords.{key_places}
use Rattle.word_rows.proofs.FieldBits.{no_field, no_place}
use Rattle.op_eval.specs.Fields.{AreFieldsOf, GoesByFields, IsFieldWord, is_field_word}
use Rattle.op_eval.specs.Finding.{Found, is_some, keyword, node_finds}
use Rattle.op_eval.proofs.Nodes.{finds_word}
use Rattle.op_eval.proofs.Standing.{filter_always}

some_places : (fields : ℕ) (places : List (ℕ × ℕ)) → fields_of.AreFieldsOf fields places → is_some places ≡ not (fields == 0)
some_places fields [] are = sym (ap not (eq-eqb fields 0 (no_field fields are)))
some_places fields (place ∷ places) are =
    sym (ap not (ne_eqb fields 0 (λ zero. absurd (let none = no_place (place ∷ places) (subst (λ n. fields_of.AreFieldsOf n (place ∷ places)) zero are) in let clash : true ≡ false = ap is_some none in cc))))

-- a keyword with these places
keyword_fields : (number : List ℕ → ℕ) (key : Key) (fields : ℕ) (places : List (ℕ × ℕ)) → fields_of.AreFieldsOf fields places → AreFieldsOf (keyword number key places) fields
keyword_fields number key fields places are = record {
  told = some_places fields places are;
  each = λ field. are field ∙ sym (any_map (λ (hit : Hit). hit.field == field) (λ (p : ℕ × ℕ). let hit : Hit = record { query = key.query; word = number key.word; field = p.0; position = p.1 } in hit) places);
  position = key.query;
  word = number key.word;
  one = All-map (λ (hit : Hit). (hit.query ≡ key.query) × (hit.word ≡ number key.word)) (λ (p : ℕ × ℕ). let hit : Hit = record { query = key.query; word = number key.word; field = p.0; position = p.1 } in hit) places
      (λ k d within. (refl, refl));
}

pub word_fields : (row : DocRow) (number : List ℕ → ℕ) (node : Node) (fields : ℕ) (is : IsFieldWord node) → fields_of.AreFieldsOf fields (key_places row is.key) → AreFieldsOf (node_finds row number node []) fields
word_fields row number node fields is are =
    subst (λ (n : Node). AreFieldsOf (node_finds row number n []) fields) (sym is.is)
    (subst (λ (found : Found). AreFieldsOf found fields) (sym (finds_word row number is.key [] ∙ ap (keyword number is.key) (filter_always (key_places row is.key))))
    (keyword_fields number is.key fields (key_places row is.key) are))

-- ---- its keywords

pub only_key : (node : Node) (is : IsFieldWord node) → node_keys node ≡ is.key ∷ []
only_key node is = ap node_keys is.is ∙ keys_word is.key

one_root : (root : Option Node) (keywords : ℕ) → is_field_word root → length (query_keys (record { root = root; keywords = keywords })) ≡ 1
one_root None keywords is = absurd is
one_root (Some node) keywords is = ap length (only_key node is)

pub one_keyword : (query : Query) → GoesByFields query → length (query_keys query) ≡ 1
one_keyword query is = one_root query.root query.keywords is

-- ---- a query and its tree

of_root : (root : Option Node) (tree : Node) → root ≡ Some tree → is_field_word root → IsFieldWord tree
of_root None tree same is = absurd is
of_root (Some node) tree same is = let it : node ≡ tree = cc in subst IsFieldWord it is

pub of_tree : (query : Query) (tree : Node) → query.root ≡ Some tree → GoesByFields query → IsFieldWord tree
of_tree query tree same is = of_root query.root tree same is

no_root : (root : Option Node) → root ≡ None → is_field_word root → ⊥
no_root None none is = is
no_root (Some node) none is = absurd (cc)

pub has_tree : (query : Query) → query.root ≡ None → GoesByFields query → ⊥
has_tree query none is = no_root query.root none is

to_root : (root : Option Node) (tree : Node) → root ≡ Some tree → IsFieldWord tree → is_field_word root
to_root None tree same is = absurd (cc)
to_root (Some node) tree same is = let it : tree ≡ node = cc in subst IsFieldWord it is

pub of_query : (query : Query) (tree : Node) → query.root ≡ Some tree → IsFieldWord tree → GoesByFields query
of_query query tree same is = to_root query.root tree same is
