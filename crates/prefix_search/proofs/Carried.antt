-- What a search finds by the query that is asked in the place of another one is what it finds by that one.
use Rattle.std.proofs.Common.{◌≡◌, ◌≢◌, ◌≤◌, ℕ, zero, suc, ◌+◌, Bool, true, false, cond, List, [], ◌∷◌, Option, Some, None, length, map, get_or, refl, sym, ap, subst, ◌∙◌, arith, All, Contains}
use Rattle.std.specs.Prelude.{is_some, not, unwrap_or}
use Rattle.std.specs.List.{AllZip, enumerate_from, filter, position}
use Rattle.std.specs.Str.{bytes_eq}
use Rattle.std.proofs.lemmas.List.Elements.{All-cons, All-contains, All-filter, All-head, All-map, All-nil, All-tail, All-weaker}
use Rattle.doc_types.specs.declared.documents.DocRow.{DocRow}
use Rattle.doc_types.specs.declared.hits.Hit.{Hit}
use Rattle.doc_types.specs.declared.schema.Schema.{Schema}
use Rattle.doc_types.specs.declared.tokens.FieldTokens.{FieldTokens}
use Rattle.doc_types.specs.declared.tokens.TokenWord.{TokenWord}
use Rattle.doc_types.specs.Documents.{AreRowsOf, IsDocOf, IsField}
use Rattle.doc_types.specs.Snapshots.{LayerValue, all_living, is_dead, living}
use Rattle.query_tree.specs.declared.key.Key.{Key}
use Rattle.query_tree.specs.declared.query.Query.{Query}
use Rattle.query_tree.specs.TreeKeys.{query_keys}
use Rattle.word_rows.specs.Keywords.{first_uses}
use Rattle.word_rows.proofs.Lists.{all_flat_map}
use Rattle.op_eval.specs.Finding.{Found}
use Rattle.op_eval.specs.Matching.{finds, matches, number_in, query_finds}
use Rattle.op_eval.specs.Numbered.{IsNumbered}
use Rattle.prefix_terms.specs.Prefixes.{AreExpanded, IsQueryFor, Lists}
use Rattle.prefix_finds.specs.Numbers.{number_with, query_asked}
use Rattle.prefix_finds.specs.Same.{IsSame}
use Rattle.prefix_finds.specs.Taken.{query_takes, words_in}
use Rattle.prefix_finds.proofs.AskedKeys.{keys_are_asked}
use Rattle.prefix_finds.proofs.Positions.{are_apart, positions_kept}
use Rattle.prefix_finds.proofs.Trees.{find_the_same}
use Rattle.row_select.specs.Columns.{row_of}
use Rattle.row_select.specs.declared.row.Row.{Row}
use Rattle.doc_search.specs.Rankings.{weigh}
use Rattle.doc_search.specs.Searches as plain
use Rattle.doc_search.specs.Searches.{IsAskedOf, passes, weight_of}
use Rattle.doc_search.specs.declared.question.Question.{Question}
use Rattle.doc_search.proofs.Members.{in_filter}
use Rattle.prefix_search.specs.Searches.{AreFound, AreHitsOf, IsFirstLacking, IsReadOf, IsRowBy, LacksWeightBy, finding, fits}
use Rattle.prefix_search.specs.Asking.{IsAskedFor}

-- ---- documents of a schema have no empty word

abbrev HasWords : DocRow → Type 0
HasWords doc = All (λ word. word ≢ []) (words_in doc)

field_words : (field : FieldTokens) → IsField field → All (λ word. word ≢ []) (map (λ (token : TokenWord). token.word) field.words)
field_words field is = All-map (λ word. word ≢ []) (λ (token : TokenWord). token.word) field.words (λ k d low none. no_word (get_or field.words k d) (is.words k d low).some none)
  where
    no_word : (token : TokenWord) → 1 ≤ length token.word → token.word ≡ [] → ⊥
    no_word token some none = let size = ap (λ (word : List ℕ). length word) none in omega (arith, some, size)

doc_words : (schema : Schema) (doc : DocRow) → IsDocOf schema doc.doc → HasWords doc
doc_words schema doc is =
    all_flat_map (λ word. word ≢ []) (λ (field : FieldTokens). map (λ (token : TokenWord). token.word) field.words) doc.doc.fields
    (All-weaker IsField (λ field. All (λ word. word ≢ []) (map (λ (token : TokenWord). token.word) field.words)) field_words doc.doc.fields is.tokens)

rows_words : (schema : Schema) (docs : List DocRow) → All (λ doc. IsDocOf schema doc.doc) docs → All HasWords docs
rows_words schema docs are = All-weaker (λ (doc : DocRow). IsDocOf schema doc.doc) HasWords (doc_words schema) docs are

pub living_words : (schema : Schema) (layers : List LayerValue) → All (λ layer. AreRowsOf schema layer.rows) layers → All HasWords (all_living layers)
living_words schema layers rows =
    rows_words schema (all_living layers)
    (all_flat_map (λ (doc : DocRow). IsDocOf schema doc.doc) living layers
    (All-weaker (λ (layer : LayerValue). AreRowsOf schema layer.rows) (λ layer. All (λ (doc : DocRow). IsDocOf schema doc.doc) (living layer)) living_docs layers rows))
  where
    enumerated_all : (P : DocRow → Type 0) (n : ℕ) (rows : List DocRow) → All P rows → All (λ (e : ℕ × DocRow). P e.1) (enumerate_from n rows)
    enumerated_all P n [] all = All-nil (λ (e : ℕ × DocRow). P e.1)
    enumerated_all P n (r ∷ rs) all = All-cons (λ (e : ℕ × DocRow). P e.1) (n, r) (enumerate_from (n + 1) rs) (All-head P r rs all) (enumerated_all P (n + 1) rs (All-tail P r rs all))

    living_docs : (layer : LayerValue) → AreRowsOf schema layer.rows → All (λ (doc : DocRow). IsDocOf schema doc.doc) (living layer)
    living_docs layer are =
        All-map (λ (doc : DocRow). IsDocOf schema doc.doc) (λ (e : ℕ × DocRow). e.1) (filter (λ e. not (is_dead layer e.0)) (enumerate_from 0 layer.rows))
        (All-filter (λ e. not (is_dead layer e.0)) (λ (e : ℕ × DocRow). IsDocOf schema e.1.doc) (enumerate_from 0 layer.rows)
        (enumerated_all (λ (doc : DocRow). IsDocOf schema doc.doc) 0 layer.rows are.docs))

-- ---- lists

pub filter_members : {X : Type 0} (p q : X → Bool) (xs : List X) → ((x : X) → Contains xs x → p x ≡ q x) → filter p xs ≡ filter q xs
filter_members p q [] same = refl
filter_members p q (x ∷ xs) same =
    ap (λ b. cond b (x ∷ filter p xs) (filter p xs)) (same x (0, omega arith, refl))
    ∙ ap (λ ys. cond (q x) (x ∷ ys) ys) (filter_members p q xs (λ y there. same y (behind y there)))
  where
    behind : (y : _) → Contains xs y → Contains (x ∷ xs) y
    behind y (k, low, is) = (suc k, omega (arith, low), is)

zip_members : {X Y : Type 0} (R S : X → Y → Type 0) (xs : List X) (ys : List Y) → ((x : X) (y : Y) → Contains xs x → R x y → S x y) → AllZip R xs ys → AllZip S xs ys
zip_members R S [] [] each zip = tt
zip_members R S [] (y ∷ ys) each zip = absurd zip
zip_members R S (x ∷ xs) [] each zip = absurd zip
zip_members R S (x ∷ xs) (y ∷ ys) each zip =
    (each x y (0, omega arith, refl) zip.0, zip_members R S xs ys (λ z w there. each z w (behind z there)) zip.1)
  where
    behind : (z : _) → Contains xs z → Contains (x ∷ xs) z
    behind z (k, low, is) = (suc k, omega (arith, low), is)

-- ---- the question that is asked

abbrev pub asked_by : Question → Query → Question
asked_by question other = record question { query = other }

-- it is asked of the same index
pub asked_other : (schema : Schema) (question : Question) (docs : List DocRow) (other : Query) → IsReadOf schema question → IsAskedFor question.query docs other → IsAskedOf schema (asked_by question other)
asked_other schema question docs other read asked = record {
  positions = positions_kept docs question.query other asked.lists read.numbered asked.words asked.few asked.is;
  few_fields = read.asked.few_fields;
  weights = read.asked.weights;
  each_weight = read.asked.each_weight;
  attrs = read.asked.attrs;
}

module _ (question : Question) (docs : List DocRow) (other : Query) (numbered : IsNumbered question.query) (words : All HasWords docs) (asked : IsAskedFor question.query docs other) where
  abbrev query : Query
  query = question.query

  abbrev find : DocRow → Found
  find = finding asked.lists query

  abbrev its : Question
  its = asked_by question other

  -- the numbers of the words, by which keywords are asked for
  abbrev by_keys : List Key → List ℕ → ℕ
  by_keys keys word = unwrap_or (position (bytes_eq word) (first_uses (map (λ key. key.word) keys))) 0

  same : (doc : DocRow) → Contains docs doc → IsSame (find doc) (query_finds other doc)
  same doc there =
      subst (λ (keys : List Key). IsSame (find doc) (finds other.root doc (by_keys keys))) (sym (keys_are_asked asked.lists query other asked.is))
      (find_the_same docs query other asked.lists doc (number_with asked.lists query) asked.words (are_apart query numbered) asked.is there (All-contains HasWords docs doc words there))

  -- a document weighs as much
  weighs : (doc : DocRow) (hits : List Hit) → weight_of its doc hits ≡ weight_of question doc hits
  weighs doc hits = ap (λ (k : ℕ). weigh question.ranker (record { keywords = k; list = hits }) question.weights.list doc.doc.values) asked.is.keywords

  row_found : (doc : DocRow) (row : Row) → Contains docs doc → plain.IsRowOf its doc row → IsRowBy find question doc row
  row_found doc row there is = record {
    hits = is.hits;
    are = record { ascend = is.are.ascend; all = λ test. is.are.all test ∙ sym ((same doc there).hits test) };
    id = is.id;
    weight = is.weight ∙ ap (λ (w : Option ℕ). unwrap_or w 0) (weighs doc is.hits);
    ranked = λ passing. ap (λ (w : Option ℕ). is_some w) (sym (weighs doc is.hits)) ∙ is.ranked passing;
    values = is.values;
  }

  -- what is found by it is found
  pub found_carried : (found : List Row) → plain.AreFound its docs found → AreFound question docs found
  found_carried found are = record {
    lists = asked.lists;
    words = asked.words;
    few = asked.few;
    rows = are.rows;
    weighed =
        subst (λ (list : List DocRow). AllZip (IsRowBy find question) list are.rows)
        (filter_members (matches other) (fits find) docs (λ doc there. sym (same doc there).matches))
        (zip_members (plain.IsRowOf its) (IsRowBy find question) (filter (matches other) docs) are.rows
        (λ doc row there is. row_found doc row (in_filter (matches other) docs doc there).0 is) are.weighed);
    passing = are.passing;
  }

  lacks_carried : (doc : DocRow) → Contains docs doc → plain.LacksWeight its doc → LacksWeightBy find question doc
  lacks_carried doc there lacks = record {
    hits = lacks.hits;
    are = record { ascend = lacks.are.ascend; all = λ test. lacks.are.all test ∙ sym ((same doc there).hits test) };
    fits = (same doc there).matches ∙ lacks.fits;
    passing = lacks.passing;
    none = sym (weighs doc lacks.hits) ∙ lacks.none;
  }

  lacks_back : (doc : DocRow) → Contains docs doc → LacksWeightBy find question doc → plain.LacksWeight its doc
  lacks_back doc there lacks = record {
    hits = lacks.hits;
    are = record { ascend = lacks.are.ascend; all = λ test. lacks.are.all test ∙ (same doc there).hits test };
    fits = sym (same doc there).matches ∙ lacks.fits;
    passing = lacks.passing;
    none = weighs doc lacks.hits ∙ lacks.none;
  }

  -- and so is the first document without a weight
  pub first_carried : (id : ℕ) → plain.IsFirstLacking its docs id → IsFirstLacking question docs id
  first_carried id first = record {
    lists = asked.lists;
    words = asked.words;
    few = asked.few;
    doc = first.doc;
    among = first.among;
    lacks = lacks_carried first.doc first.among first.lacks;
    is = first.is;
    least = λ doc there lacks. first.least doc there (lacks_back doc there lacks);
  }
