-- A keyword, and the OR of plain keywords in its place.
use Rattle.std.proofs.Common.{◌≡◌, ◌≢◌, ℕ, ◌<◌, List, [], ◌∷◌, ◌++◌, Bool, true, false, ◌&&◌, ◌||◌, cond, map, length, get_or, zero, suc, refl, sym, ap, subst, ◌∙◌, arith, Contains, ⊎_elim}
use Rattle.std.specs.List.{count_by, filter, flat_map, list_any}
use Rattle.std.specs.Str.{bytes_eq}
use Rattle.std.proofs.lemmas.Bool.{and_from, and_parts, both_ways, cases_Bool}
use Rattle.std.proofs.lemmas.List.{append-nil, append_assoc, length-map, map-append}
use Rattle.std.proofs.lemmas.List.Sums.{sum_by-cons}
use Rattle.std.proofs.lemmas.List.Folds.{Any-from_list_any, list_any-from_Any}
use Rattle.std.proofs.lemmas.Slice.Eq.{bytes_eq-Decides}
use Rattle.doc_types.specs.declared.documents.DocRow.{DocRow}
use Rattle.doc_types.specs.declared.hits.Hit.{Hit}
use Rattle.doc_types.specs.declared.tokens.FieldTokens.{FieldTokens}
use Rattle.doc_types.specs.declared.tokens.TokenWord.{TokenWord}
use Rattle.doc_types.specs.Chunks.{has_word, is_word}
use Rattle.query_tree.specs.declared.key.Key.{Key}
use Rattle.query_tree.specs.declared.key.How.{How}
use Rattle.query_tree.specs.declared.key.How.TheVariants as hows
use Rattle.query_tree.specs.declared.query.Node.{Node}
use Rattle.query_tree.specs.Taking.{takes}
use Rattle.occ_lists.proofs.Members.{any_alike, any_filter, any_flat_map, any_map}
use Rattle.word_rows.specs.Keywords.{Spans, places_within}
use Rattle.occ_lists.specs.Places.{at_place}
use Rattle.occ_lists.specs.Runs.{runs}
use Rattle.occ_lists.specs.Windows.{Listed, windows}
use Rattle.op_eval.specs.Finding.{Found, any_of, either, hits_at, is_enough, is_some, keyword, made, node_finds, nothing, quorum, quoted}
use Rattle.op_eval.proofs.Nodes.{finds_or, finds_word}
use Rattle.op_eval.proofs.Standing.{places_absent}
use Rattle.prefix_terms.specs.Prefixes.{IsChoice, of_halves, of_one, whole, with_word}
use Rattle.prefix_finds.specs.Same.{IsSame}
use Rattle.prefix_finds.specs.Taken.{found_as, taken_in, words_in}
use Rattle.prefix_finds.proofs.Alike.{alike_is, alike_itself, alike_through, either_alike}

-- ---- an OR of keywords

abbrev pub found_by : DocRow → (List ℕ → ℕ) → Spans → Key → Found
found_by row number spans key = keyword number key (places_within row spans key)

either_either : (f g h : Found) → IsSame (either f (either g h)) (either (either f g) h)
either_either f g h = record {
  matches = or_or f.matches g.matches h.matches;
  occurrences = λ test. ap (list_any test) (sym (append_assoc f.occurrences g.occurrences h.occurrences));
  hits = λ test. ap (list_any test) (sym (append_assoc f.hits g.hits h.hits));
}
  where
    or_or : (a b c : Bool) → (a || (b || c)) ≡ ((a || b) || c)
    or_or true b c = refl
    or_or false b c = refl

-- what two lists find
two_lists : (a b : List Found) → IsSame (any_of (a ++ b)) (either (any_of a) (any_of b))
two_lists [] b = alike_itself (any_of b)
two_lists (f ∷ fs) b = alike_through _ _ _ (either_alike f (any_of (fs ++ b)) f (either (any_of fs) (any_of b)) (alike_itself f) (two_lists fs b)) (either_either f (any_of fs) (any_of b))

lone : (f : Found) → IsSame (any_of (f ∷ [])) f
lone f = record {
  matches = or_false f.matches;
  occurrences = λ test. ap (list_any test) (append-nil f.occurrences);
  hits = λ test. ap (list_any test) (append-nil f.hits);
}
  where
    or_false : (b : Bool) → (b || false) ≡ b
    or_false true = refl
    or_false false = refl

pub choice_alike : (row : DocRow) (number : List ℕ → ℕ) (spans : Spans) {keys : List Key} {node : Node} → IsChoice keys node → IsSame (any_of (map (found_by row number spans) keys)) (node_finds row number node spans)
choice_alike row number spans (of_one key) =
    alike_through _ _ _ (lone (found_by row number spans key)) (alike_is _ _ (sym (finds_word row number key spans)))
choice_alike row number spans (of_halves first second a b low high one two) =
    let find = found_by row number spans in
    alike_through _ _ _ (alike_is _ _ (ap any_of (map-append find first second)))
    (alike_through _ _ _ (two_lists (map find first) (map find second))
    (alike_through _ _ _ (either_alike _ _ _ _ (choice_alike row number spans one) (choice_alike row number spans two)) (alike_is _ _ (sym (finds_or row number a b spans)))))

-- ---- words that aren't in the row

-- a word that the row has is one of its words
pub in_row : (row : DocRow) (word : List ℕ) → has_word word row ≡ true → Contains (words_in row) word
in_row row word has =
    let test : List ℕ → Bool = λ own. bytes_eq own word in
    let field_words : FieldTokens → List (List ℕ) = λ field. map (λ token. token.word) field.words in
    let same : list_any test (words_in row) ≡ has_word word row =
    any_flat_map test field_words row.doc.fields
    ∙ any_alike (λ field. list_any test (field_words field)) (λ field. list_any (is_word word) field.words) (λ field. any_map test (λ (token : TokenWord). token.word) field.words) row.doc.fields in
    let its = Any-from_list_any test (words_in row) (same ∙ has) in
    let is : its.1 ≡ word = (bytes_eq-Decides its.1 word).0 its.4 in
    (its.0, its.2, get_or_here (words_in row) its.0 its.1 word its.2 its.3 is)
  where
    get_or_here : (xs : List (List ℕ)) (k : ℕ) (x y : List ℕ) → k < length xs → get_or xs k x ≡ x → x ≡ y → get_or xs k y ≡ y
    get_or_here xs k x y low at same = subst (λ (z : List ℕ). get_or xs k z ≡ z) same at

-- and the other way round
pub has_it : (row : DocRow) (word : List ℕ) → Contains (words_in row) word → has_word word row ≡ true
has_it row word in_it =
    let test : List ℕ → Bool = λ own. bytes_eq own word in
    let field_words : FieldTokens → List (List ℕ) = λ field. map (λ token. token.word) field.words in
    let same : list_any test (words_in row) ≡ has_word word row =
    any_flat_map test field_words row.doc.fields
    ∙ any_alike (λ field. list_any test (field_words field)) (λ field. list_any (is_word word) field.words) (λ field. any_map test (λ (token : TokenWord). token.word) field.words) row.doc.fields in
    sym same ∙ list_any-from_Any test (words_in row) (in_it.0, word, in_it.1, in_it.2, (bytes_eq-Decides word word).1 refl)

-- a word that the row hasn't finds nothing
absent : (row : DocRow) (number : List ℕ → ℕ) (key : Key) (spans : Spans) (word : List ℕ) → has_word word row ≡ false → found_as row number key spans word ≡ any_of []
absent row number key spans word has = ap (keyword number (with_word key word)) (places_absent row (with_word key word) spans has)

module _ (row : DocRow) (number : List ℕ → ℕ) (key : Key) (spans : Spans) (all : List (List ℕ))
    (each : (word : List ℕ) → Contains (words_in row) word → takes key word ≡ true → Contains all word)
    (only : (word : List ℕ) → Contains all word → Contains (words_in row) word → takes key word ≡ true) where
  abbrev find : List ℕ → Found
  find word = found_as row number key spans word

  -- a test that only words of the row pass is passed by a taken word where it is by one of these
  alike_tests : (test : List ℕ → Bool) → ((word : List ℕ) → test word ≡ true → Contains (words_in row) word) → list_any test (taken_in row key) ≡ list_any test all
  alike_tests test there = any_filter test (takes key) (words_in row) ∙ both (list_any (λ word. takes key word && test word) (words_in row)) (list_any test all) forth back
    where
      both : (a b : Bool) → (a ≡ true → b ≡ true) → (b ≡ true → a ≡ true) → a ≡ b
      both true true one two = refl
      both false false one two = refl
      both true false one two = sym (one refl)
      both false true one two = two refl

      forth : list_any (λ word. takes key word && test word) (words_in row) ≡ true → list_any test all ≡ true
      forth some =
          let its = Any-from_list_any (λ word. takes key word && test word) (words_in row) some in
          let parts = and_parts (takes key its.1) (test its.1) its.4 in
          let found = each its.1 (its.0, its.2, its.3) parts.0 in
          list_any-from_Any test all (found.0, its.1, found.1, found.2, parts.1)

      back : list_any test all ≡ true → list_any (λ word. takes key word && test word) (words_in row) ≡ true
      back some =
          let its = Any-from_list_any test all some in
          let place = there its.1 its.4 in
          list_any-from_Any (λ word. takes key word && test word) (words_in row) (place.0, its.1, place.1, place.2, and_from (takes key its.1) (test its.1) (only its.1 (its.0, its.2, its.3) place) its.4)

  -- a test of what a word finds, which nothing passes
  there_by : (passes : Found → Bool) → passes (any_of []) ≡ false → (word : List ℕ) → passes (find word) ≡ true → Contains (words_in row) word
  there_by passes none word met =
      ⊎_elim
      (λ (has : has_word word row ≡ true). in_row row word has)
      (λ (lacks : has_word word row ≡ false). absurd (both_ways (passes (find word)) (ap passes (absent row number key spans word lacks) ∙ none) met))
      (cases_Bool (has_word word row))

  -- the words that the keyword takes find what these find
  pub words_alike : IsSame (any_of (map find (taken_in row key))) (any_of (map find all))
  words_alike = record {
    matches = any_map (λ (f : Found). f.matches) find (taken_in row key) ∙ alike_tests (λ word. (find word).matches) (there_by (λ (f : Found). f.matches) refl) ∙ sym (any_map (λ (f : Found). f.matches) find all);
    occurrences = λ test.
        joined (λ (f : Found). f.occurrences) test (taken_in row key) ∙ alike_tests (λ word. list_any test (find word).occurrences) (there_by (λ (f : Found). list_any test f.occurrences) refl) ∙ sym (joined (λ (f : Found). f.occurrences) test all);
    hits = λ test.
        joined (λ (f : Found). f.hits) test (taken_in row key) ∙ alike_tests (λ word. list_any test (find word).hits) (there_by (λ (f : Found). list_any test f.hits) refl) ∙ sym (joined (λ (f : Found). f.hits) test all);
  }
    where
      joined : {X : Type 0} (of : Found → List X) (test : X → Bool) (words : List (List ℕ)) → list_any test (flat_map of (map find words)) ≡ list_any (λ word. list_any test (of (find word))) words
      joined of test words = any_flat_map test of (map find words) ∙ any_map (λ (f : Found). list_any test (of f)) find words

-- the keywords of these words, by each
pub by_words : (row : DocRow) (number : List ℕ → ℕ) (key : Key) (spans : Spans) (words : List (List ℕ)) → map (found_by row number spans) (map (with_word key) words) ≡ map (found_as row number key spans) words
by_words row number key spans [] = refl
by_words row number key spans (word ∷ words) = ap (λ fs. found_as row number key spans word ∷ fs) (by_words row number key spans words)

-- a plain keyword takes its own word
pub plain_alike : (row : DocRow) (number : List ℕ → ℕ) (key : Key) (spans : Spans) → key.prefix ≡ false → IsSame (any_of (map (found_as row number key spans) (taken_in row key))) (found_by row number spans key)
plain_alike row number key spans plain =
    alike_through _ _ _ (words_alike row number key spans (key.word ∷ []) each only)
    (alike_through _ _ _ (lone (found_as row number key spans key.word)) (alike_is _ _ (ap (found_by row number spans) itself)))
  where
    takes_own : (word : List ℕ) → takes key word ≡ bytes_eq word key.word
    takes_own word = rw plain refl

    each : (word : List ℕ) → Contains (words_in row) word → takes key word ≡ true → Contains (key.word ∷ []) word
    each word in_it met = (0, omega arith, sym ((bytes_eq-Decides word key.word).0 (sym (takes_own word) ∙ met)))

    only : (word : List ℕ) → Contains (key.word ∷ []) word → Contains (words_in row) word → takes key word ≡ true
    only word (zero, low, at) in_it = takes_own word ∙ (bytes_eq-Decides word key.word).1 (sym at)
    only word (suc n, low, at) in_it = absurd (omega (arith, low))

    itself : with_word key key.word ≡ key
    itself = ap (λ (b : Bool). record key { prefix = b }) (sym plain)

-- ---- quoted keywords

-- what doesn't look at whether a keyword is a prefix
map_plain : {X : Type 0} (of : Key → X) → ((key : Key) → of (whole key) ≡ of key) → (keys : List Key) → map of (map whole keys) ≡ map of keys
map_plain of same [] = refl
map_plain of same (key ∷ keys) = ap (λ x. x ∷ map of (map whole keys)) (same key) ∙ ap (λ xs. of key ∷ xs) (map_plain of same keys)

flat_plain : {X : Type 0} (of : Key → List X) → ((key : Key) → of (whole key) ≡ of key) → (keys : List Key) → flat_map of (map whole keys) ≡ flat_map of keys
flat_plain of same [] = refl
flat_plain of same (key ∷ keys) = ap (λ xs. xs ++ flat_map of (map whole keys)) (same key) ∙ ap (λ xs. of key ++ xs) (flat_plain of same keys)

count_plain : (test : Key → Bool) → ((key : Key) → test (whole key) ≡ test key) → (keys : List Key) → count_by test (map whole keys) ≡ count_by test keys
count_plain test same [] = refl
count_plain test same (key ∷ keys) =
    let one = sum_by-cons (λ (own : Key). cond (test own) 1 0) (whole key) (map whole keys) in
    let two = sum_by-cons (λ (own : Key). cond (test own) 1 0) key keys in
    let here = ap {B = ℕ} (λ b. cond b 1 0) (same key) in
    let rest = count_plain test same keys in
    omega (arith, one, two, here, rest)

pub quoted_same : (row : DocRow) (number : List ℕ → ℕ) (spans : Spans) (keys : List Key) (how : How)
    → quoted number (places_within row spans) keys how (flat_map (λ (key : Key). hits_at number key (places_within row spans key)) keys)
    ≡ quoted number (places_within row spans) (map whole keys) how (flat_map (λ (key : Key). hits_at number key (places_within row spans key)) (map whole keys))
quoted_same row number spans keys how =
    let hits = λ (own : List Key). flat_map (λ (key : Key). hits_at number key (places_within row spans key)) own in
    let same : hits (map whole keys) ≡ hits keys = flat_plain (λ (key : Key). hits_at number key (places_within row spans key)) (λ key. refl) keys in
    by_how how (hits keys) ∙ ap (quoted number (places_within row spans) (map whole keys) how) (sym same)
  where
    enough : (own : How) (hits : List Hit) → quorum (places_within row spans) keys own hits ≡ quorum (places_within row spans) (map whole keys) own hits
    enough own hits =
        let size = length-map keys whole in
        let count = count_plain (λ (key : Key). is_some (places_within row spans key)) (λ key. refl) keys in
        let all = flat_plain (places_within row spans) (λ key. refl) keys in
        let told = λ (n m : ℕ) (ps : List (ℕ × ℕ)). cond (is_enough own n m) (record { matches = true; occurrences = map at_place ps; hits = hits }) nothing in
        ap (λ n. told n (count_by (λ (key : Key). is_some (places_within row spans key)) keys) (flat_map (places_within row spans) keys)) (sym size)
        ∙ ap (λ m. told (length (map whole keys)) m (flat_map (places_within row spans) keys)) (sym count)
        ∙ ap (told (length (map whole keys)) (count_by (λ (key : Key). is_some (places_within row spans key)) (map whole keys))) (sym all)

    by_how : (own : How) (hits : List Hit) → quoted number (places_within row spans) keys own hits ≡ quoted number (places_within row spans) (map whole keys) own hits
    by_how hows.Phrase hits = ap (λ (ps : List (List (ℕ × ℕ))). made (runs ps) hits) (sym (map_plain (places_within row spans) (λ key. refl) keys))
    by_how (hows.Within n) hits =
        ap (λ (ls : List Listed). made (windows n ls) hits) (sym (map_plain (λ (key : Key). record { word = number key.word; places = places_within row spans key }) (λ key. refl) keys))
    by_how (hows.AtLeast k) hits = enough (hows.AtLeast k) hits
    by_how (hows.Share digits decimals) hits = enough (hows.Share digits decimals) hits
