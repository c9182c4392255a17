-- How many documents have a word that a keyword takes.
use Rattle.std.proofs.Common.{◌≡◌, ◌∙◌, ℕ, Bool, true, false, cond, List, [], ◌∷◌, length, map, ap, refl, sym, subst, Contains}
use Rattle.std.proofs.lemmas.Bool.{both_ways}
use Rattle.std.specs.List.{count_by, filter, list_any}
use Rattle.std.specs.Str.{bytes_eq}
use Rattle.std.proofs.lemmas.List.Elements.{All-contains, filter_agree}
use Rattle.std.proofs.lemmas.List.Folds.{Any-from_list_any, list_any-from_Any}
use Rattle.std.proofs.lemmas.List.Sums.{length-filter}
use Rattle.doc_types.specs.declared.documents.DocRow.{DocRow}
use Rattle.doc_types.specs.declared.tokens.FieldTokens.{FieldTokens}
use Rattle.doc_types.specs.declared.tokens.TokenWord.{TokenWord}
use Rattle.doc_types.specs.Chunks.{has_word, is_word}
use Rattle.query_tree.specs.declared.key.Key.{Key}
use Rattle.query_tree.specs.Taking.{begins_so, takes}
use Rattle.occ_lists.proofs.Members.{any_alike, any_flat_map, any_map}
use Rattle.prefix_terms.specs.Prefixes.{AreWordsWith, lives}
use Rattle.prefix_finds.specs.Taken.{words_in}
use Rattle.prefix_finds.proofs.Leaves.{has_it, in_row}
use Rattle.prefix_search.proofs.Carried.{filter_members}
use Rattle.table_search.specs.Keywords.{docs_taking, has_taken}
use Rattle.table_search.specs.steps.Counting.{docs_with, has_some}

count_alike : {X : Type 0} (p q : X → Bool) → ((x : X) → p x ≡ q x) → (xs : List X) → count_by p xs ≡ count_by q xs
count_alike p q same xs = sym (length-filter p xs) ∙ ap (λ ys. length ys) (filter_agree p q same xs) ∙ length-filter q xs

count_members : {X : Type 0} (p q : X → Bool) (xs : List X) → ((x : X) → Contains xs x → p x ≡ q x) → count_by p xs ≡ count_by q xs
count_members p q xs same = sym (length-filter p xs) ∙ ap (λ ys. length ys) (filter_members p q xs same) ∙ length-filter q xs

-- ---- a whole word
abbrev field_words : FieldTokens → List (List ℕ)
field_words field = map (λ (token : TokenWord). token.word) field.words

takes_own : (key : Key) (word : List ℕ) → key.prefix ≡ false → takes key word ≡ bytes_eq word key.word
takes_own key word plain = ap (λ b. cond b (begins_so word key.word) (bytes_eq word key.word)) plain

has_own : (key : Key) (doc : DocRow) → key.prefix ≡ false → has_word key.word doc ≡ has_taken key doc
has_own key doc plain =
    any_alike (λ field. list_any (is_word key.word) field.words) (λ field. list_any (takes key) (field_words field))
    (λ field. any_alike (is_word key.word) (λ token. takes key token.word) (λ token. sym (takes_own key token.word plain)) field.words ∙ sym (any_map (takes key) (λ (token : TokenWord). token.word) field.words)) doc.doc.fields
    ∙ sym (any_flat_map (takes key) field_words doc.doc.fields)

pub whole_docs : (key : Key) (docs : List DocRow) → key.prefix ≡ false → docs_with key.word docs ≡ docs_taking key docs
whole_docs key docs plain = count_alike (has_word key.word) (has_taken key) (λ doc. has_own key doc plain) docs

-- ---- the words of a prefix
abbrev begins : List ℕ → DocRow → Bool
begins beginning doc = list_any (λ word. begins_so word beginning) (words_in doc)

both : (a b : Bool) → (a ≡ true → b ≡ true) → (b ≡ true → a ≡ true) → a ≡ b
both true true one two = refl
both false false one two = refl
both true false one two = sym (one refl)
both false true one two = two refl

some_begins : (docs : List DocRow) (beginning : List ℕ) (words : List (List ℕ)) → AreWordsWith docs beginning words → (doc : DocRow) → Contains docs doc → has_some words doc ≡ begins beginning doc
some_begins docs beginning words are doc there = both (has_some words doc) (begins beginning doc) into back
  where
    into : has_some words doc ≡ true → begins beginning doc ≡ true
    into some =
        let its = Any-from_list_any (λ word. has_word word doc) words some in
        let place = in_row doc its.1 its.4 in
        list_any-from_Any (λ word. begins_so word beginning) (words_in doc) (place.0, its.1, place.1, place.2, All-contains (λ word. begins_so word beginning ≡ true) words its.1 are.begin (its.0, its.2, its.3))

    back : begins beginning doc ≡ true → has_some words doc ≡ true
    back some =
        let its = Any-from_list_any (λ word. begins_so word beginning) (words_in doc) some in
        let has : has_word its.1 doc ≡ true = has_it doc its.1 (its.0, its.2, its.3) in
        let live : lives docs its.1 ≡ true = list_any-from_Any (has_word its.1) docs (there.0, doc, there.1, there.2, has) in
        let place = are.all its.1 its.4 live in
        list_any-from_Any (λ word. has_word word doc) words (place.0, its.1, place.1, place.2, has)

pub begun_docs : (docs : List DocRow) (beginning : List ℕ) (words : List (List ℕ)) → AreWordsWith docs beginning words → count_by (has_some words) docs ≡ count_by (begins beginning) docs
begun_docs docs beginning words are = count_members (has_some words) (begins beginning) docs (some_begins docs beginning words are)

-- a prefix takes the words that begin so
pub prefix_docs : (key : Key) (docs : List DocRow) → key.prefix ≡ true → count_by (begins key.word) docs ≡ docs_taking key docs
prefix_docs key docs is =
    count_alike (begins key.word) (has_taken key) (λ doc. any_alike (λ word. begins_so word key.word) (takes key) (λ word. sym (ap (λ b. cond b (begins_so word key.word) (bytes_eq word key.word)) is)) (words_in doc)) docs
