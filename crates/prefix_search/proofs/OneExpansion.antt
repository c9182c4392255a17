-- The words of prefixes depend on which documents there are, and not on the order in which they are listed.
use Rattle.std.proofs.Common.{◌≡◌, ◌≢◌, ◌<◌, ℕ, Bool, true, false, cond, List, [], ◌∷◌, refl, sym, ap, ap₂, subst, ◌∙◌, arith, AllPairs, Contains}
use Rattle.std.specs.List.{AllZip, list_any}
use Rattle.std.specs.Cmp.Lexicographic.{slice_cmp}
use Rattle.std.specs.Ordering.{is_lt, nat_cmp}
use Rattle.std.specs.declared.cmp.Ordering.TheVariants.{Less}
use Rattle.std.proofs.lemmas.Cmp.{nat_list_cmp_total}
use Rattle.std.proofs.lemmas.List.Elements.{All-contains}
use Rattle.std.proofs.lemmas.List.Folds.{Any-from_list_any, list_any-from_Any}
use Rattle.std.proofs.lemmas.List.Sorted.{ranks_by}
use Rattle.doc_types.specs.declared.documents.DocRow.{DocRow}
use Rattle.doc_types.specs.Chunks.{has_word}
use Rattle.doc_types.specs.Rows.{rows_of}
use Rattle.query_tree.specs.declared.key.Key.{Key}
use Rattle.query_tree.specs.declared.query.Query.{Query}
use Rattle.query_tree.specs.Taking.{begins_so}
use Rattle.query_tree.specs.TreeKeys.{query_keys}
use Rattle.prefix_terms.specs.Prefixes.{AreExpanded, AreWordsWith, IsListOf, Lists, lives, prefixes, words_together}
use Rattle.row_select.proofs.Sorting.{one_list}
use Rattle.doc_search.proofs.Members.{DocsApart, in_both}
use Rattle.prefix_search.specs.Searches.{AreTooMany}

-- the documents of the one list are among those of the other
abbrev AreAmong : List DocRow → List DocRow → Type 0
AreAmong docs others = (doc : DocRow) → Contains docs doc → Contains others doc

lives_too : (docs others : List DocRow) (word : List ℕ) → AreAmong docs others → lives docs word ≡ true → lives others word ≡ true
lives_too docs others word among live =
    let its = Any-from_list_any (has_word word) docs live in
    let there = among its.1 (its.0, its.2, its.3) in
    list_any-from_Any (has_word word) others (there.0, its.1, there.1, there.2, its.4)

-- a word stands before another one
abbrev comes_first : List ℕ → List ℕ → Bool
comes_first word later = is_lt (slice_cmp nat_cmp word later)

climbs : (words : List (List ℕ)) → AllPairs (λ word later. slice_cmp nat_cmp word later ≡ Less) words → AllPairs (λ word later. comes_first word later ≡ true) words
climbs words ascend = λ i j d before within. ap is_lt (ascend i j d before within)

words_too : (docs others : List DocRow) (beginning : List ℕ) (words more : List (List ℕ)) → AreAmong docs others → AreWordsWith docs beginning words → AreWordsWith others beginning more → (word : List ℕ) → Contains words word → Contains more word
words_too docs others beginning words more among one two word there =
    two.all word (All-contains (λ word. begins_so word beginning ≡ true) words word one.begin there)
    (lives_too docs others word among (All-contains (λ word. lives docs word ≡ true) words word one.live there))

one_words : (docs others : List DocRow) (beginning : List ℕ) (words more : List (List ℕ)) → AreAmong docs others → AreAmong others docs → AreWordsWith docs beginning words → AreWordsWith others beginning more → words ≡ more
one_words docs others beginning words more into back one two =
    one_list comes_first (ranks_by nat_list_cmp_total (λ (word : List ℕ). word)) words more (climbs words one.ascend) (climbs more two.ascend)
    (words_too docs others beginning words more into one two) (words_too others docs beginning more words back two one)

one_zip : (docs others : List DocRow) (keys : List Key) (lists more : Lists) → AreAmong docs others → AreAmong others docs → AllZip (IsListOf docs) keys lists → AllZip (IsListOf others) keys more → lists ≡ more
one_zip docs others [] [] [] into back one two = refl
one_zip docs others [] [] (m ∷ ms) into back one two = absurd two
one_zip docs others [] (l ∷ ls) more into back one two = absurd one
one_zip docs others (key ∷ keys) [] more into back one two = absurd one
one_zip docs others (key ∷ keys) (l ∷ ls) [] into back one two = absurd two
one_zip docs others (key ∷ keys) (l ∷ ls) (m ∷ ms) into back one two =
    let query : l.0 ≡ m.0 = one.0.query ∙ sym two.0.query in
    let words : l.1 ≡ m.1 = one_words docs others key.word l.1 m.1 into back one.0.words two.0.words in
    ap₂ ◌∷◌ (λ i. (query i, words i)) (one_zip docs others keys ls ms into back one.1 two.1)

-- the prefixes of a query have the same words
pub one_expansion : (docs others : List DocRow) (keys : List Key) (lists more : Lists) → DocsApart docs → DocsApart others → rows_of docs ≡ rows_of others → AreExpanded docs keys lists → AreExpanded others keys more → lists ≡ more
one_expansion docs others keys lists more apart others_apart same one two =
    one_zip docs others (prefixes keys) lists more (in_both docs others apart same) (in_both others docs others_apart (sym same)) one two

-- so where they have too many, these are so many
pub one_count : (query : Query) (docs others : List DocRow) (count other : ℕ) → DocsApart docs → DocsApart others → rows_of docs ≡ rows_of others → AreTooMany query docs count → AreTooMany query others other → count ≡ other
one_count query docs others count other apart others_apart same one two =
    one.is ∙ ap (λ (lists : Lists). words_together lists) (one_expansion docs others (query_keys query) one.lists two.lists apart others_apart same one.words two.words) ∙ sym two.is
