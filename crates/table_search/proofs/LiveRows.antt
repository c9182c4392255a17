-- The rows of a word that live.
use Rattle.std.proofs.Common.{◌≡◌, ◌∙◌, ℕ, ◌+◌, Bool, true, false, cond, List, [], ◌∷◌, ◌++◌, Some, map, drop, ap, refl, sym, arith, take, ◌<◌, length, get_or, suc}
use Rattle.std.specs.Prelude.{slice_get}
use Rattle.std.specs.List.{count_by, filter, enumerate_from}
use Rattle.std.proofs.lemmas.List.{append-nil, length-append, take_more}
use Rattle.std.proofs.lemmas.List.Elements.{filter-append}
use Rattle.std.proofs.lemmas.List.Sums.{length-filter}
use Rattle.std.proofs.lemmas.List.Concat.{flat_map-append}
use Rattle.doc_types.specs.declared.documents.DocRow.{DocRow}
use Rattle.doc_types.specs.Chunks.{has_word, rows_with}
use Rattle.doc_types.specs.Snapshots.{LayerValue, all_living, living}
use Rattle.table_search.specs.steps.Counting.{docs_with, lives_among}

module _ (has : DocRow → Bool) (lives : ℕ → Bool) where
  -- of rows with their numbers those that live, and those that have the word
  abbrev living_of : List (ℕ × DocRow) → List (ℕ × DocRow)
  living_of es = filter (λ e. lives e.0) es

  abbrev having_of : List (ℕ × DocRow) → List (ℕ × DocRow)
  having_of es = filter (λ e. has e.1) es

  -- the rows that have it among those that live, and the numbers that live among those of rows that have it
  abbrev docs_of : List (ℕ × DocRow) → List DocRow
  docs_of es = filter has (map (λ e. e.1) (living_of es))

  abbrev numbers_of : List (ℕ × DocRow) → List ℕ
  numbers_of es = filter lives (map (λ e. e.0) (having_of es))

  first_lives : (e : ℕ × DocRow) (es : List (ℕ × DocRow)) (b : Bool) → lives e.0 ≡ b → length (docs_of (e ∷ es)) ≡ length (filter has (map (λ e. e.1) (cond b (e ∷ living_of es) (living_of es))))
  first_lives e es b l = ap (λ b. length (filter has (map (λ e. e.1) (cond b (e ∷ living_of es) (living_of es))))) l

  first_has : (e : ℕ × DocRow) (es : List (ℕ × DocRow)) (c : Bool) → has e.1 ≡ c → length (numbers_of (e ∷ es)) ≡ length (filter lives (map (λ e. e.0) (cond c (e ∷ having_of es) (having_of es))))
  first_has e es c h = ap (λ c. length (filter lives (map (λ e. e.0) (cond c (e ∷ having_of es) (having_of es))))) h

  one_row : (e : ℕ × DocRow) (es : List (ℕ × DocRow)) (b c : Bool) → lives e.0 ≡ b → has e.1 ≡ c → length (docs_of es) ≡ length (numbers_of es) → length (docs_of (e ∷ es)) ≡ length (numbers_of (e ∷ es))
  one_row e es true true l h rest =
      first_lives e es true l ∙ ap (λ c. length (cond c (e.1 ∷ docs_of es) (docs_of es))) h ∙ ap suc rest
      ∙ sym (first_has e es true h ∙ ap (λ b. length (cond b (e.0 ∷ numbers_of es) (numbers_of es))) l)
  one_row e es true false l h rest =
      first_lives e es true l ∙ ap (λ c. length (cond c (e.1 ∷ docs_of es) (docs_of es))) h ∙ rest ∙ sym (first_has e es false h)
  one_row e es false true l h rest =
      first_lives e es false l ∙ rest ∙ sym (first_has e es true h ∙ ap (λ b. length (cond b (e.0 ∷ numbers_of es) (numbers_of es))) l)
  one_row e es false false l h rest = first_lives e es false l ∙ rest ∙ sym (first_has e es false h)

  either_way : (es : List (ℕ × DocRow)) → length (docs_of es) ≡ length (numbers_of es)
  either_way [] = refl
  either_way (e ∷ es) = one_row e es (lives e.0) (has e.1) refl refl (either_way es)

-- the documents of a layer that have the word, by their numbers
pub by_numbers : (word : List ℕ) (layer : LayerValue) → docs_with word (living layer) ≡ count_by (lives_among layer.dead) (rows_with word layer.rows)
by_numbers word layer =
    sym (length-filter (has_word word) (living layer)) ∙ either_way (has_word word) (lives_among layer.dead) (enumerate_from 0 layer.rows)
    ∙ length-filter (lives_among layer.dead) (rows_with word layer.rows)

count_all : (ns : List ℕ) → count_by (lives_among []) ns ≡ length ns
count_all [] = refl
count_all (n ∷ ns) = sym (length-filter (lives_among []) (n ∷ ns)) ∙ ap suc (length-filter (lives_among []) ns ∙ count_all ns)

-- those of a layer of which no row is dead
pub by_count : (word : List ℕ) (layer : LayerValue) → layer.dead ≡ [] → docs_with word (living layer) ≡ length (rows_with word layer.rows)
by_count word layer none =
    by_numbers word layer ∙ ap (λ (dead : List ℕ). count_by (lives_among dead) (rows_with word layer.rows)) none ∙ count_all (rows_with word layer.rows)

first_counts : (b : Bool) (n : ℕ) (ns : List ℕ) → length (cond b (n ∷ ns) ns) ≡ cond b 1 0 + length ns
first_counts true n ns = omega arith
first_counts false n ns = omega arith

-- one row is ahead, and others behind it
pub one_ahead : (lives : ℕ → Bool) (ahead : List ℕ) (row : ℕ) → slice_get ahead 0 ≡ Some row → count_by lives ahead ≡ cond (lives row) 1 0 + count_by lives (drop 1 ahead)
one_ahead lives [] row here = absurd cc
one_ahead lives (next ∷ ahead) row here =
    let same : Some next ≡ Some row = here in
    let is : next ≡ row = cc in
    sym (length-filter lives (next ∷ ahead)) ∙ first_counts (lives next) next (filter lives ahead)
    ∙ ap (λ n. cond (lives next) 1 0 + n) (length-filter lives ahead) ∙ ap (λ n. cond (lives n) 1 0 + count_by lives ahead) is

count_append : {X : Type 0} (p : X → Bool) (xs ys : List X) → count_by p (xs ++ ys) ≡ count_by p xs + count_by p ys
count_append p xs ys =
    sym (length-filter p (xs ++ ys)) ∙ ap length (filter-append p xs ys) ∙ length-append (filter p xs) (filter p ys)
    ∙ ap (λ n. n + length (filter p ys)) (length-filter p xs) ∙ ap (λ n. count_by p xs + n) (length-filter p ys)

-- one layer more
pub docs_more : (word : List ℕ) (layers : List LayerValue) (i : ℕ) (layer : LayerValue) → i < length layers → layer ≡ get_or layers i layer
    → docs_with word (all_living (take (i + 1) layers)) ≡ docs_with word (all_living (take i layers)) + docs_with word (living layer)
docs_more word layers i layer within at =
    let more : take (i + 1) layers ≡ take i layers ++ layer ∷ [] = take_more layers i layer within ∙ ap (λ l. take i layers ++ l ∷ []) (sym at) in
    ap (λ ls. docs_with word (all_living ls)) more
    ∙ ap (docs_with word) (flat_map-append living (take i layers) (layer ∷ []) ∙ ap (λ docs. all_living (take i layers) ++ docs) (append-nil (living layer)))
    ∙ count_append (has_word word) (all_living (take i layers)) (living layer)
