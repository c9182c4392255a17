-- Marks for the rows that have one of some words.
use Rattle.std.proofs.Common.{◌≡◌, ◌∙◌, ◌<◌, ◌+◌, ℕ, zero, suc, Bool, true, false, cond, ◌&&◌, ◌||◌, not, ◌==◌, List, [], ◌∷◌, ◌++◌, Some, length, map, get_or, slice_get, take, drop, replicate, ap, refl, sym, subst, arith, append-nil, add-zero}
use Rattle.std.specs.List.{count_by, enumerate_from, filter, list_any}
use Rattle.std.proofs.lemmas.Bool.{eq-eqb, ne_eqb}
use Rattle.std.proofs.lemmas.List.{drop_all, get_or-map, get_or-replicate, get_or_default, length-map, length-replicate, length-take-le, same_lists, take_all, take_more}
use Rattle.std.proofs.lemmas.List.Folds.{list_any_more}
use Rattle.std.proofs.lemmas.List.Sums.{length-filter}
use Rattle.std.proofs.lemmas.Option.{slice_get_within}
use Rattle.doc_types.specs.declared.documents.DocRow.{DocRow}
use Rattle.doc_types.specs.Chunks.{has_word, rows_with}
use Rattle.doc_types.specs.Snapshots.{LayerValue, is_dead, living}
use Rattle.table_search.specs.steps.Counting.{has_some, is_marked, is_row_of, lives_among, living_marks}

-- ---- the rows of a word

abbrev worded : List ℕ → ℕ → List DocRow → List ℕ
worded word n rows = map (λ (e : ℕ × DocRow). e.0) (filter (λ e. has_word word e.1) (enumerate_from n rows))

one_row : (row : ℕ) (b : Bool) (e : ℕ × DocRow) (es : List (ℕ × DocRow)) → is_row_of (map (λ (e : ℕ × DocRow). e.0) (cond b (e ∷ es) es)) row ≡ ((b && (e.0 == row)) || is_row_of (map (λ (e : ℕ × DocRow). e.0) es) row)
one_row row true e es = refl
one_row row false e es = refl

and_never : (b : Bool) → (b && false) ≡ false
and_never true = refl
and_never false = refl

-- no row before the first one
none_before : (word : List ℕ) (n : ℕ) (rows : List DocRow) (row : ℕ) → row < n → is_row_of (worded word n rows) row ≡ false
none_before word n [] row low = refl
none_before word n (r ∷ rs) row low =
    one_row row (has_word word r) (n, r) (filter (λ e. has_word word e.1) (enumerate_from (n + 1) rs))
    ∙ ap (λ b. (has_word word r && b) || is_row_of (worded word (n + 1) rs) row) (ne_eqb n row (λ is. omega (arith, is, low)))
    ∙ ap (λ b. b || is_row_of (worded word (n + 1) rs) row) (and_never (has_word word r))
    ∙ none_before word (n + 1) rs row (omega (arith, low))

and_always : (b : Bool) → ((b && true) || false) ≡ b
and_always true = refl
and_always false = refl

row_from : (word : List ℕ) (n : ℕ) (rows : List DocRow) (k : ℕ) (doc : DocRow) → slice_get rows k ≡ Some doc → is_row_of (worded word n rows) (n + k) ≡ has_word word doc
row_from word n [] k doc at = absurd cc
row_from word n (r ∷ rs) zero doc at =
    let same : Some r ≡ Some doc = at in
    let is : r ≡ doc = cc in
    one_row (n + 0) (has_word word r) (n, r) (filter (λ e. has_word word e.1) (enumerate_from (n + 1) rs))
    ∙ ap (λ b. (has_word word r && b) || is_row_of (worded word (n + 1) rs) (n + 0)) (eq-eqb n (n + 0) (omega arith))
    ∙ ap (λ b. (has_word word r && true) || b) (none_before word (n + 1) rs (n + 0) (omega arith))
    ∙ and_always (has_word word r) ∙ ap (has_word word) is
row_from word n (r ∷ rs) (suc k) doc at =
    one_row (n + suc k) (has_word word r) (n, r) (filter (λ e. has_word word e.1) (enumerate_from (n + 1) rs))
    ∙ ap (λ b. (has_word word r && b) || is_row_of (worded word (n + 1) rs) (n + suc k)) (ne_eqb n (n + suc k) (λ is. omega (arith, is)))
    ∙ ap (λ b. b || is_row_of (worded word (n + 1) rs) (n + suc k)) (and_never (has_word word r))
    ∙ ap (λ m. is_row_of (worded word (n + 1) rs) m) (shift n k) ∙ row_from word (n + 1) rs k doc at
  where
    shift : (n k : ℕ) → n + suc k ≡ n + 1 + k
    shift n k = omega arith

pub row_has : (word : List ℕ) (rows : List DocRow) (k : ℕ) (doc : DocRow) → slice_get rows k ≡ Some doc → is_row_of (rows_with word rows) k ≡ has_word word doc
row_has word rows k doc at = ap (is_row_of (rows_with word rows)) (zero_add k) ∙ row_from word 0 rows k doc at
  where
    zero_add : (k : ℕ) → k ≡ 0 + k
    zero_add k = omega arith

-- ---- marks

-- the rows that have one of the words are marked
pub record AreMarked (rows : List DocRow) (words : List (List ℕ)) (marks : List Bool) : Type 0 where
  pub long : length marks ≡ length rows
  pub each : (k : ℕ) (doc : DocRow) → slice_get rows k ≡ Some doc → is_marked marks k ≡ has_some words doc

pub all_marked : (rows : List DocRow) (words : List (List ℕ)) (marks : List Bool) → AreMarked rows words marks → marks ≡ map (has_some words) rows
all_marked rows words marks are =
    same_lists marks (map (has_some words) rows) (are.long ∙ sym (length-map rows (has_some words))) (λ k d low. at k d low)
  where
    at : (k : ℕ) (d : Bool) → k < length marks → get_or marks k d ≡ get_or (map (has_some words) rows) k d
    at k d low =
        let within : k < length rows = let long = are.long in omega (arith, long, low) in
        at_doc k d low within (some_doc rows k within)
      where
        some_doc : (rows : List DocRow) (k : ℕ) → k < length rows → (doc : DocRow) × (slice_get rows k ≡ Some doc)
        some_doc [] k low = absurd (omega (arith, low))
        some_doc (r ∷ rs) zero low = (r, refl)
        some_doc (r ∷ rs) (suc k) low = some_doc rs k (omega (arith, low))

        at_doc : (k : ℕ) (d : Bool) → k < length marks → k < length rows → (doc : DocRow) × (slice_get rows k ≡ Some doc) → get_or marks k d ≡ get_or (map (has_some words) rows) k d
        at_doc k d low within (doc, here) =
            get_or_default marks k d false low ∙ are.each k doc here ∙ ap (has_some words) (there rows k doc here) ∙ sym (get_or-map (has_some words) rows k doc d within)
          where
            there : (rows : List DocRow) (k : ℕ) (doc : DocRow) → slice_get rows k ≡ Some doc → doc ≡ get_or rows k doc
            there [] k doc here = absurd cc
            there (r ∷ rs) zero doc here = let same : Some r ≡ Some doc = here in cc
            there (r ∷ rs) (suc k) doc here = there rs k doc here

-- ---- marks of rows that live

count_cond : {X : Type 0} (p : X → Bool) (x : X) (xs : List X) → count_by p (x ∷ xs) ≡ cond (p x) 1 0 + count_by p xs
count_cond p x xs = sym (length-filter p (x ∷ xs)) ∙ by (p x) ∙ ap (λ n. cond (p x) 1 0 + n) (length-filter p xs)
  where
    by : (b : Bool) → length (cond b (x ∷ filter p xs) (filter p xs)) ≡ cond b 1 0 + length (filter p xs)
    by true = omega arith
    by false = omega arith

module _ (has : DocRow → Bool) (lives : ℕ → Bool) where
  abbrev docs_of : ℕ → List DocRow → List DocRow
  docs_of n rows = map (λ (e : ℕ × DocRow). e.1) (filter (λ e. lives e.0) (enumerate_from n rows))

  abbrev marks_of : ℕ → List DocRow → List (ℕ × Bool)
  marks_of n rows = enumerate_from n (map has rows)

  first_doc : (b : Bool) (r : DocRow) (n : ℕ) (es : List (ℕ × DocRow)) → count_by has (map (λ (e : ℕ × DocRow). e.1) (cond b ((n, r) ∷ es) es)) ≡ cond (has r && b) 1 0 + count_by has (map (λ (e : ℕ × DocRow). e.1) es)
  first_doc true r n es = count_cond has r (map (λ (e : ℕ × DocRow). e.1) es) ∙ ap (λ b. cond b 1 0 + count_by has (map (λ (e : ℕ × DocRow). e.1) es)) (always (has r))
    where
      always : (b : Bool) → b ≡ (b && true)
      always true = refl
      always false = refl
  first_doc false r n es = zero_more (count_by has (map (λ (e : ℕ × DocRow). e.1) es)) ∙ ap (λ b. cond b 1 0 + count_by has (map (λ (e : ℕ × DocRow). e.1) es)) (sym (and_never (has r)))
    where
      zero_more : (m : ℕ) → m ≡ 0 + m
      zero_more m = omega arith

  marked_from : (n : ℕ) (rows : List DocRow) → count_by (λ e. e.1 && lives e.0) (marks_of n rows) ≡ count_by has (docs_of n rows)
  marked_from n [] = refl
  marked_from n (r ∷ rs) =
      count_cond (λ (e : ℕ × Bool). e.1 && lives e.0) (n, has r) (marks_of (n + 1) rs)
      ∙ ap (λ m. cond (has r && lives n) 1 0 + m) (marked_from (n + 1) rs)
      ∙ sym (first_doc (lives n) r n (filter (λ e. lives e.0) (enumerate_from (n + 1) rs)))

pub marks_living : (words : List (List ℕ)) (layer : LayerValue) → living_marks layer.dead (map (has_some words) layer.rows) ≡ count_by (has_some words) (living layer)
marks_living words layer = marked_from (has_some words) (λ row. not (is_dead layer row)) 0 layer.rows

-- one mark more
enumerated : {X : Type 0} (n : ℕ) (xs : List X) (x : X) → enumerate_from n (xs ++ x ∷ []) ≡ enumerate_from n xs ++ (n + length xs, x) ∷ []
enumerated n [] x = ap (λ m. (m, x) ∷ []) (sym (add-zero n))
enumerated n (y ∷ ys) x = ap (λ es. (n, y) ∷ es) (enumerated (n + 1) ys x ∙ ap (λ m. enumerate_from (n + 1) ys ++ (m, x) ∷ []) (shift n (length ys)))
  where
    shift : (n k : ℕ) → n + 1 + k ≡ n + suc k
    shift n k = omega arith

count_last : {X : Type 0} (p : X → Bool) (xs : List X) (x : X) → count_by p (xs ++ x ∷ []) ≡ count_by p xs + cond (p x) 1 0
count_last p [] x = count_cond p x [] ∙ none (cond (p x) 1 0)
  where
    none : (n : ℕ) → n + 0 ≡ 0 + n
    none n = omega arith
count_last p (y ∷ ys) x =
    let one = count_cond p y (ys ++ x ∷ []) in
    let rest = count_last p ys x in
    let here = count_cond p y ys in
    omega (arith, one, rest, here)

pub mark_more : (dead : List ℕ) (marks : List Bool) (mark : Bool) → living_marks dead (marks ++ mark ∷ []) ≡ living_marks dead marks + cond (mark && lives_among dead (length marks)) 1 0
mark_more dead marks mark =
    ap (count_by (λ (e : ℕ × Bool). e.1 && lives_among dead e.0)) (enumerated 0 marks mark)
    ∙ count_last (λ (e : ℕ × Bool). e.1 && lives_among dead e.0) (enumerate_from 0 marks) (0 + length marks, mark)
    ∙ ap (λ m. living_marks dead marks + cond (mark && lives_among dead m) 1 0) (zero_less (length marks))
  where
    zero_less : (k : ℕ) → 0 + k ≡ k
    zero_less k = omega arith

pub marks_step : (dead : List ℕ) (marks : List Bool) (row count next docs : ℕ) → row < length marks → count ≡ docs + living_marks dead (take row marks) → next ≡ count + cond (get_or marks row false && lives_among dead row) 1 0 → next ≡ docs + living_marks dead (take (row + 1) marks)
marks_step dead marks row count next docs low was told =
    let mark = get_or marks row false in
    let size : length (take row marks) ≡ row = length-take-le row marks (omega (arith, low)) in
    let more : living_marks dead (take (row + 1) marks) ≡ living_marks dead (take row marks) + cond (mark && lives_among dead row) 1 0 =
    ap (living_marks dead) (take_more marks row false low) ∙ mark_more dead (take row marks) mark ∙ ap (λ k. living_marks dead (take row marks) + cond (mark && lives_among dead k) 1 0) size in
    omega (arith, was, told, more)

-- ---- one word more

pub marked_more : (rows : List DocRow) (words : List (List ℕ)) (i : ℕ) (word : List ℕ) (marks new : List Bool) → AreMarked rows (take i words) marks → i < length words → word ≡ get_or words i word → length new ≡ length marks
    → ((row : ℕ) → row < length marks → is_marked new row ≡ (is_marked marks row || is_row_of (rows_with word rows) row)) → AreMarked rows (take (i + 1) words) new
marked_more rows words i word marks new was low at long told = record {
  long = long ∙ was.long;
  each = λ k doc here.
      let within : k < length marks = let size = was.long in let below = slice_get_within rows k doc here in omega (arith, size, below) in
      told k within ∙ ap (λ b. b || is_row_of (rows_with word rows) k) (was.each k doc here) ∙ ap (λ b. has_some (take i words) doc || b) (row_has word rows k doc here)
      ∙ ap (λ w. has_some (take i words) doc || has_word w doc) at ∙ sym (list_any_more (λ w. has_word w doc) words i word low);
}

-- marks that were written back
pub written_back : (n : ℕ) (old new : List Bool) → length new ≡ length old → n ≡ length old → take n (new ++ drop (length new) old) ≡ new
written_back n old new long size =
    let whole : drop (length new) old ≡ [] = drop_all (length new) old (omega (arith, long)) in
    ap (λ rest. take n (new ++ rest)) whole ∙ ap (take n) (append-nil new) ∙ take_all n new (omega (arith, long, size))

pub none_marked : (rows : List DocRow) (marks : List Bool) (n : ℕ) → n ≡ length rows → marks ≡ replicate n false → AreMarked rows [] marks
none_marked rows marks n size is = record {
  long = ap (λ (ms : List Bool). length ms) is ∙ length-replicate n false ∙ size;
  each = λ k doc here. ap (λ ms. get_or ms k false) is ∙ get_or-replicate n k false false (let below = slice_get_within rows k doc here in omega (arith, size, below));
}
