-- Rows that live and have a word.
use Rattle.std.proofs.Common.{◌≡◌, ℕ, ◌+◌, ◌<◌, List, [], ◌∷◌, Bool, true, false, cond, ◌||◌, Some, slice_get, length, map, drop, refl, sym, ap, ◌∙◌, arith}
use Rattle.std.specs.List.{filter, flat_map, list_any, enumerate_from}
use Rattle.std.proofs.lemmas.List.Folds.{list_any-append}
use Rattle.doc_types.specs.declared.documents.DocRow.{DocRow}
use Rattle.doc_types.specs.Chunks.{CursorPlace, has_word, next_row, rows_with}
use Rattle.prefix_terms.specs.steps.Parts.{PartValue, is_alive, living_of}

abbrev alive_rows : List ℕ → ℕ → List DocRow → List DocRow
alive_rows dead n rows = map (λ (e : ℕ × DocRow). e.1) (filter (λ e. is_alive dead e.0) (enumerate_from n rows))

abbrev worded : List ℕ → ℕ → List DocRow → List ℕ
worded word n rows = map (λ (e : ℕ × DocRow). e.0) (filter (λ e. has_word word e.1) (enumerate_from n rows))

one_more : (alive has rest rows : Bool) → rest ≡ rows → cond alive (has || rest) rest ≡ cond has (alive || rows) rows
one_more true true rest rows e = refl
one_more true false rest rows e = e
one_more false true rest rows e = e
one_more false false rest rows e = e

any_cond : {X : Type 0} (test : X → Bool) (b : Bool) (x : X) (xs : List X) → list_any test (cond b (x ∷ xs) xs) ≡ cond b (test x || list_any test xs) (list_any test xs)
any_cond test true x xs = refl
any_cond test false x xs = refl

map_cond : {X Y : Type 0} (f : X → Y) (b : Bool) (x : X) (xs : List X) → map f (cond b (x ∷ xs) xs) ≡ cond b (f x ∷ map f xs) (map f xs)
map_cond f true x xs = refl
map_cond f false x xs = refl

living_from : (word dead : List ℕ) (n : ℕ) (rows : List DocRow) → list_any (has_word word) (alive_rows dead n rows) ≡ list_any (is_alive dead) (worded word n rows)
living_from word dead n [] = refl
living_from word dead n (r ∷ rs) =
    ap (list_any (has_word word)) (map_cond (λ (e : ℕ × DocRow). e.1) (is_alive dead n) (n, r) (filter (λ e. is_alive dead e.0) (enumerate_from (n + 1) rs)))
    ∙ any_cond (has_word word) (is_alive dead n) r (alive_rows dead (n + 1) rs)
    ∙ one_more (is_alive dead n) (has_word word r) (list_any (has_word word) (alive_rows dead (n + 1) rs)) (list_any (is_alive dead) (worded word (n + 1) rs)) (living_from word dead (n + 1) rs)
    ∙ sym (any_cond (is_alive dead) (has_word word r) n (worded word (n + 1) rs))
    ∙ ap (list_any (is_alive dead)) (sym (map_cond (λ (e : ℕ × DocRow). e.0) (has_word word r) (n, r) (filter (λ e. has_word word e.1) (enumerate_from (n + 1) rs))))

-- some row that lives has the word where one of the rows that have it lives
pub living_with : (word : List ℕ) (part : PartValue) → list_any (has_word word) (living_of part) ≡ list_any (is_alive part.dead) (rows_with word part.rows)
living_with word part = living_from word part.dead 0 part.rows

-- the first of the rows ahead
pub first_ahead : (test : ℕ → Bool) (place : CursorPlace) (row : ℕ) → next_row place ≡ Some row → list_any test place.ahead ≡ (test row || list_any test (drop 1 place.ahead))
first_ahead test place row next = by_list place.ahead next where
  by_list : (ahead : List ℕ) → slice_get ahead 0 ≡ Some row → list_any test ahead ≡ (test row || list_any test (drop 1 ahead))
  by_list [] e = absurd cc
  by_list (first ∷ ahead) e = let same : first ≡ row = cc in ap (λ n. test n || list_any test ahead) same

pub some_ahead : (place : CursorPlace) (row : ℕ) → next_row place ≡ Some row → 0 < length place.ahead
some_ahead place row next = by_list place.ahead next where
  by_list : (ahead : List ℕ) → slice_get ahead 0 ≡ Some row → 0 < length ahead
  by_list [] e = absurd cc
  by_list (first ∷ ahead) e = omega arith

-- a word that a living row has is in some row
pub has_rows : (word : List ℕ) (part : PartValue) → list_any (has_word word) (living_of part) ≡ true → 0 < length (rows_with word part.rows)
has_rows word part lives = by_list (rows_with word part.rows) (sym (living_with word part) ∙ lives) where
  by_list : (rows : List ℕ) → list_any (is_alive part.dead) rows ≡ true → 0 < length rows
  by_list [] e = absurd cc
  by_list (row ∷ rows) e = omega arith

-- some element of joined lists passes where one of some list does
pub any_joined : {X Y : Type 0} (test : Y → Bool) (lists : X → List Y) (xs : List X) → list_any test (flat_map lists xs) ≡ list_any (λ x. list_any test (lists x)) xs
any_joined test lists [] = refl
any_joined test lists (x ∷ xs) = list_any-append test (lists x) (flat_map lists xs) ∙ ap (λ b. list_any test (lists x) || b) (any_joined test lists xs)
