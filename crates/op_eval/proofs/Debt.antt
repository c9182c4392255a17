-- The lists that rows may open, row by row and keyword by keyword.
use Rattle.std.proofs.Common.{arith, ◌≡◌, ◌≤◌, ◌<◌, ◌+◌, ◌-◌, refl, ap, ◌∙◌, subst, ℕ, zero, suc, Bool, true, false, cond, List, [], ◌∷◌, length, map, get_or, Result, Ok, Err, Option, Some, None, slice_get}
use Rattle.std.specs.Prelude.{drop, sum_by, count_by}
use Rattle.std.specs.List.{filter, enumerate_from}
use Rattle.std.specs.Result.{OnErr}
use Rattle.std.proofs.lemmas.List.Sums.{sum_by-cons}
use Rattle.std.proofs.lemmas.List.{at_drop_all, drop_more}
use Rattle.std.proofs.lemmas.Option.{slice_get-get_or}
use Rattle.doc_types.specs.declared.documents.DocRow.{DocRow}
use Rattle.doc_types.specs.Chunks.{has_word, rows_with}
use Rattle.query_tree.specs.declared.key.Key.{Key}
use Rattle.query_tree.specs.declared.query.Node.{Node}
use Rattle.query_tree.specs.TreeKeys.{node_keys, query_keys}
use Rattle.word_rows.specs.Keywords.{present_in}
use Rattle.op_eval.specs.Streams.{Stream, GoesOn}
use Rattle.op_eval.specs.Debts.{due, owed}

-- ---- row by row

module _ (keys : List Key) where
  pub due_step : (rows : List DocRow) (at : ℕ) (d : DocRow) → at < length rows → due rows keys at ≡ present_in (get_or rows at d) keys + due rows keys (at + 1)
  due_step rows at d within = ap (sum_by (λ row. present_in row keys)) (drop_more rows at d within) ∙ sum_by-cons (λ row. present_in row keys) (get_or rows at d) (drop (at + 1) rows)

  due_some : (rows : List DocRow) (at k : ℕ) → at + k ≤ length rows → due rows keys (at + k) ≤ due rows keys at
  due_some [] at k l = let same : at + k ≡ at = omega (arith, l) in omega (arith, ap (due [] keys) same)
  due_some (r ∷ rows) at zero l = let same : at + 0 ≡ at = omega arith in omega (arith, ap (due (r ∷ rows) keys) same)
  due_some (r ∷ rows) at (suc k) l =
      let same : at + suc k ≡ at + k + 1 = omega arith in
      omega (arith, due_some (r ∷ rows) at k (omega arith), due_step (r ∷ rows) (at + k) r (omega arith), ap (due (r ∷ rows) keys) same)

  pub due_falls : (rows : List DocRow) (at later : ℕ) → at ≤ later → later ≤ length rows → due rows keys later ≤ due rows keys at
  due_falls rows at later l within =
      let same : at + (later - at) ≡ later = omega (arith, l) in
      omega (arith, due_some rows at (later - at) (omega (arith, same, within)), ap (due rows keys) same)

  pub due_end : (rows : List DocRow) (at : ℕ) → length rows ≤ at → due rows keys at ≡ 0
  due_end rows at l = at_drop_all (sum_by (λ row. present_in row keys)) rows at l

-- ---- a stream's calls

pub row_owes : (old new : Stream) (next : Option ℕ) → GoesOn old next new → owed new ≤ owed old
row_owes old new None went = omega (arith, due_end (query_keys old.query) old.rows (length old.rows) (omega arith), ap owed went.1)
row_owes old new (Some row) went = omega (arith, due_falls (query_keys old.query) old.rows old.at row went.on (omega (arith, went.within)), ap owed went.stands)

-- what the row may open
row_due : (keys : List Key) (rows : List DocRow) (at start steps : ℕ) → at < length rows → ((doc : DocRow) → slice_get rows at ≡ Some doc → steps ≤ start + present_in doc keys) → steps + due rows keys (at + 1) ≤ start + due rows keys at
row_due keys [] at start steps within count = absurd (omega (arith, within))
row_due keys (r ∷ rows) at start steps within count =
    omega (arith, count (get_or (r ∷ rows) at r) (slice_get-get_or (r ∷ rows) at r within), due_step keys (r ∷ rows) at r within)

-- and what those up to it may open, by the tree of a search
pub row_due_of : (root tree : Node) (rows : List DocRow) (from row start steps : ℕ) → tree ≡ root → from ≤ row → row < length rows → ((doc : DocRow) → slice_get rows row ≡ Some doc → steps ≤ start + present_in doc (node_keys tree)) → steps + due rows (node_keys root) (row + 1) ≤ start + due rows (node_keys root) from
row_due_of root tree rows from row start steps same on within count =
    let keys = node_keys root in
    omega (
      arith,
      row_due keys rows row start steps within (λ doc here. subst (λ (node : Node). steps ≤ start + present_in doc (node_keys node)) same (count doc here)),
      due_falls keys rows from row on (omega (arith, within)),
    )

module _ (old : Stream) (start steps : ℕ) (within : old.at < length old.rows) (count : (doc : DocRow) → slice_get old.rows old.at ≡ Some doc → steps ≤ start + present_in doc (query_keys old.query)) where
  pub take_owes : (new : Stream) → new ≡ record old { at = old.at + 1 } → steps + owed new ≤ start + owed old
  take_owes new stands = omega (arith, row_due (query_keys old.query) old.rows old.at start steps within count, ap owed stands)

  pub fail_owes : steps ≤ start + owed old
  fail_owes = omega (arith, row_due (query_keys old.query) old.rows old.at start steps within count)

-- ---- keyword by keyword

module _ {X : Type 0} (p : X → Bool) where
  abbrev numbers : ℕ → List X → List ℕ
  numbers n xs = map (λ e. e.0) (filter (λ e. p e.1) (enumerate_from n xs))

  length_by : (b : Bool) (n : ℕ) (x : X) (xs : List X)
      → length (map (λ e. e.0) (cond b ((n, x) ∷ filter (λ e. p e.1) (enumerate_from (n + 1) xs)) (filter (λ e. p e.1) (enumerate_from (n + 1) xs)))) ≡ cond b 1 0 + length (numbers (n + 1) xs)
  length_by true n x xs = omega arith
  length_by false n x xs = omega arith

  length_numbers : (n : ℕ) (xs : List X) → length (numbers n xs) ≡ count_by p xs
  length_numbers n [] = refl
  length_numbers n (x ∷ xs) = omega (arith, length_by (p x) n x xs, length_numbers (n + 1) xs, sum_by-cons (λ y. cond (p y) 1 0) x xs)

sum_both : {X : Type 0} (f g : X → ℕ) (xs : List X) → sum_by (λ x. f x + g x) xs ≡ sum_by f xs + sum_by g xs
sum_both f g [] = refl
sum_both f g (x ∷ xs) = omega (arith, sum_both f g xs, sum_by-cons (λ y. f y + g y) x xs, sum_by-cons f x xs, sum_by-cons g x xs)

sum_none : {X : Type 0} (xs : List X) → sum_by (λ (x : X). 0) xs ≡ 0
sum_none [] = refl
sum_none (x ∷ xs) = omega (arith, sum_none xs, sum_by-cons (λ y. 0) x xs)

sum_same : {X : Type 0} (f g : X → ℕ) → ((x : X) → f x ≡ g x) → (xs : List X) → sum_by f xs ≡ sum_by g xs
sum_same f g same xs = ap (λ (h : _ → ℕ). sum_by h xs) (λ i x. same x i)

pub due_all : (rows : List DocRow) (keys : List Key) → due rows keys 0 ≡ sum_by (λ key. length (rows_with key.word rows)) keys
due_all rows [] = sum_none rows
due_all rows (key ∷ keys) =
    let split : due rows (key ∷ keys) 0 ≡ sum_by (λ row. cond (has_word key.word row) 1 0 + present_in row keys) rows =
    sum_same (λ row. present_in row (key ∷ keys)) (λ row. cond (has_word key.word row) 1 0 + present_in row keys) (λ row. sum_by-cons (λ (k : Key). cond (has_word k.word row) 1 0) key keys) rows in
    omega (
      arith,
      split,
      sum_both (λ row. cond (has_word key.word row) 1 0) (λ row. present_in row keys) rows,
      length_numbers (has_word key.word) 0 rows,
      due_all rows keys,
      sum_by-cons (λ (k : Key). length (rows_with k.word rows)) key keys,
    )

-- ---- what is so whatever a call answered

pub on_err : {T E : Type 0} (Q : Type 0) (r : Result T E) → Q → OnErr r Q
on_err Q (Ok x) q = tt
on_err Q (Err e) q = q
