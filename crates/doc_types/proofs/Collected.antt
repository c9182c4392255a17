-- What a tree of words has after a row was added to one of them.
use Rattle.std.proofs.Common.{◌≡◌, ℕ, ◌+◌, ◌<◌, List, [], ◌∷◌, ◌++◌, Bool, true, false, cond, ◌||◌, Option, Some, None, refl, sym, ap, ◌∙◌, length, arith, take, get_or, slice_get, ◌-◌, eq-eqb, length-append, suc, zero}
use Rattle.std.specs.List.{list_any}
use Rattle.std.proofs.lemmas.List.Folds.{list_any-append}
use Rattle.std.proofs.lemmas.List.{take_more}
use Rattle.std.specs.Option.{option_map}
use Rattle.std.specs.Ordering.{is_eq, nat_cmp}
use Rattle.std.specs.Cmp.Lexicographic.{slice_cmp}
use Rattle.std.specs.Str.{bytes_eq}
use Rattle.std.proofs.lemmas.Map.Text.{is_eq-slice_cmp}
use Rattle.std.proofs.lemmas.Slice.Eq.{bytes_eq-Decides}
use Rattle.doc_types.specs.steps.Collecting.{ended_by, ends_in, with_row}

written : {V : Type 0} (items : V → List ℕ) (b : Bool) (o : Option V) (old new : V) (row : ℕ) → (b ≡ true → o ≡ Some old) → items new ≡ ended_by row (items old) → option_map items (cond b (Some new) o) ≡ with_row row b (option_map items o)
written items true o old new row at e = rw (at refl) (ap Some e)
written items false o old new row at e = refl

begun : {V : Type 0} (items : V → List ℕ) (b : Bool) (o : Option V) (new : V) (row : ℕ) → (b ≡ true → o ≡ None) → items new ≡ row ∷ [] → option_map items (cond b (Some new) o) ≡ with_row row b (option_map items o)
begun items true o new row at e = rw (at refl) (ap Some e)
begun items false o new row at e = refl

module _ {V : Type 0} (items : V → List ℕ) (before after : List ℕ → Option V) (word : List ℕ) (new : V) (row : ℕ) (updates : (q : List ℕ) → after q ≡ cond (is_eq (slice_cmp nat_cmp word q)) (Some new) (before q)) where
  turned : (w : List ℕ) → after w ≡ cond (bytes_eq word w) (Some new) (before w)
  turned w = updates w ∙ ap (λ b. cond b (Some new) (before w)) (is_eq-slice_cmp word w)

  there : (o : Option V) → before word ≡ o → (w : List ℕ) → bytes_eq word w ≡ true → before w ≡ o
  there o e w h = sym (ap before ((bytes_eq-Decides word w).0 h)) ∙ e

  pub one_more : (old : V) → before word ≡ Some old → items new ≡ ended_by row (items old) → (w : List ℕ) → option_map items (after w) ≡ with_row row (bytes_eq word w) (option_map items (before w))
  one_more old e grown w = ap (option_map items) (turned w) ∙ written items (bytes_eq word w) (before w) old new row (there (Some old) e w) grown

  pub first_one : before word ≡ None → items new ≡ row ∷ [] → (w : List ℕ) → option_map items (after w) ≡ with_row row (bytes_eq word w) (option_map items (before w))
  first_one e grown w = ap (option_map items) (turned w) ∙ begun items (bytes_eq word w) (before w) new row (there None e w) grown

slice_end : (n : ℕ) (xs : List ℕ) (k : ℕ) → k ≡ length xs → slice_get (xs ++ n ∷ []) k ≡ Some n
slice_end n [] k e = rw e refl
slice_end n (x ∷ xs) zero e = absurd (omega (arith, e))
slice_end n (x ∷ xs) (suc k) e = slice_end n xs k (omega (arith, e))

or_false : (b : Bool) → (b || false) ≡ b
or_false true = refl
or_false false = refl

last_is : (n : ℕ) (xs : List ℕ) → ends_in n (xs ++ n ∷ []) ≡ true
last_is n xs =
    let at : slice_get (xs ++ n ∷ []) (length (xs ++ n ∷ []) - 1) ≡ Some n = slice_end n xs (length (xs ++ n ∷ []) - 1) (omega (arith, length-append xs (n ∷ []))) in
    rw at (eq-eqb n n refl)

again : (n : ℕ) (xs : List ℕ) (b : Bool) → ends_in n xs ≡ b → ended_by n (cond b xs (xs ++ n ∷ [])) ≡ cond b xs (xs ++ n ∷ [])
again n xs true e = rw e refl
again n xs false e = rw (last_is n xs) refl

ended_twice : (n : ℕ) (xs : List ℕ) → ended_by n (ended_by n xs) ≡ ended_by n xs
ended_twice n xs = again n xs (ends_in n xs) refl

with_row_twice : (n : ℕ) (a b : Bool) (rows : Option (List ℕ)) → with_row n b (with_row n a rows) ≡ with_row n (a || b) rows
with_row_twice n false b rows = refl
with_row_twice n true false rows = refl
with_row_twice n true true None = ap Some (again n [] false refl)
with_row_twice n true true (Some rows) = ap Some (ended_twice n rows)

-- one more element that may have the word
pub more_words : {X : Type 0} (p : X → Bool) (xs : List X) (i : ℕ) (x : X) (n : ℕ) (start now after : Option (List ℕ)) → i < length xs → x ≡ get_or xs i x → now ≡ with_row n (list_any p (take i xs)) start → after ≡ with_row n (p x) now → after ≡ with_row n (list_any p (take (i + 1) xs)) start
more_words p xs i x n start now after h e was is =
    let grown : list_any p (take (i + 1) xs) ≡ (list_any p (take i xs) || p x) =
    ap (list_any p) (take_more xs i x h) ∙ list_any-append p (take i xs) (get_or xs i x ∷ []) ∙ ap (λ b. list_any p (take i xs) || b) (or_false (p (get_or xs i x)) ∙ ap p (sym e)) in
    is ∙ ap (with_row n (p x)) was ∙ with_row_twice n (list_any p (take i xs)) (p x) start ∙ ap (λ b. with_row n b start) (sym grown)
