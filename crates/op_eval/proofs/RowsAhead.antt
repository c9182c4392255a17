-- The numbers of rows from one on that pass, row by row.
use Rattle.std.proofs.Common.{◌≡◌, ℕ, ◌+◌, ◌-◌, ◌<◌, ◌≤◌, zero, suc, Bool, true, false, cond, List, [], ◌∷◌, ◌++◌, length, map, get_or, refl, sym, ap, ◌∙◌, subst, arith}
use Rattle.std.specs.Prelude.{drop}
use Rattle.std.specs.List.{filter, enumerate_from}
use Rattle.std.proofs.lemmas.List.{at_drop_all, at_drop_more}
use Rattle.std.proofs.lemmas.List.FromFn.{length-enumerate_from, get_or-enumerate_from}
use Rattle.op_eval.specs.steps.Wanted.{numbers_from}

module _ {X : Type 0} (passes : ℕ × X → Bool) where
  abbrev numbers_of_pairs : List (ℕ × X) → List ℕ
  numbers_of_pairs es = map (λ e. e.0) (filter passes es)

  one_before : (b : Bool) (e : ℕ × X) (es : List (ℕ × X)) → passes e ≡ b → numbers_of_pairs (e ∷ es) ≡ cond b (e.0 ∷ []) [] ++ numbers_of_pairs es
  one_before true e es is = rw is refl
  one_before false e es is = rw is refl

  -- one row is left behind
  pub row_ahead : (xs : List X) (i : ℕ) (x : X) (b : Bool) → i < length xs → passes (i, get_or xs i x) ≡ b → numbers_from passes i xs ≡ cond b (i ∷ []) [] ++ numbers_from passes (i + 1) xs
  row_ahead xs i x b within is =
      let es : List (ℕ × X) = enumerate_from 0 xs in
      let zeroth : 0 + i ≡ i = omega arith in
      let here : get_or es i (i, x) ≡ (i, get_or xs i x) = get_or-enumerate_from 0 xs i (i, x) within ∙ ap (λ n. (n, get_or xs i x)) zeroth in
      at_drop_more numbers_of_pairs es i (i, x) (omega (arith, within, length-enumerate_from 0 xs))
      ∙ ap (λ (e : ℕ × X). numbers_of_pairs (e ∷ drop (i + 1) es)) here
      ∙ one_before b (i, get_or xs i x) (drop (i + 1) es) is

  -- some that don't pass
  some_ahead : (xs : List X) (low more : ℕ) (x : X) → low + more ≤ length xs → ((i : ℕ) → low ≤ i → i < low + more → passes (i, get_or xs i x) ≡ false) → numbers_from passes low xs ≡ numbers_from passes (low + more) xs
  some_ahead xs low zero x within none = let same : low + 0 ≡ low = omega arith in ap (λ n. numbers_from passes n xs) (sym same)
  some_ahead xs low (suc more) x within none =
      let next : low + more + 1 ≡ low + suc more = omega arith in
      some_ahead xs low more x (omega arith) (λ i above below. none i above (omega arith))
      ∙ row_ahead xs (low + more) x false (omega arith) (none (low + more) (omega arith) (omega arith))
      ∙ ap (λ n. numbers_from passes n xs) next

  pub none_ahead : (xs : List X) (low high : ℕ) (x : X) → low ≤ high → high ≤ length xs → ((i : ℕ) → low ≤ i → i < high → passes (i, get_or xs i x) ≡ false) → numbers_from passes low xs ≡ numbers_from passes high xs
  none_ahead xs low high x up within none =
      let end : low + (high - low) ≡ high = omega arith in
      subst (λ n. numbers_from passes low xs ≡ numbers_from passes n xs) end
      (some_ahead xs low (high - low) x (omega arith) (λ i above below. none i above (omega arith)))

  -- no row is left
  pub end_ahead : (xs : List X) (n : ℕ) → length xs ≤ n → numbers_from passes n xs ≡ []
  end_ahead xs n long = at_drop_all numbers_of_pairs (enumerate_from 0 xs) n (omega (arith, long, length-enumerate_from 0 xs))
