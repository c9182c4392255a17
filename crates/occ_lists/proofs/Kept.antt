-- What a filter keeps of a list: all, nothing, or a part whose elements stand side by side.
use Rattle.std.proofs.Common.{◌≡◌, ℕ, ◌+◌, ◌<◌, ◌≤◌, Bool, true, false, ◌&&◌, cond, List, [], ◌∷◌, ◌++◌, length, length-take, length-drop, get_or-take, get_or-drop, take, drop, refl, sym, ap, ◌∙◌, subst, inl, inr, arith}
use Rattle.std.specs.List.{All, AllWithin, filter, slice_range}
use Rattle.std.proofs.lemmas.Bool.{cases_Bool, cases_lt}
use Rattle.std.proofs.lemmas.List.{append-nil}
use Rattle.std.proofs.lemmas.List.Elements.{All-head, All-tail, filter-append}
use Rattle.std.proofs.lemmas.List.Edits.{split_between, get_or-between, length-between}

module _ {X : Type 0} (p : X → Bool) where
  -- no element passes
  pub filter_none : (xs : List X) → All (λ x. p x ≡ false) xs → filter p xs ≡ []
  filter_none [] all = refl
  filter_none (x ∷ xs) all =
      let here : p x ≡ false = All-head (λ y. p y ≡ false) x xs all in
      let rest : filter p xs ≡ [] = filter_none xs (All-tail (λ y. p y ≡ false) x xs all) in
      ap (λ t. cond t (x ∷ filter p xs) (filter p xs)) here ∙ rest

  -- each element passes
  pub filter_all : (xs : List X) → All (λ x. p x ≡ true) xs → filter p xs ≡ xs
  filter_all [] all = refl
  filter_all (x ∷ xs) all =
      let here : p x ≡ true = All-head (λ y. p y ≡ true) x xs all in
      let rest : filter p xs ≡ xs = filter_all xs (All-tail (λ y. p y ≡ true) x xs all) in
      ap (λ t. cond t (x ∷ filter p xs) (filter p xs)) here ∙ ap (λ ys. x ∷ ys) rest

  -- those that pass two tests, one after the other
  pub filter_filter : (q : X → Bool) (xs : List X) → filter p (filter q xs) ≡ filter (λ x. q x && p x) xs
  filter_filter q [] = refl
  filter_filter q (x ∷ xs) = elim (cases_Bool (q x)) [
    | inl passes ↦
        ap (λ t. filter p (cond t (x ∷ filter q xs) (filter q xs))) passes
        ∙ ap (λ ys. cond (p x) (x ∷ ys) ys) (filter_filter q xs)
        ∙ ap (λ t. cond (t && p x) (x ∷ filter (λ y. q y && p y) xs) (filter (λ y. q y && p y) xs)) (sym passes)
    | inr fails ↦
        ap (λ t. filter p (cond t (x ∷ filter q xs) (filter q xs))) fails
        ∙ filter_filter q xs
        ∙ ap (λ t. cond (t && p x) (x ∷ filter (λ y. q y && p y) xs) (filter (λ y. q y && p y) xs)) (sym fails)
  ]

  -- those that pass stand at the places from one to another
  pub filter_range : (xs : List X) (from to : ℕ) → from ≤ to → to ≤ length xs → AllWithin (λ x. p x ≡ false) xs 0 from → AllWithin (λ x. p x ≡ true) xs from to → AllWithin (λ x. p x ≡ false) xs to (length xs) → filter p xs ≡ slice_range xs from to
  filter_range xs from to up within below inside above =
      let front : filter p (take from xs) ≡ [] = filter_none (take from xs) (λ k d h.
      let l : k < from = omega (arith, length-take from xs) in
      subst (λ (x : X). p x ≡ false) (sym (get_or-take from xs k d l)) (below k d (omega arith) l)) in
      let middle : filter p (slice_range xs from to) ≡ slice_range xs from to = filter_all (slice_range xs from to) (λ k d h.
      let l : from + k < to = omega (arith, length-between xs from to within) in
      subst (λ (x : X). p x ≡ true) (sym (get_or-between xs from to k d l)) (inside (from + k) d (omega arith) l)) in
      let back : filter p (drop to xs) ≡ [] = filter_none (drop to xs) (λ k d h.
      let l : to + k < length xs = omega (arith, length-drop to xs) in
      subst (λ (x : X). p x ≡ false) (sym (get_or-drop to xs k d)) (above (to + k) d (omega arith) l)) in
      ap (filter p) (split_between xs from to up)
      ∙ filter-append p (take from xs) (slice_range xs from to ++ drop to xs)
      ∙ ap (λ ys. ys ++ filter p (slice_range xs from to ++ drop to xs)) front
      ∙ filter-append p (slice_range xs from to) (drop to xs)
      ∙ ap (λ ys. filter p (slice_range xs from to) ++ ys) back
      ∙ append-nil (filter p (slice_range xs from to))
      ∙ middle

  -- those before one place don't pass, nor those from another place on that isn't after it
  pub filter_nowhere : (xs : List X) (from to : ℕ) → to ≤ from → AllWithin (λ x. p x ≡ false) xs 0 from → AllWithin (λ x. p x ≡ false) xs to (length xs) → filter p xs ≡ []
  filter_nowhere xs from to down below above = filter_none xs (λ k d h. elim (cases_lt k from) [
    | inl before ↦ below k d (omega arith) before
    | inr after ↦ above k d (omega arith) h
  ])
