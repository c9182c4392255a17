-- Two lists side by side, and a list that is changed in place, one element after the other.
use Rattle.std.proofs.Common.{◌≡◌, ℕ, Bool, true, false, ◌+◌, ◌<◌, ◌≤◌, zero, suc, List, [], ◌∷◌, ◌++◌, length, take, drop, get_or, set, map, refl, sym, ap, subst, ◌∙◌, arith, add-zero, zero-add}
use Rattle.std.specs.List.{AllZip, list_all, range_with_len}
use Rattle.std.proofs.lemmas.Bool.{true_from_ne_false}
use Rattle.std.proofs.lemmas.List.Folds.{list_all_at}
use Rattle.std.proofs.lemmas.List.FromFn.{length-range_with_len, get_or-range_with_len}
use Rattle.std.proofs.lemmas.Grind.{drop_more_same}
use Rattle.std.proofs.lemmas.List.{take_more, take_more_set, drop-set-lt, get_or-drop, take_all, map_more, get_or-map, length-map}

module _ {A B : Type 0} (R : A → B → Type 0) where
  pub zip_push : (xs : List A) (ys : List B) (x : A) (y : B) → AllZip R xs ys → R x y → AllZip R (xs ++ x ∷ []) (ys ++ y ∷ [])
  zip_push [] [] x y all one = (one, tt)
  zip_push [] (b ∷ ys) x y all one = absurd all
  zip_push (a ∷ xs) [] x y all one = absurd all
  zip_push (a ∷ xs) (b ∷ ys) x y all one = (all.0, zip_push xs ys x y all.1 one)

  pub zip_at : (xs : List A) (ys : List B) (i : ℕ) (d : A) (e : B) → AllZip R xs ys → i < length xs → R (get_or xs i d) (get_or ys i e)
  zip_at [] ys i d e all within = absurd (omega arith)
  zip_at (a ∷ xs) [] i d e all within = absurd all
  zip_at (a ∷ xs) (b ∷ ys) zero d e all within = all.0
  zip_at (a ∷ xs) (b ∷ ys) (suc i) d e all within = zip_at xs ys i d e all.1 (omega arith)

  pub zip_length : (xs : List A) (ys : List B) → AllZip R xs ys → length xs ≡ length ys
  zip_length [] [] all = refl
  zip_length [] (b ∷ ys) all = absurd all
  zip_length (a ∷ xs) [] all = absurd all
  zip_length (a ∷ xs) (b ∷ ys) all = ap suc (zip_length xs ys all.1)

  -- from what holds at each place
  pub zip_by_place : (xs : List A) (ys : List B) → length xs ≡ length ys → ((i : ℕ) (d : A) (e : B) → i < length xs → R (get_or xs i d) (get_or ys i e)) → AllZip R xs ys
  zip_by_place [] [] long each = tt
  zip_by_place [] (b ∷ ys) long each = absurd (omega arith)
  zip_by_place (a ∷ xs) [] long each = absurd (omega arith)
  zip_by_place (a ∷ xs) (b ∷ ys) long each = (each 0 a b (omega arith), zip_by_place xs ys (omega arith) (λ i d e within. each (suc i) d e (omega arith)))

module _ {X A B : Type 0} (R : A → B → Type 0) (f : X → A) where
  -- one more of a list that is read beside one that grows
  pub zip_more : (xs : List X) (i : ℕ) (x : X) (ys after : List B) (y : B) → i < length xs → x ≡ get_or xs i x → after ≡ ys ++ y ∷ [] → AllZip R (map f (take i xs)) ys → R (f x) y → AllZip R (map f (take (i + 1) xs)) after
  zip_more xs i x ys after y within at more all one =
      let longer : map f (take (i + 1) xs) ≡ map f (take i xs) ++ f x ∷ [] = map_more f xs i x within ∙ ap (λ z. map f (take i xs) ++ f z ∷ []) (sym at) in
      rw (longer, more) (zip_push R (map f (take i xs)) ys (f x) y all one)

  -- what holds of one that is read
  pub zip_read : (xs : List X) (ys : List B) (i : ℕ) (x : X) (e : B) → AllZip R (map f xs) ys → i < length xs → x ≡ get_or xs i x → R (f x) (get_or ys i e)
  zip_read xs ys i x e all within at =
      let same : get_or (map f xs) i (f x) ≡ f x = get_or-map f xs i x (f x) within ∙ ap f (sym at) in
      subst (λ a. R a (get_or ys i e)) same (zip_at R (map f xs) ys i (f x) e all (omega (arith, within, length-map xs f)))

-- the list as it was up to this place, and the changed elements before it beside those that they were
pub record Changed {A : Type 0} (R : A → A → Type 0) (i : ℕ) (old new : List A) : Type 0 where
  pub done : AllZip R (take i old) (take i new)
  pub left : drop i new ≡ drop i old

module _ {A : Type 0} (R : A → A → Type 0) where
  pub changed_none : (xs : List A) → Changed R 0 xs xs
  changed_none xs = record { done = tt; left = refl }

  pub same_here : (i : ℕ) (old new : List A) (d : A) → Changed R i old new → get_or new i d ≡ get_or old i d
  same_here i old new d so =
      let here : get_or (drop i new) 0 d ≡ get_or new i d = rw get_or-drop (ap (λ n. get_or new n d) (add-zero i)) in
      let there : get_or (drop i old) 0 d ≡ get_or old i d = rw get_or-drop (ap (λ n. get_or old n d) (add-zero i)) in
      sym here ∙ ap (λ zs. get_or zs 0 d) so.left ∙ there

  pub changed_more : (i : ℕ) (old new : List A) (d y : A) → i < length old → length new ≡ length old → Changed R i old new → R (get_or new i d) y → Changed R (i + 1) old (set new i y)
  changed_more i old new d y within long so one =
      let last : R (get_or old i d) y = subst (λ x. R x y) (same_here i old new d so) one in
      record {
        done = rw (take_more old i d within, take_more_set new i y (omega arith)) (zip_push R (take i old) (take i new) (get_or old i d) y so.done last);
        left = drop-set-lt (i + 1) new i y (omega arith) ∙ drop_more_same new old i so.left;
      }

  pub changed_all : (i : ℕ) (old new : List A) → length old ≤ i → length new ≡ length old → Changed R i old new → AllZip R old new
  changed_all i old new past long so = rw (take_all i old past, take_all i new (omega arith)) at so.done

-- a test of each number below another one
pub each_in_range : (p : ℕ → Bool) (count : ℕ) → list_all p (range_with_len 0 count) ≡ true → (k : ℕ) → k < count → p k ≡ true
each_in_range p count all k within = true_from_ne_false (p k) (λ fails.
    let long : k < length (range_with_len 0 count) = omega (arith, length-range_with_len 0 count) in
    let here : get_or (range_with_len 0 count) k 0 ≡ k = get_or-range_with_len 0 count k 0 within ∙ zero-add k in
    let none : list_all p (range_with_len 0 count) ≡ false = list_all_at p (range_with_len 0 count) k 0 long (ap p here ∙ fails) in
    cc)
