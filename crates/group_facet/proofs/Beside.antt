-- Lists side by side, read or changed in place one element after the other.
use Rattle.std.proofs.Common.{◌≡◌, ℕ, ◌+◌, ◌<◌, ◌≤◌, List, [], ◌∷◌, ◌++◌, length, take, drop, get_or, set, sym, ap, subst, ◌∙◌, arith}
use Rattle.std.specs.List.{AllZip}
use Rattle.std.proofs.lemmas.List.{drop-set-lt, drop_more, length-drop, take_all, take_more, take_more_set}
use Rattle.indexmap.proofs.SetLemmas.{AllZip-push}

module _ {A B : Type 0} (R : A → B → Type 0) where
  -- one more of a list that is read beside one that grows
  pub zip_more : (xs : List A) (i : ℕ) (d : A) (ys after : List B) (y : B) → i < length xs → after ≡ ys ++ y ∷ [] → AllZip R (take i xs) ys → R (get_or xs i d) y → AllZip R (take (i + 1) xs) after
  zip_more xs i d ys after y within more all one =
      subst (λ front. AllZip R front after) (sym (take_more xs i d within)) (subst (AllZip R (take i xs ++ get_or xs i d ∷ [])) (sym more) (AllZip-push R (take i xs) ys (get_or xs i d) y all one))

  pub zip_whole : (xs : List A) (i : ℕ) (ys : List B) → length xs ≤ i → AllZip R (take i xs) ys → AllZip R xs ys
  zip_whole xs i ys past all = subst (λ front. AllZip R front ys) (take_all i xs past) all

module _ {A : Type 0} (R : A → A → Type 0) (old : List A) where
  -- a list is changed up to some place, and as it was from there on
  pub record IsAmid (i : ℕ) (now : List A) : Type 0 where
    pub changed : AllZip R (take i old) (take i now)
    pub left : drop i now ≡ drop i old

  pub amid_first : (now : List A) → now ≡ old → IsAmid 0 now
  amid_first now same = record { changed = tt; left = same }

  pub amid_more : (i : ℕ) (now : List A) (d y : A) → i < length now → R (get_or now i d) y → IsAmid i now → IsAmid (i + 1) (set now i y)
  amid_more i now d y low goes amid =
      let inside : i < length old = omega (arith, low, length-drop i now, length-drop i old, ap length amid.left) in
      let same : get_or now i d ≡ get_or old i d =
      sym (ap (λ xs. get_or xs 0 d) (drop_more now i d low)) ∙ ap (λ xs. get_or xs 0 d) amid.left ∙ ap (λ xs. get_or xs 0 d) (drop_more old i d inside) in
      record {
        changed = zip_more R old i d (take i now) (take (i + 1) (set now i y)) y inside (take_more_set now i y low) amid.changed (subst (λ x. R x y) same goes);
        left = drop-set-lt (i + 1) now i y (omega arith) ∙ sym (ap (drop 1) (drop_more now i y low)) ∙ ap (drop 1) amid.left ∙ ap (drop 1) (drop_more old i y inside);
      }

  pub amid_last : (i : ℕ) (now : List A) → length old ≤ i → length now ≤ i → IsAmid i now → AllZip R old now
  amid_last i now past now_past amid = subst (AllZip R old) (take_all i now now_past) (zip_whole R old i (take i now) past amid.changed)
