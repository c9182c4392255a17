-- Each value once, where it stands first: with one value more at the end.
use Rattle.std.proofs.Common.{◌≡◌, ℤ, Bool, true, false, not, ◌||◌, List, [], ◌∷◌, ◌++◌, filter, if◌then◌else◌, refl, sym, ◌∙◌, ap}
use Rattle.std.specs.List.{list_any}
use Rattle.std.specs.Ordering.{int_eq}
use Rattle.std.proofs.lemmas.Bool.Decides.{Decides-int_eq}
use Rattle.std.proofs.lemmas.Cmp.{int_eq_equiv}
use Rattle.std.proofs.lemmas.List.{append-nil}
use Rattle.std.proofs.lemmas.List.Elements.{filter-append}
use Rattle.std.proofs.lemmas.Map.Views.{any-filter_same}
use Rattle.indexmap.specs.IndexSet.{insert_key}
use Rattle.group_facet.specs.Distinct.{first_seen}

abbrev differs : ℤ → ℤ → Bool
differs x later = not (int_eq x later)

-- the numbers that differ from one
abbrev others : ℤ → List ℤ → List ℤ
others x ys = filter (differs x) ys

turned : (x y : ℤ) (same : Bool) → int_eq y x ≡ same → int_eq x y ≡ same
turned x y same is = int_eq_equiv.symm x y ∙ is

kept_one : (p : ℤ → Bool) (y : ℤ) (keeps : Bool) → p y ≡ keeps → filter p (y ∷ []) ≡ (if keeps then y ∷ [] else [])
kept_one p y keeps is = ap (λ b. if b then y ∷ [] else []) is

put : (ks : List ℤ) (y : ℤ) (seen : Bool) → list_any (int_eq y) ks ≡ seen → insert_key int_eq ks y ≡ (if seen then ks else ks ++ y ∷ [])
put ks y seen is = ap (λ b. if b then ks else ks ++ y ∷ []) is

-- a number that differs from x is found among all where it is found among the others
among_others : (x y : ℤ) (ks : List ℤ) → int_eq x y ≡ false → list_any (int_eq y) (others x ks) ≡ list_any (int_eq y) ks
among_others x y ks is =
    any-filter_same (int_eq y) (differs x) true (λ k h. ap (differs x) (sym ((Decides-int_eq y k).0 h)) ∙ ap not is) ks

step : (x y : ℤ) (ks : List ℤ) (same seen : Bool) → int_eq y x ≡ same → list_any (int_eq y) ks ≡ seen → x ∷ others x (insert_key int_eq ks y) ≡ insert_key int_eq (x ∷ others x ks) y
step x y ks true true same seen =
    ap (λ l. x ∷ others x l) (put ks y true seen) ∙ sym (put (x ∷ others x ks) y true (ap (λ b. b || list_any (int_eq y) (others x ks)) same))
step x y ks true false same seen =
    ap (λ l. x ∷ others x l) (put ks y false seen) ∙ ap (λ l. x ∷ l) (filter-append (differs x) ks (y ∷ []))
    ∙ ap (λ l. x ∷ (others x ks ++ l)) (kept_one (differs x) y false (ap not (turned x y true same))) ∙ ap (λ l. x ∷ l) (append-nil (others x ks))
    ∙ sym (put (x ∷ others x ks) y true (ap (λ b. b || list_any (int_eq y) (others x ks)) same))
step x y ks false true same seen =
    ap (λ l. x ∷ others x l) (put ks y true seen)
    ∙ sym (put (x ∷ others x ks) y true (ap (λ b. b || list_any (int_eq y) (others x ks)) same ∙ among_others x y ks (turned x y false same) ∙ seen))
step x y ks false false same seen =
    ap (λ l. x ∷ others x l) (put ks y false seen) ∙ ap (λ l. x ∷ l) (filter-append (differs x) ks (y ∷ []))
    ∙ ap (λ l. x ∷ (others x ks ++ l)) (kept_one (differs x) y true (ap not (turned x y false same)))
    ∙ sym (put (x ∷ others x ks) y false (ap (λ b. b || list_any (int_eq y) (others x ks)) same ∙ among_others x y ks (turned x y false same) ∙ seen))

-- one value more
pub first_seen_push : (xs : List ℤ) (y : ℤ) → first_seen (xs ++ y ∷ []) ≡ insert_key int_eq (first_seen xs) y
first_seen_push [] y = refl
first_seen_push (x ∷ xs) y = ap (λ l. x ∷ others x l) (first_seen_push xs y) ∙ step x y (first_seen xs) (int_eq y x) (list_any (int_eq y) (first_seen xs)) refl refl

-- the values that are there are those that are seen
pub seen_any : (xs : List ℤ) (y : ℤ) → list_any (int_eq y) (first_seen xs) ≡ list_any (int_eq y) xs
seen_any [] y = refl
seen_any (x ∷ xs) y = by (int_eq y x) refl (seen_any xs y)
  where
    by : (same : Bool) → int_eq y x ≡ same → list_any (int_eq y) (first_seen xs) ≡ list_any (int_eq y) xs → list_any (int_eq y) (first_seen (x ∷ xs)) ≡ list_any (int_eq y) (x ∷ xs)
    by true is rest = ap (λ b. b || list_any (int_eq y) (others x (first_seen xs))) is ∙ sym (ap (λ b. b || list_any (int_eq y) xs) is)
    by false is rest = ap (λ b. int_eq y x || b) (among_others x y (first_seen xs) (turned x y false is) ∙ rest)
