-- Rows that are moved out one by one.
use Rattle.std.proofs.Common.{◌≡◌, ℕ, ◌+◌, ◌<◌, List, [], ◌∷◌, ◌++◌, length, get_or, set, take, drop, sym, ap, ◌∙◌, arith}
use Rattle.std.proofs.lemmas.List.{drop-set-lt, drop_more, length-drop, take_more}

-- at a place from which on nothing was moved yet
module _ {X : Type 0} (now old : List X) (i : ℕ) (low : i < length now) (left : drop i now ≡ drop i old) where
  inside : i < length old
  inside = omega (arith, low, length-drop i now, length-drop i old, ap length left)

  same_here : (d : X) → get_or now i d ≡ get_or old i d
  same_here d = sym (ap (λ xs. get_or xs 0 d) (drop_more now i d low)) ∙ ap (λ xs. get_or xs 0 d) left ∙ ap (λ xs. get_or xs 0 d) (drop_more old i d inside)

  pub one_more : (taken items : List X) (x d : X) → taken ≡ take i old → x ≡ get_or now i d → items ≡ taken ++ x ∷ [] → items ≡ take (i + 1) old
  one_more taken items x d so_far here is =
      is ∙ ap (λ xs. xs ++ x ∷ []) so_far ∙ ap (λ y. take i old ++ y ∷ []) (here ∙ same_here d) ∙ sym (take_more old i d inside)

  pub one_less : (y : X) → drop (i + 1) (set now i y) ≡ drop (i + 1) old
  one_less y = drop-set-lt (i + 1) now i y (omega arith) ∙ sym (ap (drop 1) (drop_more now i y low)) ∙ ap (drop 1) left ∙ ap (drop 1) (drop_more old i y inside)
