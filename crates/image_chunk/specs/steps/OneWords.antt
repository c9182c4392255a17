-- The words of rows are one list, as they ascend.
use Rattle.std.proofs.Common.{◌≡◌, ℕ, ◌<◌, List, [], ◌∷◌, length, sym, ap, subst, ◌∙◌, arith, All, zero, suc, ◌⊎◌, inl, inr, refl}
use Rattle.std.specs.List.{AllPairs, Contains}
use Rattle.std.specs.Cmp.Lexicographic.{slice_cmp}
use Rattle.std.specs.Ordering.{nat_cmp, ordering_reverse}
use Rattle.std.specs.declared.cmp.Ordering.TheVariants.{Less, Greater}
use Rattle.std.proofs.lemmas.Cmp.{nat_list_cmp_total}
use Rattle.std.proofs.lemmas.List.Elements.{All-contains}
use Rattle.doc_types.specs.declared.documents.DocRow.{DocRow}
use Rattle.doc_types.specs.Chunks.{AreWordsOf, rows_with}

abbrev Below : List ℕ → List ℕ → Type 0
Below a b = slice_cmp nat_cmp a b ≡ Less

not_both : (a b : List ℕ) → Below a b → Below b a → ⊥
not_both a b ab ba = let turned : Less ≡ Greater = sym ab ∙ nat_list_cmp_total.antisymm a b ∙ ap ordering_reverse ba in absurd cc

first_or_later : (y x : List ℕ) (ys : List (List ℕ)) → Contains (y ∷ ys) x → (y ≡ x) ⊎ Contains ys x
first_or_later y x ys (zero, low, is) = inl is
first_or_later y x ys (suc k, low, is) = inr (k, omega (arith, low), is)

later : (y x : List ℕ) (ys : List (List ℕ)) → Contains ys x → Contains (y ∷ ys) x
later y x ys (k, low, is) = (suc k, omega (arith, low), is)

above : (y : List ℕ) (ys : List (List ℕ)) → AllPairs Below (y ∷ ys) → All (Below y) ys
above y ys ascend k d low = ascend 0 (suc k) d (omega arith) (omega (arith, low))

others : (y : List ℕ) (ys : List (List ℕ)) → AllPairs Below (y ∷ ys) → AllPairs Below ys
others y ys ascend i j d before low = ascend (suc i) (suc j) d (omega (arith, before)) (omega (arith, low))

-- what is in the one after its first word is in the other after its own
rest_in : (w v x : List ℕ) (ws vs : List (List ℕ)) → w ≡ v → AllPairs Below (w ∷ ws) → Contains ws x → Contains (v ∷ vs) x → Contains vs x
rest_in w v x ws vs same ascend here there =
    elim (first_or_later v x vs there) [
      | inl first ↦ let below : Below w x = All-contains (Below w) ws x (above w ws ascend) here in
          let own : Below w w = subst (Below w) (sym first ∙ sym same) below in absurd (not_both w w own own)
      | inr behind ↦ behind
    ]

one_list : (ws vs : List (List ℕ)) → AllPairs Below ws → AllPairs Below vs → ((x : List ℕ) → Contains ws x → Contains vs x) → ((x : List ℕ) → Contains vs x → Contains ws x) → ws ≡ vs
one_list [] [] aw av to back = refl
one_list [] (v ∷ vs) aw av to back = let (k, low, is) = back v (zero, omega arith, refl) in absurd (omega (arith, low))
one_list (w ∷ ws) [] aw av to back = let (k, low, is) = to w (zero, omega arith, refl) in absurd (omega (arith, low))
one_list (w ∷ ws) (v ∷ vs) aw av to back =
    let head : w ≡ v =
    elim (first_or_later v w vs (to w (zero, omega arith, refl))) [
      | inl same ↦ sym same
      | inr behind ↦ elim (first_or_later w v ws (back v (zero, omega arith, refl))) [
        | inl same ↦ same
        | inr its_behind ↦ absurd (not_both v w (All-contains (Below v) vs w (above v vs av) behind) (All-contains (Below w) ws v (above w ws aw) its_behind))
      ]
    ] in
    let tail : ws ≡ vs = one_list ws vs (others w ws aw) (others v vs av)
    (λ x here. rest_in w v x ws vs head aw here (to x (later w x ws here)))
    (λ x here. rest_in v w x vs ws (sym head) av here (back x (later v x vs here))) in
    cc

pub one_words : (rows : List DocRow) (ws vs : List (List ℕ)) → AreWordsOf rows ws → AreWordsOf rows vs → ws ≡ vs
one_words rows ws vs are its =
    one_list ws vs are.ascend its.ascend
    (λ x here. its.all x (All-contains (λ word. 0 < length (rows_with word rows)) ws x are.each here))
    (λ x here. are.all x (All-contains (λ word. 0 < length (rows_with word rows)) vs x its.each here))
