-- Occurrences sorted by their order are sorted by their words, and those of each word stand as they stood before.
use Rattle.std.proofs.Common.{◌≡◌, ℕ, ◌+◌, ◌<◌, List, [], ◌∷◌, Bool, true, false, cond, not, ◌&&◌, ◌||◌, refl, sym, ap, subst, ◌∙◌, arith, map, All}
use Rattle.std.specs.Cmp.{IsTotalOrder, IsStrictWeakOrder}
use Rattle.std.specs.List.{filter, list_any}
use Rattle.std.specs.List.Sorted.{IsPermutation, IsSortedBy, IsStableBy, ties}
use Rattle.std.specs.Str.{bytes_eq}
use Rattle.std.specs.Cmp.Lexicographic.{slice_cmp}
use Rattle.std.specs.Ordering.{is_eq, is_lt, nat_cmp, ordering_reverse, ordering_then}
use Rattle.std.specs.declared.cmp.Ordering.{Ordering}
use Rattle.std.specs.declared.cmp.Ordering.TheVariants.{Less, Equal, Greater}
use Rattle.std.proofs.lemmas.Cmp.{by_ranked, nat_cmp_total, nat_list_cmp_total, on_total, ranked, then_total, tied_itself}
use Rattle.std.proofs.lemmas.List.Elements.{All-head, All-tail}
use Rattle.std.proofs.lemmas.List.Sorted.{All-permutation, list_any-IsPermutation, ranks_by}
use Rattle.std.proofs.lemmas.Map.Text.{is_eq-slice_cmp}
use Rattle.std.proofs.lemmas.Slice.Eq.{bytes_eq-Decides}
use Rattle.doc_types.specs.declared.documents.Doc.{Doc}
use Rattle.image_write.specs.declared.gathering.Occurrence.{Occurrence}
use Rattle.image_write.specs.Heads.{head, tells}
use Rattle.image_write.specs.steps.Places.{AreFew, AreInOrder, HasHead, docs_places, is_at, order, place_at, rest_at, word_at}
use Rattle.image_write.proofs.Beginnings.{heads_order, told}
use Rattle.image_write.proofs.Occurring.{places_each}

-- lists of which each element has a property, by tests that agree there
same_tests : {X : Type 0} (p q : X → Bool) (xs : List X) → All (λ x. p x ≡ q x) xs → filter p xs ≡ filter q xs
same_tests p q [] all = refl
same_tests p q (x ∷ xs) all =
    ap (λ b. cond b (x ∷ filter p xs) (filter p xs)) (All-head (λ y. p y ≡ q y) x xs all)
    ∙ ap (λ l. cond (q x) (x ∷ l) l) (same_tests p q xs (All-tail (λ y. p y ≡ q y) x xs all))

none_pass : {X : Type 0} (p : X → Bool) (xs : List X) → list_any p xs ≡ false → filter p xs ≡ []
none_pass p [] e = refl
none_pass p (x ∷ xs) e =
    elim (p x) as (λ b. (b || list_any p xs) ≡ false → cond b (x ∷ filter p xs) (filter p xs) ≡ []) [
      | true ↦ λ h. absurd cc
      | false ↦ λ h. none_pass p xs h
    ] e

one_passes : {X : Type 0} (P : X → Type 0) (p : X → Bool) (xs : List X) → All P xs → list_any p xs ≡ true → (x : X) × (p x ≡ true) × P x
one_passes P p [] all e = absurd cc
one_passes P p (x ∷ xs) all e =
    elim (p x) as (λ b. p x ≡ b → (b || list_any p xs) ≡ true → (y : _) × (p y ≡ true) × P y) [
      | true ↦ λ here _. (x, here, All-head P x xs all)
      | false ↦ λ _ later. one_passes P p xs (All-tail P x xs all) later
    ] refl e

equal_part : (p q : Ordering) → is_eq (ordering_then p q) ≡ (is_eq p && is_eq q)
equal_part Less q = refl
equal_part Equal q = refl
equal_part Greater q = refl

less_turned : (o : Ordering) → is_lt o ≡ false → is_eq o ≡ false → o ≡ Greater
less_turned Less l e = absurd cc
less_turned Equal l e = absurd cc
less_turned Greater l e = refl

tied : (o : Ordering) → (not (is_lt o) && not (is_lt (ordering_reverse o))) ≡ is_eq o
tied Less = refl
tied Equal = refl
tied Greater = refl

module _ (docs : List Doc) where
  total : IsTotalOrder (order docs)
  total = then_total (on_total (λ (o : Occurrence). o.head) nat_cmp_total) (on_total (rest_at docs) nat_list_cmp_total)

  abbrev pub goes_before : Occurrence → Occurrence → Bool
  goes_before a b = is_lt (order docs a b)

  pub ranks : IsStrictWeakOrder goes_before
  ranks = ranks_by total (λ o. o)

  abbrev word_before : Occurrence → Occurrence → Bool
  word_before a b = is_lt (slice_cmp nat_cmp (word_at docs a) (word_at docs b))

  -- a head that tells the word, and one that doesn't
  rest_told : (o : Occurrence) → tells o.head ≡ true → rest_at docs o ≡ []
  rest_told o e = ap (λ b. cond b [] (word_at docs o)) e

  rest_seen : (o : Occurrence) → tells o.head ≡ false → rest_at docs o ≡ word_at docs o
  rest_seen o e = ap (λ b. cond b [] (word_at docs o)) e

  one_head : (a b : Occurrence) → Equal ≡ nat_cmp a.head b.head → a.head ≡ b.head
  one_head a b e = ranked a.head b.head Equal e

  pub order_told : (a b : Occurrence) → Equal ≡ nat_cmp a.head b.head → tells a.head ≡ true → Equal ≡ order docs a b
  order_told a b e told_so =
      let its : tells b.head ≡ true = ap tells (sym (one_head a b e)) ∙ told_so in
      ap (λ l. slice_cmp nat_cmp l []) (sym (rest_told a told_so)) ∙ ap (slice_cmp nat_cmp (rest_at docs a)) (sym (rest_told b its))
      ∙ ap (λ o. ordering_then o (slice_cmp nat_cmp (rest_at docs a) (rest_at docs b))) e

  pub order_seen : (a b : Occurrence) (r : Ordering) → Equal ≡ nat_cmp a.head b.head → tells a.head ≡ false → r ≡ slice_cmp nat_cmp (word_at docs a) (word_at docs b) → r ≡ order docs a b
  order_seen a b r e seen is =
      let its : tells b.head ≡ false = ap tells (sym (one_head a b e)) ∙ seen in
      is ∙ ap (λ l. slice_cmp nat_cmp l (word_at docs b)) (sym (rest_seen a seen)) ∙ ap (slice_cmp nat_cmp (rest_at docs a)) (sym (rest_seen b its))
      ∙ ap (λ o. ordering_then o (slice_cmp nat_cmp (rest_at docs a) (rest_at docs b))) e

  -- words of one head that tells them
  same_word : (a b : Occurrence) → HasHead docs a → HasHead docs b → a.head ≡ b.head → tells a.head ≡ true → word_at docs a ≡ word_at docs b
  same_word a b has its e told_so =
      told (word_at docs a) (word_at docs b) has.read its.read (sym has.is ∙ e ∙ its.is) (ap tells (sym has.is) ∙ told_so)

  -- which isn't before another by its order isn't by its word
  not_before : (a b : Occurrence) → HasHead docs a → HasHead docs b → goes_before a b ≡ false → word_before a b ≡ false
  not_before a b has its late =
      let v = word_at docs a in
      let w = word_at docs b in
      by_ranked (a.head < b.head) (a.head ≡ b.head) (b.head < a.head) (nat_cmp a.head b.head) (ranked a.head b.head (nat_cmp a.head b.head) refl)
      (λ o _. let early : is_lt (ordering_then Less (slice_cmp nat_cmp (rest_at docs a) (rest_at docs b))) ≡ false = subst (λ p. is_lt (ordering_then p (slice_cmp nat_cmp (rest_at docs a) (rest_at docs b))) ≡ false) o late in absurd cc)
      (λ o same. elim (tells a.head) as (λ t. tells a.head ≡ t → word_before a b ≡ false) [
        | true ↦ λ t. ap (λ l. is_lt (slice_cmp nat_cmp v l)) (sym (same_word a b has its same t)) ∙ ap is_lt (tied_itself nat_list_cmp_total v)
        | false ↦ λ t. ap is_lt (order_seen a b (slice_cmp nat_cmp v w) (sym o) t refl) ∙ late
      ] refl)
      (λ o low.
      let less : slice_cmp nat_cmp w v ≡ Less = heads_order w v its.read has.read (subst (λ n. head w < n) has.is (subst (λ n. n < a.head) its.is low)) in
      ap is_lt (nat_list_cmp_total.antisymm v w ∙ ap ordering_reverse less))

  and_false : (b : Bool) → (b && false) ≡ false
  and_false true = refl
  and_false false = refl

  clash : {b : Bool} → b ≡ true → b ≡ false → ⊥
  clash e f = cc

  -- equal in their order are occurrences of one word
  equal_words : (x y : Occurrence) → HasHead docs x → HasHead docs y → is_eq (order docs x y) ≡ bytes_eq (word_at docs x) (word_at docs y)
  equal_words x y has its =
      let v = word_at docs x in
      let w = word_at docs y in
      equal_part (nat_cmp x.head y.head) (slice_cmp nat_cmp (rest_at docs x) (rest_at docs y))
      ∙ ap (λ b. is_eq (nat_cmp x.head y.head) && b) (is_eq-slice_cmp (rest_at docs x) (rest_at docs y))
      ∙ elim (bytes_eq v w) as (λ b. bytes_eq v w ≡ b → (is_eq (nat_cmp x.head y.head) && bytes_eq (rest_at docs x) (rest_at docs y)) ≡ b) [
        | true ↦ λ same.
            let word : v ≡ w = (bytes_eq-Decides v w).0 same in
            let one : x.head ≡ y.head = has.is ∙ ap head word ∙ sym its.is in
            let rest : rest_at docs x ≡ rest_at docs y = ap (λ n. cond (tells n) [] v) one ∙ ap (cond (tells y.head) []) word in
            ap (λ n. is_eq (nat_cmp x.head n) && bytes_eq (rest_at docs x) (rest_at docs y)) (sym one)
            ∙ ap (λ o. is_eq o && bytes_eq (rest_at docs x) (rest_at docs y)) (tied_itself nat_cmp_total x.head)
            ∙ (bytes_eq-Decides (rest_at docs x) (rest_at docs y)).1 rest
        | false ↦ λ ne.
            by_ranked (x.head < y.head) (x.head ≡ y.head) (y.head < x.head) (nat_cmp x.head y.head) (ranked x.head y.head (nat_cmp x.head y.head) refl)
            (λ o _. ap (λ p. is_eq p && bytes_eq (rest_at docs x) (rest_at docs y)) o)
            (λ o same. elim (tells x.head) as (λ t. tells x.head ≡ t → (is_eq (nat_cmp x.head y.head) && bytes_eq (rest_at docs x) (rest_at docs y)) ≡ false) [
              | true ↦ λ t. absurd (clash ((bytes_eq-Decides v w).1 (same_word x y has its same t)) ne)
              | false ↦ λ t.
                  ap (λ b. is_eq (nat_cmp x.head y.head) && b) (ap (λ l. bytes_eq l (rest_at docs y)) (rest_seen x t) ∙ ap (bytes_eq v) (rest_seen y (ap tells (sym same) ∙ t)) ∙ ne)
                  ∙ and_false (is_eq (nat_cmp x.head y.head))
            ] refl)
            (λ o _. ap (λ p. is_eq p && bytes_eq (rest_at docs x) (rest_at docs y)) o)
      ] refl

  tie : (x y : Occurrence) → HasHead docs x → HasHead docs y → ties goes_before x y ≡ bytes_eq (word_at docs x) (word_at docs y)
  tie x y has its = ap (λ o. not (is_lt (order docs x y)) && not (is_lt o)) (total.antisymm y x) ∙ tied (order docs x y) ∙ equal_words x y has its

  pub one_word : (x y : Occurrence) (o : Ordering) → HasHead docs x → HasHead docs y → o ≡ order docs x y → is_eq o ≡ bytes_eq (word_at docs x) (word_at docs y)
  one_word x y o has its e = ap is_eq e ∙ equal_words x y has its

  turned : (v w : List ℕ) → bytes_eq v w ≡ bytes_eq w v
  turned v w =
      elim (bytes_eq v w) as (λ b. bytes_eq v w ≡ b → b ≡ bytes_eq w v) [
        | true ↦ λ e. sym ((bytes_eq-Decides w v).1 (sym ((bytes_eq-Decides v w).0 e)))
        | false ↦ λ e. elim (bytes_eq w v) as (λ c. bytes_eq w v ≡ c → false ≡ c) [
          | true ↦ λ f. absurd (clash ((bytes_eq-Decides v w).1 (sym ((bytes_eq-Decides w v).0 f))) e)
          | false ↦ λ _. refl
        ] refl
      ] refl

  word_ties : (w : List ℕ) (x y : Occurrence) → is_at docs w x ≡ true → HasHead docs x → HasHead docs y → is_at docs w y ≡ ties goes_before x y
  word_ties w x y is has its =
      let same : word_at docs x ≡ w = (bytes_eq-Decides (word_at docs x) w).0 is in
      turned (word_at docs y) w ∙ ap (λ v. bytes_eq v (word_at docs y)) (sym same) ∙ sym (tie x y has its)

  -- those of a word stand as they stood
  kept : (w : List ℕ) (old new : List Occurrence) → IsPermutation old new → IsStableBy goes_before old new → All (HasHead docs) old → All (HasHead docs) new → (b : Bool) → list_any (is_at docs w) old ≡ b → filter (is_at docs w) new ≡ filter (is_at docs w) old
  kept w old new moved stable has its false e =
      none_pass (is_at docs w) new (sym (list_any-IsPermutation (is_at docs w) old new moved) ∙ e) ∙ sym (none_pass (is_at docs w) old e)
  kept w old new moved stable has its true e =
      let found = one_passes (HasHead docs) (is_at docs w) old has e in
      let x = found.0 in
      same_tests (is_at docs w) (ties goes_before x) new (λ k d h. word_ties w x _ found.1 found.2 (its k d h))
      ∙ stable x
      ∙ sym (same_tests (is_at docs w) (ties goes_before x) old (λ k d h. word_ties w x _ found.1 found.2 (has k d h)))

  pub in_order : (new : List Occurrence) → IsPermutation (docs_places 0 docs) new → IsStableBy goes_before (docs_places 0 docs) new → IsSortedBy goes_before new → All AreFew docs → All (HasHead docs) (docs_places 0 docs) → AreInOrder docs new
  in_order new moved stable sorted few has =
      let its = All-permutation (HasHead docs) (docs_places 0 docs) new moved has in
      record {
        ascend = λ k d low high. not_before _ _ (its (k + 1) d high) (its k d (omega (arith, high))) (sorted k d low high);
        each = λ w. ap (map place_at) (kept w (docs_places 0 docs) new moved stable has its (list_any (is_at docs w) (docs_places 0 docs)) refl) ∙ places_each docs few w;
        heads = its;
      }
