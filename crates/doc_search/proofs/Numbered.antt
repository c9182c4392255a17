-- The rows of a chunk that match and live, by their numbers and as documents.
use Rattle.std.proofs.Common.{◌≡◌, ℕ, ◌+◌, suc, List, [], ◌∷◌, Bool, true, false, cond, map, Option, Some, slice_get, refl, sym, ap, subst, ◌∙◌, arith, zero-add}
use Rattle.std.specs.Prelude.{◌&&◌, ◌==◌, not}
use Rattle.std.specs.List.{AllZip, filter, list_any, enumerate_from}
use Rattle.std.proofs.Math.Bool.{and_comm}
use Rattle.std.proofs.lemmas.List.Elements.{filter_agree}
use Rattle.doc_types.specs.declared.documents.DocRow.{DocRow}
use Rattle.doc_types.specs.Snapshots.{LayerValue, is_dead, living}
use Rattle.query_tree.specs.declared.query.Query.{Query}
use Rattle.op_eval.specs.Matching.{matches, matching}
use Rattle.word_rows.proofs.Lists.{filter_twice}

module _ {X : Type 0} (passes : ℕ × X → Bool) (at : ℕ → Option X) where
  -- the numbers of the elements that pass stand beside these elements
  zip_numbers : (n : ℕ) (xs : List X) → ((k : ℕ) → at (n + k) ≡ slice_get xs k) → AllZip (λ i x. at i ≡ Some x) (map (λ e. e.0) (filter passes (enumerate_from n xs))) (map (λ e. e.1) (filter passes (enumerate_from n xs)))
  zip_numbers n [] each = tt
  zip_numbers n (x ∷ xs) each =
      let later : (k : ℕ) → at (n + 1 + k) ≡ slice_get xs k = λ k. ap at (omega arith) ∙ each (suc k) in
      let rest = zip_numbers (n + 1) xs later in
      let same : n ≡ n + 0 = omega arith in
      let here : at n ≡ Some x = ap at same ∙ each 0 in
      elim (passes (n, x)) as (λ b. AllZip (λ i y. at i ≡ Some y) (map (λ e. e.0) (cond b ((n, x) ∷ filter passes (enumerate_from (n + 1) xs)) (filter passes (enumerate_from (n + 1) xs)))) (map (λ e. e.1) (cond b ((n, x) ∷ filter passes (enumerate_from (n + 1) xs)) (filter passes (enumerate_from (n + 1) xs))))) [
        | true ↦ (here, rest)
        | false ↦ rest
      ]

module _ {X Y : Type 0} (p : Y → Bool) (f : X → Y) where
  kept : (b : Bool) (x : X) (xs : List X) → cond b (f x ∷ map f xs) (map f xs) ≡ map f (cond b (x ∷ xs) xs)
  kept true x xs = refl
  kept false x xs = refl

  -- what passes of the images are the images of what passes
  filter_image : (xs : List X) → filter p (map f xs) ≡ map f (filter (λ x. p (f x)) xs)
  filter_image [] = refl
  filter_image (x ∷ xs) = ap (λ ys. cond (p (f x)) (f x ∷ ys) ys) (filter_image xs) ∙ kept (p (f x)) x (filter (λ x. p (f x)) xs)

abbrev both : Query → List ℕ → ℕ × DocRow → Bool
both query dead e = matches query e.1 && not (list_any (λ d. d == e.0) dead)

-- the documents of a layer that live and match
pub living_matching : (query : Query) (layer : LayerValue) → filter (matches query) (living layer) ≡ map (λ e. e.1) (filter (both query layer.dead) (enumerate_from 0 layer.rows))
living_matching query layer =
    let es = enumerate_from 0 layer.rows in
    filter_image (matches query) (λ (e : ℕ × DocRow). e.1) (filter (λ e. not (is_dead layer e.0)) es)
    ∙ ap (map (λ (e : ℕ × DocRow). e.1)) (filter_twice (λ (e : ℕ × DocRow). matches query e.1) (λ e. not (is_dead layer e.0)) es)
    ∙ ap (map (λ (e : ℕ × DocRow). e.1)) (filter_agree (λ (e : ℕ × DocRow). not (is_dead layer e.0) && matches query e.1) (both query layer.dead) (λ e. and_comm (not (is_dead layer e.0)) (matches query e.1)) es)

-- the numbers of a layer's rows that match and live stand beside these rows
pub numbers_beside : (query : Query) (layer : LayerValue) → AllZip (λ number doc. slice_get layer.rows number ≡ Some doc) (matching query layer.rows layer.dead) (filter (matches query) (living layer))
numbers_beside query layer =
    subst (AllZip (λ number doc. slice_get layer.rows number ≡ Some doc) (matching query layer.rows layer.dead)) (sym (living_matching query layer))
    (zip_numbers (both query layer.dead) (slice_get layer.rows) 0 layer.rows (λ k. ap (slice_get layer.rows) (zero-add k)))
