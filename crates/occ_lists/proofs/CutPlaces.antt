-- Places in order cut in two: those from one on, and those up to one.
use Rattle.std.proofs.Common.{◌≡◌, ℕ, ◌≤◌, Bool, true, false, not, List, length, take, drop, get_or, ap, sym, ◌∙◌, arith}
use Rattle.std.specs.List.{filter, slice_range}
use Rattle.std.specs.List.Sorted.{IsPartitionPoint}
use Rattle.std.proofs.lemmas.Bool.{not_from_true, not_from_false}
use Rattle.std.proofs.lemmas.List.{take_rest}
use Rattle.occ_lists.proofs.Kept.{filter_range}

module _ {X : Type 0} (p : X → Bool) (xs : List X) (cut : ℕ) (within : cut ≤ length xs) (point : IsPartitionPoint (λ x. p x ≡ true) (λ x. p x ≡ false) xs cut) where
  -- what stands before the place passes
  pub front_is : take cut xs ≡ filter p xs
  front_is =
      let kept : filter p xs ≡ slice_range xs 0 cut = filter_range p xs 0 cut (omega arith) within (λ k d low high. absurd (omega arith)) (λ k d low high. point.0 k d (omega arith) high) (λ k d low high. point.1 k d low high) in
      let whole : slice_range xs 0 cut ≡ take cut xs = ap (λ n. take n xs) (omega arith) in
      sym (kept ∙ whole)

  -- what stands from it on doesn't
  pub back_is : drop cut xs ≡ filter (λ x. not (p x)) xs
  back_is =
      let kept : filter (λ x. not (p x)) xs ≡ slice_range xs cut (length xs) =
      filter_range (λ x. not (p x)) xs cut (length xs) within (omega arith)
      (λ k d low high. not_from_true (p (get_or xs k d)) (point.0 k d (omega arith) high))
      (λ k d low high. not_from_false (p (get_or xs k d)) (point.1 k d low high))
      (λ k d low high. absurd (omega arith)) in
      sym (kept ∙ take_rest xs cut)
