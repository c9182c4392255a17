-- Dead rows, which ascend, cut where a row would stand among them.
use Rattle.std.proofs.Common.{◌≡◌, ◌≢◌, ◌∙◌, ℕ, ◌+◌, ◌<◌, ◌≤◌, Bool, true, false, ◌||◌, List, ◌==◌, refl, sym, ap, arith, inl, inr, drop, get_or, length, ltb, take}
use Rattle.std.specs.Prelude.{AllPairs}
use Rattle.std.specs.List.Sorted.{IsPartitionPoint, IsPartitionedBy}
use Rattle.std.proofs.lemmas.Bool.{cases_lt, lt-ltb, ltb-true, ne_eqb}
use Rattle.std.proofs.lemmas.List.{get_or-drop, get_or-take, length-drop, length-take-le, take-append-drop}
use Rattle.std.proofs.lemmas.List.Elements.{All-from_get_or}
use Rattle.std.proofs.lemmas.List.Folds.{list_any-append, list_any_none}
use Rattle.row_flags.specs.steps.Flags.{is_dead}

-- ascending rows are parted by any number
pub parted : (bound : ℕ) (dead : List ℕ) → AllPairs (λ row later. row < later) dead → IsPartitionedBy (λ row. ltb row bound) dead
parted bound dead ascend i j d order within passed =
    elim (cases_lt i j) [
      | inl earlier ↦ lt-ltb (get_or dead i d) bound (omega (arith, ascend i j d earlier within, ltb-true (get_or dead j d) bound passed))
      | inr later ↦ (let same : i ≡ j = omega (arith, order, later) in ap (λ k. ltb (get_or dead k d) bound) same ∙ passed)
    ]

-- a row that is none of these isn't dead
none_is : (row : ℕ) (rows : List ℕ) → ((k : ℕ) → k < length rows → get_or rows k 0 ≢ row) → is_dead rows row ≡ false
none_is row rows none = list_any_none (λ d. d == row) rows (All-from_get_or (λ d. (d == row) ≡ false) rows 0 (λ k within. ne_eqb (get_or rows k 0) row (none k within)))

either_part : (row i : ℕ) (dead : List ℕ) → is_dead dead row ≡ (is_dead (take i dead) row || is_dead (drop i dead) row)
either_part row i dead = ap (λ rows. is_dead rows row) (sym (take-append-drop i dead)) ∙ list_any-append (λ d. d == row) (take i dead) (drop i dead)

behind_none : (front behind : Bool) → front ≡ false → (front || behind) ≡ behind
behind_none true behind none = absurd (cc none)
behind_none false behind none = refl

before_none : (front behind : Bool) → behind ≡ false → (front || behind) ≡ front
before_none true behind none = refl
before_none false behind none = none

module _ (bound i : ℕ) (dead : List ℕ) (within : i ≤ length dead) (point : IsPartitionPoint (λ row. ltb row bound ≡ true) (λ row. ltb row bound ≡ false) dead i) where
  earlier_ones : (k : ℕ) → k < i → get_or dead k 0 < bound
  earlier_ones k before = ltb-true (get_or dead k 0) bound (point.0 k 0 (omega arith) before)

  later_ones : (k : ℕ) → i ≤ k → k < length dead → bound ≤ get_or dead k 0
  later_ones k on here =
      elim (cases_lt (get_or dead k 0) bound) [
        | inl less ↦ absurd (cc (lt-ltb (get_or dead k 0) bound less, point.1 k 0 on here))
        | inr more ↦ more
      ]

  -- a row from the bound on is dead where it is one of those behind
  pub dead_behind : (row : ℕ) → bound ≤ row → is_dead (drop i dead) row ≡ is_dead dead row
  dead_behind row on =
      sym (
      either_part row i dead
      ∙ behind_none (is_dead (take i dead) row) (is_dead (drop i dead) row)
      (none_is row (take i dead) (λ k here same. let before : k < i = omega (arith, here, length-take-le i dead within) in omega (arith, on, earlier_ones k before, same, get_or-take i dead k 0 before)))
      )

  -- one before the bound where it is one of those in front
  pub dead_before : (row : ℕ) → row < bound → is_dead (take i dead) row ≡ is_dead dead row
  dead_before row before =
      sym (
      either_part row i dead
      ∙ before_none (is_dead (take i dead) row) (is_dead (drop i dead) row)
      (none_is row (drop i dead) (λ k here same. omega (arith, before, later_ones (i + k) (omega arith) (omega (arith, here, length-drop i dead)), same, get_or-drop i dead k 0)))
      )
