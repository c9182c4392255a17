-- One look in a spread list: the last occurrence that begins at a place or before tells whether some occurrence holds the place.
use Rattle.std.proofs.Common.{◌≡◌, ℕ, ◌-◌, ◌<◌, ◌≤◌, Bool, true, false, ◌&&◌, ◌||◌, ◌==◌, nat_lt, nat_le, List, length, length-take-le, get_or, get_or-take, take, Option, Some, None, Bor, sym, ap, ◌∙◌, subst, inl, inr, arith}
use Rattle.std.specs.List.{list_any}
use Rattle.std.specs.List.Sorted.{IsPartitionedBy, IsPartitionPoint}
use Rattle.std.specs.Slice.{IsGetResult}
use Rattle.std.proofs.lemmas.Bool.{cases_Bool, cases_eq, cases_lt, ltb-true}
use Rattle.std.proofs.lemmas.Bool.Decides.{nat_tests}
use Rattle.std.proofs.lemmas.List.{get_or_default}
use Rattle.std.proofs.lemmas.List.Folds.{list_any_at, list_any_none}
use Rattle.occ_lists.specs.declared.occ.Occ.{Occ}
use Rattle.occ_lists.specs.Places.{holds}
use Rattle.occ_lists.specs.steps.Spread.{Spreads, IsSpread}

-- it begins at the place or before
abbrev pub is_begun : ℕ × ℕ → Occ → Bool
is_begun place o = nat_lt o.field place.0 || ((o.field == place.0) && nat_le o.first place.1)

-- it reaches as far as the place
abbrev pub is_reached : ℕ × ℕ → Occ → Bool
is_reached place o = (o.field == place.0) && nat_le place.1 o.last

-- the last one that has begun, where there is one, reaches as far
abbrev pub last_reaches : ℕ × ℕ → Option (Bor Occ) → Bool
last_reaches place None = false
last_reaches place (Some o) = is_reached place o.now

begun_earlier : (place : ℕ × ℕ) (o later : Occ) → Spreads o later → is_begun place later ≡ true → is_begun place o ≡ true
begun_earlier place o later spread begun = grind (arith, nat_tests, spread.fields, spread.firsts)

pub begun_parted : (place : ℕ × ℕ) (occs : List Occ) → IsSpread occs → IsPartitionedBy (is_begun place) occs
begun_parted place occs spread i j d up within later = elim (cases_eq i j) [
  | inl same ↦ rw same later
  | inr other ↦ begun_earlier place (get_or occs i d) (get_or occs j d) (spread i j d (omega arith) within) later
]

not_begun : (place : ℕ × ℕ) (o : Occ) → is_begun place o ≡ false → holds o place ≡ false
not_begun place o later = grind (arith, nat_tests)

begun_and_reached : (place : ℕ × ℕ) (o : Occ) → is_begun place o ≡ true → is_reached place o ≡ true → holds o place ≡ true
begun_and_reached place o begun reached = grind (arith, nat_tests)

not_reached : (place : ℕ × ℕ) (o : Occ) → is_reached place o ≡ false → holds o place ≡ false
not_reached place o short = grind (arith, nat_tests)

not_reached_before : (place : ℕ × ℕ) (o later : Occ) → Spreads o later → is_begun place later ≡ true → is_reached place later ≡ false → holds o place ≡ false
not_reached_before place o later spread begun short = grind (arith, nat_tests, spread.fields, spread.lasts)

pub one_look : (place : ℕ × ℕ) (occs front : List Occ) (begun : ℕ) (found : Option (Bor Occ)) → IsSpread occs → IsPartitionPoint (λ o. is_begun place o ≡ true) (λ o. is_begun place o ≡ false) occs begun → begun ≤ length occs → front ≡ take begun occs → IsGetResult front 0 (length front - 1) found → list_any (λ o. holds o place) occs ≡ last_reaches place found
one_look place occs front begun None spread parts within is item =
    let long : length front ≡ begun = ap length is ∙ length-take-le begun occs within in
    let zero : begun ≡ 0 = grind (arith, nat_tests, item.0) in
    list_any_none (λ o. holds o place) occs (λ k d h. not_begun place (get_or occs k d) (parts.1 k d (omega arith) h))
one_look place occs front begun (Some o) spread parts within is item =
    let long : length front ≡ begun = ap length is ∙ length-take-le begun occs within in
    let some : 0 < begun = omega (arith, ltb-true 0 (length front) (sym item.0)) in
    let last : o.now ≡ get_or occs (begun - 1) o.now =
    item.1 ∙ ap (λ n. get_or front (n - 1) o.now) long ∙ ap (λ xs. get_or xs (begun - 1) o.now) is ∙ get_or-take begun occs (begun - 1) o.now (omega arith) in
    let has : is_begun place o.now ≡ true = subst (λ (x : Occ). is_begun place x ≡ true) (sym last) (parts.0 (begun - 1) o.now (omega arith) (omega arith)) in
    elim (cases_Bool (is_reached place o.now)) [
      | inl reached ↦
          list_any_at (λ x. holds x place) occs (begun - 1) o.now (omega arith) (ap (λ x. holds x place) (sym last) ∙ begun_and_reached place o.now has reached)
          ∙ sym reached
      | inr short ↦
          list_any_none (λ x. holds x place) occs (λ k d h. elim (cases_lt k begun) [
            | inl before ↦ elim (cases_eq k (begun - 1)) [
              | inl same ↦ not_reached place (get_or occs k d) (ap (λ x. is_reached place x) (ap (λ i. get_or occs i d) same ∙ get_or_default occs (begun - 1) d o.now (omega arith) ∙ sym last) ∙ short)
              | inr other ↦ ap (λ x. holds x place) (get_or_default occs k d o.now h) ∙ not_reached_before place (get_or occs k o.now) o.now (subst (λ (x : Occ). Spreads (get_or occs k o.now) x) (sym last) (spread k (begun - 1) o.now (omega arith) (omega arith))) has short
            ]
            | inr after ↦ not_begun place (get_or occs k d) (parts.1 k d after h)
          ])
          ∙ sym short
    ]
