-- Sorted words: neighbours and pairs, the test that computes, and the search.
use Rattle.std.proofs.Common.{◌≡◌, ℕ, suc, zero, ◌+◌, ◌-◌, ◌<◌, ◌↔◌, Bor, Result, Ok, Err, MatchResult, Bool, true, false, inl, inr, List, [], ◌∷◌, length, map, get_or, Some, IsTrue, Contains, slice_get, refl, sym, ◌∙◌, ap, subst, arith}
use Rattle.std.specs.List.Sorted.{IsBinarySearchResult, IsSearchInRange, IsSortedBy}
use Rattle.std.specs.List.{AllAdjacentBelow, IsAllAdjacentAnswer}
use Rattle.std.specs.Ordering.{nat_cmp, is_lt, ordering_reverse}
use Rattle.std.specs.Cmp.Lexicographic.{slice_cmp}
use Rattle.std.specs.declared.cmp.Ordering.{Ordering}
use Rattle.std.specs.declared.cmp.Ordering.TheVariants.{Less, Equal, Greater}
use Rattle.std.proofs.lemmas.Bool.{and_parts, cases_lt}
use Rattle.std.proofs.lemmas.Cmp.{nat_list_cmp_total, tied_itself}
use Rattle.std.proofs.lemmas.List.{get_or-map, length-map}
use Rattle.std.proofs.lemmas.List.Sorted.{searchable_from_sorted}
use Rattle.std.proofs.lemmas.Option.{slice_get-get_or}
use Rattle.std.specs.FinMap.{slice_cmp-IsAntisymmetric, nat_cmp-IsAntisymmetric}
use Rattle.name_table.specs.Order.{Precedes, IsInOrder, in_order, in_order_after}

-- where each word stands before the next, each stands before those that follow
rises : (words : List (List ℕ)) (i more : ℕ) (d : List ℕ) → AllAdjacentBelow Precedes words (length words) → i + suc more < length words → Precedes (get_or words i d) (get_or words (i + suc more) d)
rises words i zero d near within = near i d within
rises words i (suc more) d near within =
    let next : (i + suc more) + 1 ≡ i + suc (suc more) = omega arith in
    let P : ℕ → Type 0 = λ n. Precedes (get_or words (i + suc more) d) (get_or words n d) in
    let step : P (i + suc (suc more)) = subst P next (near (i + suc more) d (omega arith)) in
    nat_list_cmp_total.trans (get_or words i d) (get_or words (i + suc more) d) (get_or words (i + suc (suc more)) d) (rises words i more d near (omega arith)) step

pub in_order_from_neighbours : (words : List (List ℕ)) → AllAdjacentBelow Precedes words (length words) → IsInOrder words
in_order_from_neighbours words near i j d before within =
    let place : i + suc (j - i - 1) ≡ j = omega arith in
    let P : ℕ → Type 0 = λ n. Precedes (get_or words i d) (get_or words n d) in
    subst P place (rises words i (j - i - 1) d near (omega arith))

less_from_is_lt : (order : Ordering) → is_lt order ≡ true → order ≡ Less
less_from_is_lt Less holds = refl
less_from_is_lt Equal holds = cc
less_from_is_lt Greater holds = cc

neighbours_from_after : (word : List ℕ) (words : List (List ℕ)) → in_order_after word words ≡ true → AllAdjacentBelow Precedes (word ∷ words) (length (word ∷ words))
neighbours_from_after word [] holds k d within = absurd (omega arith)
neighbours_from_after word (next ∷ words) holds zero d within = less_from_is_lt _ (and_parts _ _ holds).0
neighbours_from_after word (next ∷ words) holds (suc k) d within =
    let shifted : suc (k + 1) ≡ suc k + 1 = omega arith in
    let P : ℕ → Type 0 = λ n. Precedes (get_or (next ∷ words) k d) (get_or (word ∷ next ∷ words) n d) in
    subst P shifted (neighbours_from_after next words (and_parts _ _ holds).1 k d (omega arith))

-- the rule that the test stands for
pub in_order_from_test : (words : List (List ℕ)) → in_order words ≡ true → IsInOrder words
in_order_from_test [] holds = λ i j d before within. absurd (omega arith)
in_order_from_test (word ∷ words) holds = in_order_from_neighbours (word ∷ words) (neighbours_from_after word words holds)

-- a later word isn't less
later_is_not_less : (word next : List ℕ) → Precedes word next → is_lt (slice_cmp nat_cmp next word) ≡ false
later_is_not_less word next before = ap is_lt (nat_list_cmp_total.antisymm next word ∙ ap ordering_reverse before)

rising : (entries : List (Bor (List ℕ))) → IsInOrder (map (λ word. word.now) entries) → IsSortedBy (λ a b. is_lt (slice_cmp nat_cmp a.now b.now)) entries
rising entries order k d from within =
    let words : List (List ℕ) = map (λ word. word.now) entries in
    let this : get_or words k [] ≡ (get_or entries k d).now = get_or-map (λ word. word.now) entries k d [] (omega arith) in
    let next : get_or words (k + 1) [] ≡ (get_or entries (k + 1) d).now = get_or-map (λ word. word.now) entries (k + 1) d [] within in
    let before : Precedes (get_or words k []) (get_or words (k + 1) []) = order k (k + 1) [] (omega arith) (omega (arith, length-map entries (λ (word : Bor (List ℕ)). word.now))) in
    subst (λ (word : List ℕ). is_lt (slice_cmp nat_cmp (get_or entries (k + 1) d).now word) ≡ false) this
    (subst (λ (word : List ℕ). is_lt (slice_cmp nat_cmp word (get_or words k [])) ≡ false) next (later_is_not_less (get_or words k []) (get_or words (k + 1) []) before))

-- what the search of a table in order says of a word
pub place_from_search : (entries : List (Bor (List ℕ))) (small : List ℕ) (found : Result ℕ ℕ) → IsInOrder (map (λ word. word.now) entries) → IsSearchInRange found (length entries) → IsBinarySearchResult (λ entry. slice_cmp nat_cmp entry.now small) entries found → MatchResult found (λ place. slice_get (map (λ word. word.now) entries) place ≡ Some small) (λ _. ¬ (Contains (map (λ word. word.now) entries) small))
place_from_search [] small (Ok place) order within said = absurd (omega (arith, within))
place_from_search [] small (Err place) order within said = λ held. absurd (omega (arith, held.1))
place_from_search (entry ∷ entries) small (Ok place) order within said =
    let words : List (List ℕ) = map (λ word. word.now) (entry ∷ entries) in
    let same : get_or words place [] ≡ (get_or (entry ∷ entries) place entry).now = get_or-map (λ word. word.now) (entry ∷ entries) place entry [] within in
    let is : (get_or (entry ∷ entries) place entry).now ≡ small = slice_cmp-IsAntisymmetric nat_cmp-IsAntisymmetric _ _ (said entry) in
    slice_get-get_or words place [] (omega (arith, within, length-map (entry ∷ entries) (λ (word : Bor (List ℕ)). word.now))) ∙ ap Some (same ∙ is)
place_from_search (entry ∷ entries) small (Err place) order within said = λ held.
    let all : List (Bor (List ℕ)) = entry ∷ entries in
    let k : ℕ = held.0 in
    let below : k < length all = omega (arith, held.1, length-map all (λ (word : Bor (List ℕ)). word.now)) in
    let is : (get_or all k entry).now ≡ small = sym (get_or-map (λ word. word.now) all k entry small below) ∙ held.2 in
    let equal : slice_cmp nat_cmp (get_or all k entry).now small ≡ Equal = subst (λ (word : List ℕ). slice_cmp nat_cmp word small ≡ Equal) (sym is) (tied_itself nat_list_cmp_total small) in
    let parts = said (searchable_from_sorted nat_list_cmp_total (λ (word : Bor (List ℕ)). word.now) all small (rising all order)) in
    elim (cases_lt k place) [
      | inl before ↦ (let less : slice_cmp nat_cmp (get_or all k entry).now small ≡ Less = parts.0 k entry (omega arith) before in cc)
      | inr after ↦ (let more : slice_cmp nat_cmp (get_or all k entry).now small ≡ Greater = parts.1 k entry after below in cc)
    ]

-- neighbours in the table are neighbours in the list of its words
in_order_from_adjacent : (entries : List (Bor (List ℕ))) → AllAdjacentBelow (λ (x y : Bor (List ℕ)). true ≡ is_lt (slice_cmp nat_cmp x.now y.now)) entries (length entries) → IsInOrder (map (λ word. word.now) entries)
in_order_from_adjacent [] near = λ i j d before within. absurd (omega arith)
in_order_from_adjacent (entry ∷ entries) near =
    let all : List (Bor (List ℕ)) = entry ∷ entries in
    let words : List (List ℕ) = map (λ word. word.now) all in
    in_order_from_neighbours words (λ k d within.
    let here : k + 1 < length all = omega (arith, within, length-map all (λ (word : Bor (List ℕ)). word.now)) in
    let this : get_or words k d ≡ (get_or all k entry).now = get_or-map (λ word. word.now) all k entry d (omega arith) in
    let next : get_or words (k + 1) d ≡ (get_or all (k + 1) entry).now = get_or-map (λ word. word.now) all (k + 1) entry d here in
    let less : slice_cmp nat_cmp (get_or all k entry).now (get_or all (k + 1) entry).now ≡ Less = less_from_is_lt _ (sym (near k entry here)) in
    subst (λ (word : List ℕ). Precedes word (get_or words (k + 1) d)) (sym this) (subst (λ (word : List ℕ). Precedes (get_or all k entry).now word) (sym next) less))

-- what a look at all neighbours says of the table
pub checked : (entries : List (Bor (List ℕ))) (answer : Bool) → IsAllAdjacentAnswer (λ x y b. b ≡ is_lt (slice_cmp nat_cmp x.now y.now)) entries answer → IsTrue answer ↔ IsInOrder (map (λ word. word.now) entries)
checked entries true near = (λ _. in_order_from_adjacent entries near, λ _. refl)
checked [] false (k, within, fails) = absurd (omega (arith, within))
checked (entry ∷ entries) false (k, within, fails) =
    let all : List (Bor (List ℕ)) = entry ∷ entries in
    let words : List (List ℕ) = map (λ word. word.now) all in
    let this : get_or words k [] ≡ (get_or all k entry).now = get_or-map (λ word. word.now) all k entry [] (omega (arith, within)) in
    let next : get_or words (k + 1) [] ≡ (get_or all (k + 1) entry).now = get_or-map (λ word. word.now) all (k + 1) entry [] within in (
      λ never. cc,
      λ order.
          let less : Precedes (get_or words k []) (get_or words (k + 1) []) = order k (k + 1) [] (omega arith) (omega (arith, within, length-map all (λ (word : Bor (List ℕ)). word.now))) in
          let here : slice_cmp nat_cmp (get_or all k entry).now (get_or all (k + 1) entry).now ≡ Less = subst (λ (word : List ℕ). Precedes (get_or all k entry).now word) next (subst (λ (word : List ℕ). Precedes word (get_or words (k + 1) [])) this less) in
          fails entry ∙ ap is_lt here,
    )
