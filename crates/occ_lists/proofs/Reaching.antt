-- By which position an occurrence from a place on holds words as often as they are listed.
use Rattle.std.proofs.Common.{◌≡◌, ◌≢◌, ℕ, ◌+◌, ◌-◌, suc, ◌<◌, ◌≤◌, Bool, true, false, ◌&&◌, not, List, length, take, get_or, max, Option, Some, None, refl, sym, ap, ◌∙◌, arith, slice_get, nat_le}
use Rattle.std.specs.List.{filter, list_all}
use Rattle.std.proofs.lemmas.Bool.Decides.{nat_tests}
use Rattle.std.proofs.lemmas.Bool.{and_right, ne_eqb, eq-eqb}
use Rattle.std.proofs.lemmas.Option.{slice_get-get_or, slice_get_past}
use Rattle.std.proofs.lemmas.List.Folds.{list_all_more, list_all_at}
use Rattle.occ_lists.specs.declared.wanted.Wanted.{Wanted}
use Rattle.occ_lists.specs.Places.{is_before, occ}
use Rattle.occ_lists.specs.steps.Wanted.{IsReady, held_of, holds_words}
use Rattle.occ_lists.proofs.Counts.{some_passes}
use Rattle.occ_lists.proofs.PlaceCounts.{held_from, upto}

module _ (wanted : Wanted) (ready : IsReady wanted) (from : ℕ × ℕ) (places late : List (ℕ × ℕ)) (same : places ≡ wanted.places.items) (is : late ≡ filter (λ p. not (is_before p from)) places) where
  -- the place at which the word has come often enough
  found : (place : Option (ℕ × ℕ)) → slice_get late (wanted.times - 1) ≡ place → (last : ℕ) → nat_le wanted.times (held_of wanted.places.items (occ from.0 from.1 last)) ≡ some_passes (upto from.0 last) place
  found place there last =
      let all_but_one : wanted.times ≡ suc (wanted.times - 1) = omega (arith, ready.some) in
      ap (λ n. nat_le n (held_of wanted.places.items (occ from.0 from.1 last))) all_but_one
      ∙ held_from wanted.places.items ready.ascend from last (wanted.times - 1)
      ∙ ap (λ xs. some_passes (upto from.0 last) (slice_get xs (wanted.times - 1))) (sym (is ∙ ap (filter (λ p. not (is_before p from))) same))
      ∙ ap (some_passes (upto from.0 last)) there

  read : (place : ℕ × ℕ) → wanted.times - 1 < length late → place ≡ get_or late (wanted.times - 1) place → slice_get late (wanted.times - 1) ≡ Some place
  read place within there = slice_get-get_or late (wanted.times - 1) place within ∙ ap Some (sym there)

  pub reached_there : (place : ℕ × ℕ) → wanted.times - 1 < length late → place ≡ get_or late (wanted.times - 1) place → place.0 ≡ from.0 → (last : ℕ) → nat_le wanted.times (held_of wanted.places.items (occ from.0 from.1 last)) ≡ nat_le place.1 last
  reached_there place within there here last = found (Some place) (read place within there) last ∙ ap (λ b. b && nat_le place.1 last) (eq-eqb place.0 from.0 here)

  pub reached_elsewhere : (place : ℕ × ℕ) → wanted.times - 1 < length late → place ≡ get_or late (wanted.times - 1) place → place.0 ≢ from.0 → (last : ℕ) → nat_le wanted.times (held_of wanted.places.items (occ from.0 from.1 last)) ≡ false
  reached_elsewhere place within there other last = found (Some place) (read place within there) last ∙ ap (λ b. b && nat_le place.1 last) (ne_eqb place.0 from.0 other)

  pub reached_nowhere : length late ≤ wanted.times - 1 → (last : ℕ) → nat_le wanted.times (held_of wanted.places.items (occ from.0 from.1 last)) ≡ false
  reached_nowhere past last = found None (slice_get_past late (wanted.times - 1) past) last

later_end : (end reached last : ℕ) → (nat_le end last && nat_le reached last) ≡ nat_le (max end reached) last
later_end end reached last = grind (arith, nat_tests)

and_again : (a b c : Bool) → (a && (b && c)) ≡ ((a && b) && c)
and_again true b c = refl
and_again false b c = refl

-- one word more
pub end_more : (words : List Wanted) (i : ℕ) (wanted : Wanted) (from : ℕ × ℕ) (end reached later : ℕ) → i < length words → wanted ≡ get_or words i wanted → later ≡ max end reached
    → ((last : ℕ) → (nat_le from.1 last && holds_words (take i words) (occ from.0 from.1 last)) ≡ nat_le end last)
    → ((last : ℕ) → nat_le wanted.times (held_of wanted.places.items (occ from.0 from.1 last)) ≡ nat_le reached last)
    → (last : ℕ) → (nat_le from.1 last && holds_words (take (i + 1) words) (occ from.0 from.1 last)) ≡ nat_le later last
end_more words i wanted from end reached later within is greater before here last =
    let p : Wanted → Bool = λ w. nat_le w.times (held_of w.places.items (occ from.0 from.1 last)) in
    ap (λ b. nat_le from.1 last && b) (list_all_more p words i wanted within)
    ∙ and_again (nat_le from.1 last) (list_all p (take i words)) (p (get_or words i wanted))
    ∙ ap (λ b. b && p (get_or words i wanted)) (before last)
    ∙ ap (λ w. nat_le end last && p w) (sym is)
    ∙ ap (λ b. nat_le end last && b) (here last)
    ∙ later_end end reached last
    ∙ ap (λ n. nat_le n last) (sym greater)

-- a word that isn't reached
pub end_never : (words : List Wanted) (i : ℕ) (wanted : Wanted) (from : ℕ × ℕ) → i < length words → wanted ≡ get_or words i wanted
    → ((last : ℕ) → nat_le wanted.times (held_of wanted.places.items (occ from.0 from.1 last)) ≡ false)
    → (last : ℕ) → (nat_le from.1 last && holds_words words (occ from.0 from.1 last)) ≡ false
end_never words i wanted from within is here last =
    let p : Wanted → Bool = λ w. nat_le w.times (held_of w.places.items (occ from.0 from.1 last)) in
    and_right (nat_le from.1 last) (list_all p words) (list_all_at p words i wanted within (ap p (sym is) ∙ here last))
