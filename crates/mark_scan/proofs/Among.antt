-- Names among the words of a table.
use Rattle.std.proofs.Common.{◌≡◌, ℕ, suc, true, false, List, [], ◌∷◌, ◌||◌, get_or, Option, Some, None, Contains, slice_get, refl, sym, ◌∙◌, ap, subst, arith, inl, inr}
use Rattle.std.specs.Prelude.{is_some, MatchOption}
use Rattle.std.specs.List.{list_any}
use Rattle.std.specs.Ordering.{is_eq}
use Rattle.std.specs.Str.{bytes_eq, str_to_ascii_lowercase}
use Rattle.std.proofs.lemmas.Bool.{cases_Bool}
use Rattle.std.proofs.lemmas.Cmp.{nat_list_cmp_total, tied_itself}
use Rattle.std.proofs.lemmas.List.Folds.{list_any_at}
use Rattle.std.proofs.lemmas.Map.Text.{is_eq-slice_cmp}
use Rattle.std.proofs.lemmas.Option.{slice_get_within, get_or_from_slice_get}
use Rattle.std.proofs.lemmas.Slice.Eq.{bytes_eq-Decides}
use Rattle.mark_scan.specs.Tags.{is_among}

same_bytes : (word : List ℕ) → bytes_eq word word ≡ true
same_bytes word = sym (is_eq-slice_cmp word word) ∙ ap is_eq (tied_itself nat_list_cmp_total word)

among_nowhere : (words : List (List ℕ)) (small : List ℕ) → (Contains words small → ⊥) → list_any (λ word. bytes_eq word small) words ≡ false
among_nowhere [] small none = refl
among_nowhere (word ∷ words) small none =
    elim (cases_Bool (bytes_eq word small)) [
      | inl same ↦ absurd (none (0, omega arith, (bytes_eq-Decides word small).0 same))
      | inr other ↦ ap (λ b. b || list_any (λ w. bytes_eq w small) words) other ∙ among_nowhere words small (λ held. none (suc held.0, omega (arith, held.1), held.2))
    ]

-- what a look-up in a table of the words answers
pub among_found : (table words : List (List ℕ)) (name : List ℕ) (found : Option ℕ) → table ≡ words → MatchOption found (Contains table (str_to_ascii_lowercase name) → ⊥) (λ place. slice_get table place ≡ Some (str_to_ascii_lowercase name)) → is_some found ≡ is_among words name
unfolding is_among
among_found table words name None same none =
    sym (ap (λ (ws : List (List ℕ)). list_any (λ word. bytes_eq word (str_to_ascii_lowercase name)) ws) (sym same) ∙ among_nowhere table (str_to_ascii_lowercase name) none)
among_found table words name (Some place) same at =
    let small = str_to_ascii_lowercase name in
    let there : get_or table place small ≡ small = get_or_from_slice_get table place small small at in
    let is : bytes_eq (get_or table place small) small ≡ true = subst (λ (w : List ℕ). bytes_eq w small ≡ true) (sym there) (same_bytes small) in
    sym (ap (λ (ws : List (List ℕ)). list_any (λ word. bytes_eq word small) ws) (sym same) ∙ list_any_at (λ word. bytes_eq word small) table place small (slice_get_within table place small at) is)
