-- Where the windows from a place end.
use Rattle.std.proofs.Common.{◌≡◌, ℕ, ◌+◌, ◌-◌, ◌^◌, ◌<◌, ◌≤◌, Bool, true, false, ◌&&◌, ◌||◌, ◌==◌, not, cond, List, [], ◌∷◌, get_or, refl, sym, ap, ◌∙◌, arith, All, nat_le, nat_lt}
use Rattle.std.specs.List.{filter, list_all}
use Rattle.std.proofs.lemmas.Bool.Decides.{nat_tests}
use Rattle.std.proofs.lemmas.Bool.{and_from, and_parts, and_right, le-leb, leb-true}
use Rattle.std.proofs.lemmas.List.Elements.{All-append, All-filter, All-nil, All-tail, All-head}
use Rattle.std.proofs.lemmas.List.Sums.{AllPass-from_list_all, list_all-from_AllPass}
use Rattle.doc_types.specs.declared.tokens.TheConstants.{MAX_POSITION}
use Rattle.doc_types.specs.declared.tokens.ZoneSpan.{ZoneSpan}
use Rattle.occ_lists.specs.declared.term.Term.{Term}
use Rattle.occ_lists.specs.declared.windows.Proximity.{Proximity}
use Rattle.occ_lists.specs.OccLists.{SameMembers}
use Rattle.occ_lists.specs.Places.{is_before, occ, within_all}
use Rattle.occ_lists.specs.Windows.{all_places}
use Rattle.occ_lists.specs.steps.Ends.{IsSorted, ends_at}
use Rattle.occ_lists.specs.Terms.{IsPlaced, listed_in}
use Rattle.occ_lists.specs.steps.Wanted.{holds_words}
use Rattle.occ_lists.proofs.Kept.{filter_filter, filter_none}
use Rattle.occ_lists.proofs.Members.{same_all}

-- two tests that agree at each element keep the same
pub filter_alike : {X : Type 0} (p q : X → Bool) (xs : List X) → All (λ x. p x ≡ q x) xs → filter p xs ≡ filter q xs
filter_alike p q [] alike = refl
filter_alike p q (x ∷ xs) alike =
    ap (λ b. cond b (x ∷ filter p xs) (filter p xs)) (All-head (λ y. p y ≡ q y) x xs alike)
    ∙ ap (λ ys. cond (q x) (x ∷ ys) ys) (filter_alike p q xs (All-tail (λ y. p y ≡ q y) x xs alike))

-- ---- positions as documents have them
abbrev pub IsSmall : ℕ × ℕ → Type 0
IsSmall place = (1 ≤ place.1) × (place.1 ≤ MAX_POSITION)

abbrev is_small : ℕ × ℕ → Bool
is_small place = nat_le 1 place.1 && nat_le place.1 MAX_POSITION

small_listed : (spans : List (ℕ × ZoneSpan)) (terms : List Term) → All IsPlaced terms → All IsSmall (all_places (listed_in spans terms))
small_listed spans [] placed = All-nil IsSmall
small_listed spans (term ∷ terms) placed =
    All-append IsSmall (filter (within_all spans) term.places.items) (all_places (listed_in spans terms))
    (All-filter (within_all spans) IsSmall term.places.items (All-head IsPlaced term terms placed).small)
    (small_listed spans terms (All-tail IsPlaced term terms placed))

test_small : (place : ℕ × ℕ) → IsSmall place → is_small place ≡ true
test_small place small = and_from (nat_le 1 place.1) (nat_le place.1 MAX_POSITION) (le-leb 1 place.1 small.0) (le-leb place.1 MAX_POSITION small.1)

small_test : (place : ℕ × ℕ) → is_small place ≡ true → IsSmall place
small_test place passes =
    let parts = and_parts (nat_le 1 place.1) (nat_le place.1 MAX_POSITION) passes in
    (leb-true 1 place.1 parts.0, leb-true place.1 MAX_POSITION parts.1)

pub small_same : (spans : List (ℕ × ZoneSpan)) (terms : List Term) (all : List (ℕ × ℕ)) → All IsPlaced terms → SameMembers all (all_places (listed_in spans terms)) → All IsSmall all
small_same spans terms all placed same =
    let listed : List (ℕ × ℕ) = all_places (listed_in spans terms) in
    let tested : list_all is_small listed ≡ true = list_all-from_AllPass is_small listed (λ k d h. test_small (get_or listed k d) (small_listed spans terms placed k d h)) in
    let passed = AllPass-from_list_all is_small all (same_all is_small all listed same ∙ tested) in
    λ k d h. small_test (get_or all k d) (passed k d h)

-- ---- the ends
between : (f end last x y : ℕ) → (not (nat_lt x f || ((x == f) && nat_lt y end)) && not (nat_lt f x || ((f == x) && nat_lt last y))) ≡ ((f == x) && (nat_le end y && nat_le y last))
between f end last x y = grind (arith, nat_tests)

and_true : (s l : Bool) → s ≡ l → (s && true) ≡ l
and_true true l e = e
and_true false l e = e

rearranged : (x g s h l : Bool) → (g ≡ true → s ≡ l) → (x && ((g && h) && l)) ≡ ((x && (g && s)) && h)
rearranged false g s h l e = refl
rearranged true false s h l e = refl
rearranged true true s true l e = sym (and_true s l (e refl))
rearranged true true s false l e = sym (and_right s false refl)

fails : (x g s h : Bool) → (g && h) ≡ false → ((x && (g && s)) && h) ≡ false
fails false g s h e = refl
fails true false s h e = refl
fails true true s h e = and_right s h e

module _ (proximity : Proximity) (from : ℕ × ℕ) (sorted : IsSorted proximity) where
  -- the least position for the words, and the last one that the size lets it reach
  pub ends_are : (end last : ℕ) → ((b : ℕ) → (nat_le from.1 b && holds_words proximity.words.items (occ from.0 from.1 b)) ≡ nat_le end b) → ((b : ℕ) → from.1 ≤ b → b < 2 ^ 32 → nat_lt (b + 1 - from.1) proximity.size ≡ nat_le b last) → (late early : List (ℕ × ℕ)) → late ≡ filter (λ p. not (is_before p (from.0, end))) proximity.all.items → early ≡ filter (λ p. not (is_before (from.0, last) p)) late → early ≡ filter (ends_at proximity from) proximity.all.items
  ends_are end last least reach late early late_is early_is =
      let all : List (ℕ × ℕ) = proximity.all.items in
      let p : ℕ × ℕ → Bool = λ to. not (is_before to (from.0, end)) && not (is_before (from.0, last) to) in
      early_is
      ∙ ap (filter (λ to. not (is_before (from.0, last) to))) late_is
      ∙ filter_filter (λ to. not (is_before (from.0, last) to)) (λ to. not (is_before to (from.0, end))) all
      ∙ filter_alike p (ends_at proximity from) all (λ k d h.
      let to : ℕ × ℕ = get_or all k d in
      let low : to.1 < 2 ^ 32 = omega (arith, (sorted.small k d h).1) in
      between from.0 end last to.0 to.1
      ∙ ap (λ b. (from.0 == to.0) && (b && nat_le to.1 last)) (sym (least to.1))
      ∙ rearranged (from.0 == to.0) (nat_le from.1 to.1) (nat_lt (to.1 + 1 - from.1) proximity.size) (holds_words proximity.words.items (occ from.0 from.1 to.1)) (nat_le to.1 last)
      (λ e. reach to.1 (leb-true from.1 to.1 e) low))

  -- a word isn't reached
  pub ends_nowhere : ((b : ℕ) → (nat_le from.1 b && holds_words proximity.words.items (occ from.0 from.1 b)) ≡ false) → filter (ends_at proximity from) proximity.all.items ≡ []
  ends_nowhere never = filter_none (ends_at proximity from) proximity.all.items (λ k d h.
      let to : ℕ × ℕ = get_or proximity.all.items k d in
      fails (from.0 == to.0) (nat_le from.1 to.1) (nat_lt (to.1 + 1 - from.1) proximity.size) (holds_words proximity.words.items (occ from.0 from.1 to.1)) (never to.1))
