-- Keywords one after the other: whether a place is one of a keyword's, the places that are left from keyword to keyword, and the
-- runs that end there.
use Rattle.std.proofs.Common.{◌≡◌, ℕ, ◌+◌, ◌<◌, ◌≤◌, Bool, true, false, ◌&&◌, ◌==◌, min, cond, List, [], ◌∷◌, length, map, drop, get_or, Result, Ok, Err, refl, sym, ap, ◌∙◌, subst, inl, inr, arith}
use Rattle.std.specs.List.{All, filter, retain_mut}
use Rattle.std.specs.List.Retain.{RetainsInTurn}
use Rattle.std.specs.List.Sorted.{IsBinarySearchResult, IsSearchInRange, IsNonDecreasingBy}
use Rattle.std.specs.Ordering.{nat_cmp, ordering_index, ordering_then}
use Rattle.std.specs.Result.{is_ok}
use Rattle.std.specs.declared.cmp.Ordering.{Ordering}
use Rattle.std.specs.declared.cmp.Ordering.TheVariants.{Less, Equal, Greater}
use Rattle.std.proofs.lemmas.Bool.{cases_eq, cases_lt, or_cases, true≢false}
use Rattle.std.proofs.lemmas.Bool.Decides.{nat_tests}
use Rattle.std.proofs.lemmas.List.{drop_all, drop_more, get_or-map, length-map, map-id}
use Rattle.std.proofs.lemmas.List.Elements.{All-head, All-tail, All-filter, All-map, All-weaker, filter_passes}
use Rattle.std.proofs.lemmas.List.Folds.{list_any_at, list_any_none}
use Rattle.doc_types.specs.declared.tokens.TheConstants.{MAX_POSITION}
use Rattle.doc_types.specs.declared.tokens.ZoneSpan.{ZoneSpan}
use Rattle.occ_lists.specs.declared.term.Term.{Term}
use Rattle.occ_lists.specs.Places.{ArePlaces, has_place, is_before, occ, within_all}
use Rattle.occ_lists.specs.Runs.{follow, runs}
use Rattle.occ_lists.specs.steps.Follow.{ending_at, next_place}
use Rattle.occ_lists.specs.Terms.{IsPlaced}
use Rattle.occ_lists.proofs.Kept.{filter_all, filter_filter}

-- ---- whether a place is one of a keyword's
-- how a search compares places
abbrev pub place_cmp : ℕ × ℕ → ℕ × ℕ → Ordering
place_cmp p q = ordering_then (nat_cmp p.0 q.0) (nat_cmp p.1 q.1)

same_place : (p q : ℕ × ℕ) → place_cmp p q ≡ Equal → ((p.0 == q.0) && (p.1 == q.1)) ≡ true
same_place p q same = grind (arith, nat_tests)

earlier_place : (p q : ℕ × ℕ) → place_cmp p q ≡ Less → ((p.0 == q.0) && (p.1 == q.1)) ≡ false
earlier_place p q less = grind (arith, nat_tests)

later_place : (p q : ℕ × ℕ) → place_cmp p q ≡ Greater → ((p.0 == q.0) && (p.1 == q.1)) ≡ false
later_place p q greater = grind (arith, nat_tests)

compared_up : (p later q : ℕ × ℕ) → is_before p later ≡ true → ordering_index (place_cmp p q) ≤ ordering_index (place_cmp later q)
compared_up p later q before = grind (arith, nat_tests)

compared : (places : List (ℕ × ℕ)) (place : ℕ × ℕ) → ArePlaces places → IsNonDecreasingBy (λ p. ordering_index (place_cmp p place)) places
compared places place ascend i j d up within = elim (cases_eq i j) [
  | inl same ↦ rw same (omega arith)
  | inr other ↦ compared_up (get_or places i d) (get_or places j d) place (ascend i j d (omega arith) within)
]

-- what a search among places finds
pub place_found : (places : List (ℕ × ℕ)) (place : ℕ × ℕ) (found : Result ℕ ℕ) → ArePlaces places → IsSearchInRange found (length places) → IsBinarySearchResult (λ p. place_cmp p place) places found → is_ok found ≡ has_place places place
place_found places place (Ok i) ascend within position = sym (list_any_at (λ p. (p.0 == place.0) && (p.1 == place.1)) places i place within (same_place (get_or places i place) place (position place)))
place_found places place (Err i) ascend within position =
    let parts = position (compared places place ascend) in
    sym (list_any_none (λ p. (p.0 == place.0) && (p.1 == place.1)) places (λ k d h. elim (cases_lt k i) [
      | inl before ↦ earlier_place (get_or places k d) place (parts.0 k d (omega arith) before)
      | inr after ↦ later_place (get_or places k d) place (parts.1 k d after h)
    ]))

-- ---- one position on
-- one position on, as far as there are numbers
abbrev pub capped : ℕ × ℕ → ℕ × ℕ
capped place = (place.0, min (place.1 + 1) 4294967295)

-- what a closure leaves that goes on with no change to itself
pub retains_alike : {S X : Type 0} (R : S → X → Bool → S → X → Type 0) (test : X → Bool) (change : X → X) (s : S) → ((x : X) (b : Bool) (t : S) (y : X) → R s x b t y → (t ≡ s) × (b ≡ test x) × (y ≡ change x)) → (xs ys : List X) → RetainsInTurn R s xs ys → ys ≡ retain_mut test change xs
retains_alike R test change s says [] ys told = told
retains_alike {S} {X} R test change s says (x ∷ xs) ys told =
    let said = says x told.0 told.1 told.2 told.3 in
    let rest : told.4 ≡ retain_mut test change xs = retains_alike R test change s says xs told.4 (subst (λ (t : S). RetainsInTurn R t xs told.4) said.0 told.5) in
    told.6
    ∙ ap (λ b. cond b (told.2 ∷ told.4) told.4) said.1
    ∙ ap (λ (y : X). cond (test x) (y ∷ told.4) told.4) said.2
    ∙ ap (λ (zs : List X). cond (test x) (change x ∷ zs) zs) rest

capped_is : (place : ℕ × ℕ) → place.1 < 4294967295 → capped place ≡ next_place place
capped_is place below = ap (λ n. (place.0, n)) (omega arith)

pub moved_is : (places ends : List (ℕ × ℕ)) → All (λ end. end.1 < 4294967295) ends → retain_mut (λ end. has_place places (capped end)) capped ends ≡ filter (has_place places) (map next_place ends)
moved_is places [] below = refl
moved_is places (end ∷ ends) below =
    let here : capped end ≡ next_place end = capped_is end (All-head (λ e. e.1 < 4294967295) end ends below) in
    ap (λ e. cond (has_place places e) (e ∷ retain_mut (λ end. has_place places (capped end)) capped ends) (retain_mut (λ end. has_place places (capped end)) capped ends)) here
    ∙ ap (λ rest. cond (has_place places (next_place end)) (next_place end ∷ rest) rest) (moved_is places ends (All-tail (λ e. e.1 < 4294967295) end ends below))

-- ---- from keyword to keyword
-- the places at which the keywords that are left end, where they follow these ones
abbrev pub run_ends : List (ℕ × ℕ) → List (List (ℕ × ℕ)) → List (ℕ × ℕ)
run_ends ends [] = ends
run_ends ends (places ∷ rest) = run_ends (filter (has_place places) (map next_place ends)) rest

abbrev shifted : ℕ → ℕ × ℕ → ℕ × ℕ
shifted n place = (place.0, place.1 + n)

map_alike : {X Y : Type 0} (f g : X → Y) → ((x : X) → f x ≡ g x) → (xs : List X) → map f xs ≡ map g xs
map_alike f g alike [] = refl
map_alike f g alike (x ∷ xs) = ap (λ y. y ∷ map f xs) (alike x) ∙ ap (λ ys. g x ∷ ys) (map_alike f g alike xs)

map_map : {X Y Z : Type 0} (g : Y → Z) (f : X → Y) (xs : List X) → map g (map f xs) ≡ map (λ x. g (f x)) xs
map_map g f [] = refl
map_map g f (x ∷ xs) = ap (λ zs. g (f x) ∷ zs) (map_map g f xs)

map_kept : {X Y : Type 0} (f : X → Y) (b : Bool) (x : X) (xs : List X) → cond b (f x ∷ map f xs) (map f xs) ≡ map f (cond b (x ∷ xs) xs)
map_kept f true x xs = refl
map_kept f false x xs = refl

filter_map_is : {X Y : Type 0} (p : Y → Bool) (f : X → Y) (xs : List X) → filter p (map f xs) ≡ map f (filter (λ x. p (f x)) xs)
filter_map_is p f [] = refl
filter_map_is p f (x ∷ xs) =
    ap (λ ys. cond (p (f x)) (f x ∷ ys) ys) (filter_map_is p f xs)
    ∙ map_kept f (p (f x)) x (filter (λ x. p (f x)) xs)

run_ends_are : (ends : List (ℕ × ℕ)) (lists : List (List (ℕ × ℕ))) → run_ends ends lists ≡ map (shifted (length lists)) (filter (λ place. follow place lists) ends)
run_ends_are ends [] =
    sym (map-id ends)
    ∙ map_alike (λ place. place) (shifted 0) (λ place. ap (λ n. (place.0, n)) (omega arith)) ends
    ∙ ap (map (shifted 0)) (sym (filter_all (λ place. true) ends (λ k d h. refl)))
run_ends_are ends (places ∷ rest) =
    let later : ℕ × ℕ → Bool = λ place. follow place rest in
    run_ends_are (filter (has_place places) (map next_place ends)) rest
    ∙ ap (map (shifted (length rest))) (filter_filter later (has_place places) (map next_place ends))
    ∙ ap (map (shifted (length rest))) (filter_map_is (λ place. has_place places place && follow place rest) next_place ends)
    ∙ map_map (shifted (length rest)) next_place (filter (λ place. follow place (places ∷ rest)) ends)
    ∙ map_alike (λ place. shifted (length rest) (next_place place)) (shifted (length (places ∷ rest))) (λ place. ap (λ n. (place.0, n)) (omega arith)) (filter (λ place. follow place (places ∷ rest)) ends)

-- the runs are those that end there
pub runs_end : (first : List (ℕ × ℕ)) (lists : List (List (ℕ × ℕ))) → map (ending_at (length lists)) (run_ends first lists) ≡ runs (first ∷ lists)
runs_end first lists =
    let n = length lists in
    let kept = filter (λ place. follow place lists) first in
    ap (map (ending_at n)) (run_ends_are first lists)
    ∙ map_map (ending_at n) (shifted n) kept
    ∙ map_alike (λ place. ending_at n (shifted n place)) (λ place. occ place.0 place.1 (place.1 + n)) (λ place. ap (λ k. occ place.0 k (place.1 + n)) (omega arith)) kept

-- The places that are left after some of the keywords lead to where the runs end. Each is far enough from the field's beginning.
pub record Followed (first : List (ℕ × ℕ)) (lists : List (List (ℕ × ℕ))) (i : ℕ) (ends : List (ℕ × ℕ)) : Type 0 where
  pub leads : run_ends ends (drop i lists) ≡ run_ends first lists
  pub bounds : All (λ end. (i < end.1) × (end.1 ≤ MAX_POSITION)) ends

abbrev pub Small : List (ℕ × ℕ) → Type 0
Small places = All (λ place. (1 ≤ place.1) × (place.1 ≤ MAX_POSITION)) places

pub followed_none : (first : List (ℕ × ℕ)) (lists : List (List (ℕ × ℕ))) → Small first → Followed first lists 0 first
followed_none first lists small = record {
  leads = refl;
  bounds = All-weaker (λ place. (1 ≤ place.1) × (place.1 ≤ MAX_POSITION)) (λ end. (0 < end.1) × (end.1 ≤ MAX_POSITION)) (λ place said. (omega arith, said.1)) first small;
}

-- a place that is one of the places is as small as they are
small_place : (places : List (ℕ × ℕ)) (end : ℕ × ℕ) → Small places → has_place places end ≡ true → end.1 ≤ MAX_POSITION
small_place [] end small has = absurd (true≢false (sym has))
small_place (place ∷ places) end small has =
    let here = All-head (λ p. (1 ≤ p.1) × (p.1 ≤ MAX_POSITION)) place places small in
    elim (or_cases ((place.0 == end.0) && (place.1 == end.1)) (has_place places end) has) [
      | inl same ↦ grind (arith, nat_tests)
      | inr later ↦ small_place places end (All-tail (λ p. (1 ≤ p.1) × (p.1 ≤ MAX_POSITION)) place places small) later
    ]

pub followed_more : (first : List (ℕ × ℕ)) (lists : List (List (ℕ × ℕ))) (i : ℕ) (ends places : List (ℕ × ℕ)) → i < length lists → places ≡ get_or lists i [] → Small places → Followed first lists i ends → Followed first lists (i + 1) (filter (has_place places) (map next_place ends))
followed_more first lists i ends places within is small so_far =
    let moved = map next_place ends in
    let up : All (λ end. i + 1 < end.1) moved = All-map (λ end. i + 1 < end.1) next_place ends (All-weaker (λ end. (i < end.1) × (end.1 ≤ MAX_POSITION)) (λ end. i + 1 < end.1 + 1) (λ end said. omega arith) ends so_far.bounds) in
    let split : drop i lists ≡ places ∷ drop (i + 1) lists = drop_more lists i [] within ∙ ap (λ ps. ps ∷ drop (i + 1) lists) (sym is) in
    record {
      leads = sym (ap (run_ends ends) split) ∙ so_far.leads;
      bounds = λ k d h.
          let one : i + 1 < (get_or (filter (has_place places) moved) k d).1 = All-filter (has_place places) (λ end. i + 1 < end.1) moved up k d h in
          let other : (get_or (filter (has_place places) moved) k d).1 ≤ MAX_POSITION = small_place places (get_or (filter (has_place places) moved) k d) small (filter_passes (has_place places) moved k d h) in
          (one, other);
    }

-- all keywords are followed
pub followed_all : (first : List (ℕ × ℕ)) (lists : List (List (ℕ × ℕ))) (i : ℕ) (ends : List (ℕ × ℕ)) → length lists ≤ i → Followed first lists i ends → map (ending_at (length lists)) ends ≡ runs (first ∷ lists)
followed_all first lists i ends past so_far =
    ap (map (ending_at (length lists))) (sym (ap (run_ends ends) (drop_all i lists past)) ∙ so_far.leads)
    ∙ runs_end first lists

-- ---- the keywords' places inside spans
abbrev pub spots : List (ℕ × ZoneSpan) → Term → List (ℕ × ℕ)
spots spans term = filter (within_all spans) term.places.items

pub spots_small : (spans : List (ℕ × ZoneSpan)) (term : Term) → IsPlaced term → Small (spots spans term)
spots_small spans term placed = All-filter (within_all spans) (λ place. (1 ≤ place.1) × (place.1 ≤ MAX_POSITION)) term.places.items placed.small

-- the keywords of a phrase, the first and the rest
pub first_placed : (terms rest : List Term) (first : Term) → terms ≡ first ∷ rest → All IsPlaced terms → IsPlaced first
first_placed terms rest first is placed = All-head IsPlaced first rest (subst (λ (ts : List Term). All IsPlaced ts) is placed)

pub term_placed : (terms rest : List Term) (first term : Term) (i : ℕ) → terms ≡ first ∷ rest → All IsPlaced terms → i < length rest → term ≡ get_or rest i term → IsPlaced term
term_placed terms rest first term i is placed within here =
    subst (λ (t : Term). IsPlaced t) (sym here) (All-tail IsPlaced first rest (subst (λ (ts : List Term). All IsPlaced ts) is placed) i term within)

-- one keyword more
pub term_followed : (spans : List (ℕ × ZoneSpan)) (first : List (ℕ × ℕ)) (rest : List Term) (term : Term) (i : ℕ) (ends : List (ℕ × ℕ)) → i < length rest → term ≡ get_or rest i term → IsPlaced term → Followed first (map (spots spans) rest) i ends → Followed first (map (spots spans) rest) (i + 1) (filter (has_place (spots spans term)) (map next_place ends))
term_followed spans first rest term i ends within here placed so_far =
    followed_more first (map (spots spans) rest) i ends (spots spans term) (omega (arith, length-map rest (spots spans)))
    (ap (spots spans) here ∙ sym (get_or-map (spots spans) rest i term [] within)) (spots_small spans term placed) so_far

-- all keywords of a phrase
pub phrase_runs : (spans : List (ℕ × ZoneSpan)) (terms rest : List Term) (first : Term) (start ends : List (ℕ × ℕ)) (i : ℕ) → terms ≡ first ∷ rest → start ≡ spots spans first → length rest ≤ i → Followed start (map (spots spans) rest) i ends → map (ending_at (length rest)) ends ≡ runs (map (spots spans) terms)
phrase_runs spans terms rest first start ends i is begins past so_far =
    ap (λ n. map (ending_at n) ends) (sym (length-map rest (spots spans)))
    ∙ followed_all start (map (spots spans) rest) i ends (omega (arith, length-map rest (spots spans))) so_far
    ∙ ap (λ ps. runs (ps ∷ map (spots spans) rest)) begins
    ∙ ap (λ ts. runs (map (spots spans) ts)) (sym is)
