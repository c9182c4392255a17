-- The workers' numbers: each worker has tokens of its own, and an engine that ends before a worker began has the tokens that it gave.
use Rattle.std.proofs.Common.{◌≡◌, ℕ, zero, suc, ◌<◌, ◌≤◌, ◌==◌, Bool, true, false, List, [], ◌∷◌, ◌++◌, length, map, Option, Some, None, slice_get, refl, ap, sym, subst, ◌∙◌, arith, append-nil, append_assoc, length-append}
use Rattle.std.proofs.lemmas.Bool.Decides.{nat_tests}
use Rattle.std.proofs.lemmas.Grind.{flat_map-append}
use Rattle.std.proofs.lemmas.List.{map-append}
use Rattle.std.proofs.lemmas.Map.Keys.{IsDistinct-cons, IsDistinct-head, IsDistinct-tail}
use Rattle.std.specs.List.{AllByRecursion, IsDistinct}
use Rattle.std.specs.Option.{option_to_list}
use Rattle.commit_outcomes.specs.declared.strayed.Strayed.{Strayed}
use Rattle.step_line.specs.Lines.{new_line, new_token}
use Rattle.step_tokens.specs.Tokens.{TokenValue}
use Rattle.store_keep.specs.Names.{first_tokens}
use Rattle.store_keep.specs.Tellings.{AreTokensOf}
use Rattle.snap_share.specs.Closings.{WorkersDiffer}
use Rattle.engine_tables.specs.Tokens.{SeatsDiffer, TokensValue, new_seat, new_seats, new_tokens, none_told, told_at, told_of, tokens_at}
use Rattle.engine_tables.specs.steps.Lasts.{shortened}
use Rattle.engine_tables.proofs.Makings.{length_new}
use Rattle.engine_tables.proofs.Places.{get_end, get_more}

abbrev pub workers_of : List TokenValue → List ℕ
workers_of tokens = map (λ (token : TokenValue). token.worker) tokens

abbrev pub owners_of : List TokensValue → List ℕ
owners_of seats = map (λ (seat : TokensValue). seat.worker) seats

abbrev same : ℕ → ℕ → Bool
same one other = one == other

-- a seat's token was put behind the others
pub owners_more : (old mid column : List TokenValue) (token : TokenValue) (seat : TokensValue) (others seats : List TokensValue) → mid ≡ old ++ token ∷ [] → token.worker ≡ seat.worker → seats ≡ seat ∷ others → workers_of column ≡ workers_of mid ++ owners_of others → workers_of column ≡ workers_of old ++ owners_of seats
owners_more old mid column token seat others seats mid_is own seats_is rest =
    rest
    ∙ ap (λ (m : List TokenValue). workers_of m ++ owners_of others) mid_is
    ∙ ap (λ (w : List ℕ). w ++ owners_of others) (map-append (λ (t : TokenValue). t.worker) old (token ∷ []))
    ∙ append_assoc (workers_of old) (token.worker ∷ []) (owners_of others)
    ∙ ap (λ (w : ℕ). workers_of old ++ w ∷ owners_of others) own
    ∙ ap (λ (s : List TokensValue). workers_of old ++ owners_of s) (sym seats_is)

pub owners_none : (column : List TokenValue) (seats : List TokensValue) → seats ≡ [] → workers_of column ≡ workers_of column ++ owners_of seats
owners_none column seats none = sym (append-nil (workers_of column)) ∙ ap (λ (s : List TokensValue). workers_of column ++ owners_of s) (sym none)

-- seats with one index less are of the same workers
owners_stay : (seats : List TokensValue) → owners_of (map shortened seats) ≡ owners_of seats
owners_stay [] = refl
owners_stay (seat ∷ seats) = ap (λ (w : List ℕ). seat.worker ∷ w) (owners_stay seats)

pub differ_before : (seats left : List TokensValue) → left ≡ map shortened seats → SeatsDiffer seats → SeatsDiffer left
differ_before seats left is differ = record { apart = subst (IsDistinct same) (sym (owners_stay seats) ∙ ap owners_of (sym is)) differ.apart }

-- the tokens of seats that differ
pub column_differs : (none column tokens : List TokenValue) (seats given : List TokensValue) → none ≡ [] → tokens ≡ column → given ≡ seats → workers_of column ≡ workers_of none ++ owners_of given → SeatsDiffer seats → WorkersDiffer tokens
column_differs none column tokens seats given none_is tokens_are given_is owners differ =
    let are : workers_of tokens ≡ owners_of seats = ap workers_of tokens_are ∙ owners ∙ ap (λ (n : List TokenValue). workers_of n ++ owners_of given) none_is ∙ ap owners_of given_is in
    subst (IsDistinct same) (sym are) differ.apart

-- the numbers of so many workers
numbers : ℕ → List ℕ
numbers zero = []
numbers (suc workers) = numbers workers ++ suc workers ∷ []

numbered_seats : (indexes workers : ℕ) → owners_of (new_seats indexes workers) ≡ numbers workers
unfolding numbers
numbered_seats indexes zero = refl
numbered_seats indexes (suc workers) =
    map-append (λ (s : TokensValue). s.worker) (new_seats indexes workers) (new_seat indexes (suc workers) ∷ [])
    ∙ ap (λ (w : List ℕ). w ++ suc workers ∷ []) (numbered_seats indexes workers)

numbered_tokens : (index workers : ℕ) → workers_of (first_tokens index workers) ≡ numbers workers
unfolding numbers
numbered_tokens index zero = refl
numbered_tokens index (suc workers) =
    map-append (λ (t : TokenValue). t.worker) (first_tokens index workers) (new_token index (suc workers) [] ∷ [])
    ∙ ap (λ (w : List ℕ). w ++ suc workers ∷ []) (numbered_tokens index workers)

all_more : (P : ℕ → Type 0) (xs : List ℕ) (y : ℕ) → AllByRecursion P xs → P y → AllByRecursion P (xs ++ y ∷ [])
all_more P [] y all one = (one, tt)
all_more P (x ∷ xs) y all one = (all.0, all_more P xs y all.1 one)

below : (workers next : ℕ) → workers < next → AllByRecursion (λ (w : ℕ). (w == next) ≡ false) (numbers workers)
unfolding numbers
below zero next less = tt
below (suc workers) next less =
    let apart : (suc workers == next) ≡ false = grind (arith, nat_tests, less) in
    all_more (λ (w : ℕ). (w == next) ≡ false) (numbers workers) (suc workers) (below workers next (omega (arith, less))) apart

distinct_more : (xs : List ℕ) (y : ℕ) → AllByRecursion (λ (x : ℕ). (x == y) ≡ false) xs → IsDistinct same xs → IsDistinct same (xs ++ y ∷ [])
distinct_more [] y apart distinct = IsDistinct-cons same y [] tt distinct
distinct_more (x ∷ xs) y apart distinct =
    IsDistinct-cons same x (xs ++ y ∷ [])
    (all_more (λ (z : ℕ). (x == z) ≡ false) xs y (IsDistinct-head same x xs distinct) apart.0)
    (distinct_more xs y apart.1 (IsDistinct-tail same x xs distinct))

numbers_differ : (workers : ℕ) → IsDistinct same (numbers workers)
unfolding numbers IsDistinct
numbers_differ zero = tt
numbers_differ (suc workers) = distinct_more (numbers workers) (suc workers) (below workers (suc workers) (omega arith)) (numbers_differ workers)

pub seats_differ : (indexes workers : ℕ) → SeatsDiffer (new_seats indexes workers)
seats_differ indexes workers = record { apart = subst (IsDistinct same) (sym (numbered_seats indexes workers)) (numbers_differ workers) }

pub tokens_differ : (index workers : ℕ) → WorkersDiffer (first_tokens index workers)
tokens_differ index workers = subst (IsDistinct same) (sym (numbered_tokens index workers)) (numbers_differ workers)

more_of : (index most : ℕ) (xs : List TokenValue) (token : TokenValue) → AreTokensOf (new_line index most) xs → token.index ≡ index → 0 < token.worker → token.worker ≤ most → AreTokensOf (new_line index most) (xs ++ token ∷ [])
more_of index most [] token of is above within = (is, above, within, tt)
more_of index most (x ∷ xs) token of is above within = (of.0, of.1, of.2, more_of index most xs token of.3 is above within)

-- the first tokens of an index are of it
pub first_of : (index workers most : ℕ) → workers ≤ most → AreTokensOf (new_line index most) (first_tokens index workers)
first_of index zero most within = tt
first_of index (suc workers) most within =
    more_of index most (first_tokens index workers) (new_token index (suc workers) []) (first_of index workers most (omega (arith, within))) refl (omega arith) within

-- what seats that nobody has worked with have of an index
get_new : (worker indexes place : ℕ) → place < indexes → slice_get (new_tokens worker indexes) place ≡ Some (new_token place worker [])
get_new worker zero place within = absurd (omega (arith, within))
get_new worker (suc indexes) place within =
    elim (place == indexes) as (λ b. (place == indexes) ≡ b → slice_get (new_tokens worker indexes ++ new_token indexes worker [] ∷ []) place ≡ Some (new_token place worker [])) [
      | true ↦ λ e. (
          let at : place ≡ indexes = grind (arith, nat_tests, e) in
          get_end (new_tokens worker indexes) (new_token indexes worker []) place (at ∙ sym (length_new worker indexes)) ∙ ap (λ (i : ℕ). Some (new_token i worker [])) (sym at)
          )
      | false ↦ λ e. (
          let before : place < indexes = grind (arith, nat_tests, e, within) in
          get_more (new_tokens worker indexes) (new_token indexes worker []) (new_token place worker []) place (get_new worker indexes place before)
          )
    ] refl

pub length_none : (indexes : ℕ) → length (none_told indexes) ≡ indexes
length_none zero = refl
length_none (suc indexes) = omega (arith, length-append (none_told indexes) (None ∷ []), length_none indexes)

get_none : (indexes place : ℕ) → place < indexes → slice_get (none_told indexes) place ≡ Some None
get_none zero place within = absurd (omega (arith, within))
get_none (suc indexes) place within =
    elim (place == indexes) as (λ b. (place == indexes) ≡ b → slice_get (none_told indexes ++ None ∷ []) place ≡ Some None) [
      | true ↦ λ e. (let at : place ≡ indexes = grind (arith, nat_tests, e) in get_end (none_told indexes) None place (at ∙ sym (length_none indexes)))
      | false ↦ λ e. (let before : place < indexes = grind (arith, nat_tests, e, within) in get_more (none_told indexes) None None place (get_none indexes place before))
    ] refl

pub first_tokens_at : (place indexes workers : ℕ) → place < indexes → tokens_at place (new_seats indexes workers) ≡ first_tokens place workers
first_tokens_at place indexes zero within = refl
first_tokens_at place indexes (suc workers) within =
    flat_map-append (λ (seat : TokensValue). option_to_list (slice_get seat.list place)) (new_seats indexes workers) (new_seat indexes (suc workers) ∷ [])
    ∙ ap (λ (f : Option TokenValue). tokens_at place (new_seats indexes workers) ++ (option_to_list f ++ [])) (get_new (suc workers) indexes place within)
    ∙ ap (λ (ts : List TokenValue). ts ++ new_token place (suc workers) [] ∷ []) (first_tokens_at place indexes workers within)

pub none_told_at : (place indexes workers : ℕ) → place < indexes → told_at place (new_seats indexes workers) ≡ []
none_told_at place indexes zero within = refl
none_told_at place indexes (suc workers) within =
    flat_map-append (λ (seat : TokensValue). told_of (slice_get seat.told place)) (new_seats indexes workers) (new_seat indexes (suc workers) ∷ [])
    ∙ ap (λ (f : Option (Option Strayed)). told_at place (new_seats indexes workers) ++ (told_of f ++ [])) (get_none indexes place within)
    ∙ ap (λ (ts : List Strayed). ts ++ []) (none_told_at place indexes workers within)
