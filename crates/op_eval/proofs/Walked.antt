-- Cursors that a plan led on, as those of a query's keywords; and rows whose words the cursors tell.
use Rattle.std.proofs.Common.{arith, ◌≡◌, ◌≤◌, ◌<◌, ◌+◌, refl, sym, ap, ◌∙◌, subst, ℕ, zero, suc, Bool, true, false, cond, List, [], ◌∷◌, length, map, ◌++◌, get_or, zero-add, Option, Some, None, slice_get, inl, inr}
use Rattle.std.specs.Prelude.{All, ◌||◌, ◌==◌, not, nat_le}
use Rattle.std.specs.List.{AllZip, filter, list_any, enumerate_from}
use Rattle.std.proofs.lemmas.Bool.{and_cases, and_left, and_right, and_parts, not-true, eq-eqb, ne_eqb, lt-leb}
use Rattle.std.proofs.lemmas.List.Elements.{All-nil, All-cons, All-tail, All-weaker}
use Rattle.std.proofs.lemmas.Option.{slice_get-get_or}
use Rattle.doc_types.specs.declared.cursor.Cursor.{Cursor}
use Rattle.doc_types.specs.declared.cursor.TheConstants.{NO_ROW}
use Rattle.doc_types.specs.declared.documents.DocRow.{DocRow}
use Rattle.doc_types.specs.Chunks.{CursorPlace, IsCursorPlace, has_word, rows_with}
use Rattle.query_tree.specs.declared.key.Key.{Key}
use Rattle.query_tree.specs.declared.query.Node.{Node}
use Rattle.query_tree.specs.TreeKeys.{node_keys}
use Rattle.word_rows.specs.Slots.{Stands, number_among}
use Rattle.word_rows.proofs.Lists.{filter_none}
use Rattle.word_rows.proofs.Passing.{all_weaken}
use Rattle.op_eval.specs.steps.Searching.{node_found}
use Rattle.op_eval.specs.steps.Streaming.{IsFirstOpen}
use Rattle.op_eval.specs.steps.Wanted.{is_wanted, lives, numbers_from}
use Rattle.op_eval.proofs.RowsAhead.{end_ahead, none_ahead}
use Rattle.op_eval.proofs.Searched.{node_apart}
use Rattle.row_plans.specs.declared.plan.Plan.{Plan}
use Rattle.row_plans.specs.Cursors.{Agree, Keeps, has_at, is_ahead}
use Rattle.row_plans.specs.Living.{is_living}
use Rattle.row_plans.specs.Plans.{IsFirst, holds}
use Rattle.row_plans.proofs.Kept.{in_above}
use Rattle.row_plans.proofs.Seeking.{is_in, is_in_below, numbers_rise}
use Rattle.op_eval.specs.steps.Planned.{Serves, has_key}

-- ---- the rows that have a word

module _ {X : Type 0} (p : X → Bool) where
  abbrev numbers : ℕ → List X → List ℕ
  numbers n xs = map (λ e. e.0) (filter (λ e. p e.1) (enumerate_from n xs))

  abbrev with_first : Bool → ℕ → X → List X → List ℕ
  with_first b n x xs = map (λ e. e.0) (cond b ((n, x) ∷ filter (λ e. p e.1) (enumerate_from (n + 1) xs)) (filter (λ e. p e.1) (enumerate_from (n + 1) xs)))

  in_here : (b : Bool) (n row : ℕ) (x : X) (xs : List X) → row ≡ n → is_in row (with_first b n x xs) ≡ b
  in_here true n row x xs e = ap (λ t. t || is_in row (numbers (n + 1) xs)) (eq-eqb n row (sym e))
  in_here false n row x xs e = is_in_below (n + 1) row (numbers (n + 1) xs) (omega (arith, e)) (numbers_rise p (n + 1) xs)

  in_later : (b : Bool) (n row : ℕ) (x : X) (xs : List X) → n < row → is_in row (with_first b n x xs) ≡ is_in row (numbers (n + 1) xs)
  in_later true n row x xs l = ap (λ t. t || is_in row (numbers (n + 1) xs)) (ne_eqb n row (λ e. absurd (omega (arith, e, l))))
  in_later false n row x xs l = refl

  in_numbers : (n row k : ℕ) (xs : List X) (x : X) → row ≡ n + k → slice_get xs k ≡ Some x → is_in row (numbers n xs) ≡ p x
  in_numbers n row k [] x e at = cc
  in_numbers n row zero (y ∷ xs) x e at =
      let same : y ≡ x = cc in
      in_here (p y) n row y xs (omega (arith, e)) ∙ ap p same
  in_numbers n row (suc k) (y ∷ xs) x e at = in_later (p y) n row y xs (omega (arith, e)) ∙ in_numbers (n + 1) row k xs x (omega (arith, e)) at

  below_by : (b : Bool) (n m : ℕ) (x : X) (xs : List X) → n < m → All (λ k. k < m) (numbers (n + 1) xs) → All (λ k. k < m) (with_first b n x xs)
  below_by true n m x xs l rest = All-cons (λ k. k < m) n (numbers (n + 1) xs) l rest
  below_by false n m x xs l rest = rest

  numbers_below : (n m : ℕ) (xs : List X) → n + length xs ≤ m → All (λ k. k < m) (numbers n xs)
  numbers_below n m [] fits = All-nil (λ k. k < m)
  numbers_below n m (x ∷ xs) fits = below_by (p x) n m x xs (omega arith) (numbers_below (n + 1) m xs (omega arith))

-- the last of some numbers
last_below : (m : ℕ) (behind xs : List ℕ) → All (λ k. k < m) (behind ++ xs) → All (λ k. k < m) xs
last_below m [] xs below = below
last_below m (b ∷ behind) xs below = last_below m behind xs (All-tail (λ k. k < m) b (behind ++ xs) below)

none_from : (m : ℕ) (xs : List ℕ) → All (λ k. k < m) xs → filter (nat_le m) xs ≡ []
none_from m xs below = filter_none (nat_le m) xs (All-weaker (λ k. k < m) (λ k. nat_le m k ≡ false) (λ k l. lt-leb m k l) xs below)

-- rows that don't pass are left behind
left_behind : (passes : ℕ × DocRow → Bool) (rows : List DocRow) (low high : ℕ) → low ≤ high → high ≤ length rows → ((r : ℕ) (found : DocRow) → low ≤ r → r < high → slice_get rows r ≡ Some found → passes (r, found) ≡ false)
    → numbers_from passes low rows ≡ numbers_from passes high rows
left_behind passes [] low high up within none = ap (λ n. numbers_from passes n []) (omega (arith, up, within))
left_behind passes (first ∷ rows) low high up within none =
    none_ahead passes (first ∷ rows) low high first up within (λ r above below. none r (get_or (first ∷ rows) r first) above below (slice_get-get_or (first ∷ rows) r first (omega (arith, below, within))))

-- ---- cursors

module _ (belongs : Cursor → Type 0) (place : Cursor → CursorPlace) (rows : List DocRow) where
  it_kept : (row : ℕ) (word : List ℕ) (old new : Option Cursor) → Stands belongs place rows row word old → Keeps belongs place row old new → Stands belongs place rows row word new
  it_kept row word None new stands keeps = subst (Stands belongs place rows row word) (sym keeps) stands
  it_kept row word (Some old) None stands keeps = absurd keeps
  it_kept row word (Some old) (Some new) stands keeps = record { its = keeps.its; over = keeps.word ∙ stands.over; ahead = keeps.ahead ∙ stands.ahead }

  kept_at : (row : ℕ) (words : List (List ℕ)) (old new : List (Option Cursor)) → AllZip (Stands belongs place rows row) words old → Agree belongs place row old new → AllZip (Stands belongs place rows row) words new
  kept_at row [] [] [] stand agree = tt
  kept_at row [] [] (n ∷ new) stand agree = absurd agree
  kept_at row [] (o ∷ old) new stand agree = absurd stand
  kept_at row (word ∷ words) [] new stand agree = absurd stand
  kept_at row (word ∷ words) (o ∷ old) [] stand agree = absurd agree
  kept_at row (word ∷ words) (o ∷ old) (n ∷ new) stand agree = (it_kept row word o n stand.0 agree.0, kept_at row words old new stand.1 agree.1)

  -- at the row to which they were led
  pub all_kept : (from row : ℕ) (words : List (List ℕ)) (old new : List (Option Cursor)) → from ≤ row → AllZip (Stands belongs place rows from) words old → Agree belongs place row old new → AllZip (Stands belongs place rows row) words new
  all_kept from row words old new l stand agree = kept_at row words old new (all_weaken belongs place rows from row l words old stand) agree

  module _ (places : (cursor : Cursor) → belongs cursor → IsCursorPlace rows (place cursor)) where
    it_ended : (row : ℕ) (word : List ℕ) (cursor : Option Cursor) → length rows ≤ row → Stands belongs place rows row word cursor → Stands belongs place rows (length rows) word cursor
    it_ended row word None l stands = stands
    it_ended row word (Some cursor) l stands =
        let its = places cursor stands.its in
        let all : All (λ k. k < length rows) (its.behind ++ (place cursor).ahead) = subst (All (λ k. k < length rows)) (sym its.both) (numbers_below (has_word (place cursor).word) 0 (length rows) rows (omega arith)) in
        record {
          its = stands.its;
          over = stands.over;
          ahead = none_from (length rows) (place cursor).ahead (last_below (length rows) its.behind (place cursor).ahead all) ∙ sym (none_from (length rows) (rows_with word rows) (numbers_below (has_word word) 0 (length rows) rows (omega arith)));
        }

    -- behind all rows
    pub all_ended : (row : ℕ) (words : List (List ℕ)) (cursors : List (Option Cursor)) → length rows ≤ row → AllZip (Stands belongs place rows row) words cursors → AllZip (Stands belongs place rows (length rows)) words cursors
    all_ended row [] [] l stand = tt
    all_ended row [] (c ∷ cursors) l stand = absurd stand
    all_ended row (word ∷ words) [] l stand = absurd stand
    all_ended row (word ∷ words) (c ∷ cursors) l stand = (it_ended row word c l stand.0, all_ended row words cursors l stand.1)

  -- ---- what they tell of a row

  module _ (from row : ℕ) (found : DocRow) (l : from ≤ row) (here : slice_get rows row ≡ Some found) where
    has_here : (word : List ℕ) → is_in row (rows_with word rows) ≡ has_word word found
    has_here word = in_numbers (has_word word) 0 row row rows found (sym (zero-add row)) here

    it_tells : (word : List ℕ) (cursor : Option Cursor) → Stands belongs place rows from word cursor → is_ahead place row cursor ≡ has_word word found
    it_tells word None stands = ap (is_in row) (sym stands) ∙ has_here word
    it_tells word (Some cursor) stands = in_above from row (place cursor).ahead l ∙ ap (is_in row) stands.ahead ∙ sym (in_above from row (rows_with word rows) l) ∙ has_here word

    one_tells : (keys : List Key) (cursors : List (Option Cursor)) → AllZip (Stands belongs place rows from) (map (λ key. key.word) keys) cursors → (number : ℕ) → has_at place cursors row number ≡ has_key found keys number
    one_tells [] [] stand number = refl
    one_tells [] (c ∷ cursors) stand number = absurd stand
    one_tells (key ∷ keys) [] stand number = absurd stand
    one_tells (key ∷ keys) (c ∷ cursors) stand zero = it_tells key.word c stand.0
    one_tells (key ∷ keys) (c ∷ cursors) stand (suc number) = one_tells keys cursors stand.1 number

    -- the words of the row
    all_tell : (keys : List Key) (cursors : List (Option Cursor)) → AllZip (Stands belongs place rows from) (map (λ key. key.word) keys) cursors → has_at place cursors row ≡ has_key found keys
    all_tell keys cursors stand = λ i number. one_tells keys cursors stand number i

    -- a row of which the plan doesn't hold
    pub denied : (plan : Plan) (root : Node) (cursors : List (Option Cursor)) → AllZip (Stands belongs place rows from) (map (λ key. key.word) (node_keys root)) cursors → Serves plan root → holds (has_at place cursors row) plan ≡ false → (node_found root found).matches ≡ false
    denied plan root cursors stand serves e =
        serves found (number_among (node_keys root)) (node_apart root) (ap (λ (has : ℕ → Bool). holds has plan) (sym (all_tell (node_keys root) cursors stand)) ∙ e) []

  -- ---- the next row that isn't dead

  module _ (plan : Plan) (root : Node) (cursors : List (Option Cursor)) (from : ℕ) (stand : AllZip (Stands belongs place rows from) (map (λ key. key.word) (node_keys root)) cursors) (serves : Serves plan root) (dead : List ℕ) (row : ℕ)
      (first : IsFirst (λ row. is_living (has_at place cursors row) plan dead row) from row) where
    unwanted : (r : ℕ) (found : DocRow) → from ≤ r → r < row → slice_get rows r ≡ Some found → is_wanted root dead (r, found) ≡ false
    unwanted r found l m here = elim (and_cases (holds (has_at place cursors r) plan) (not (list_any (λ d. d == r) dead)) (first.none r l m)) [
      | inl none ↦ and_left (node_found root found).matches (lives dead r) (denied from r found l here plan root cursors stand serves none)
      | inr gone ↦ and_right (node_found root found).matches (lives dead r) gone
    ]

    pub living_there : row < length rows → row < NO_ROW → IsFirstOpen (is_wanted root dead) dead rows from (Some row)
    living_there within small = record {
      on = first.on;
      within = within;
      living = not-true (list_any (λ d. d == row) dead) (and_parts (holds (has_at place cursors row) plan) (not (list_any (λ d. d == row) dead)) (first.found small)).1;
      passed = sym (left_behind (is_wanted root dead) rows from row first.on (omega (arith, within)) unwanted);
    }

    pub living_gone : from ≤ length rows → length rows ≤ row → IsFirstOpen (is_wanted root dead) dead rows from None
    living_gone start end =
        left_behind (is_wanted root dead) rows from (length rows) start (omega arith) (λ r found l m here. unwanted r found l (omega (arith, m, end)) here)
        ∙ end_ahead (is_wanted root dead) rows (length rows) (omega arith)
