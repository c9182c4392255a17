-- Cursors that go over rows: what is ahead of them.
use Rattle.std.proofs.Common.{◌≡◌, ℕ, ◌≤◌, List, [], ◌∷◌, Bool, true, false, cond, Option, Some, None, IfSome, slice_get, nat_le, nat_lt, refl, sym, ap, subst, ◌∙◌, arith}
use Rattle.std.specs.Prelude.{All, ◌&&◌}
use Rattle.std.specs.List.{AllZip, filter}
use Rattle.std.specs.Option.{IfNone}
use Rattle.std.proofs.lemmas.Bool.Decides.{nat_tests}
use Rattle.std.proofs.lemmas.List.Elements.{All-nil, All-cons, filter_agree}
use Rattle.doc_types.specs.declared.cursor.Cursor.{Cursor}
use Rattle.doc_types.specs.declared.documents.DocRow.{DocRow}
use Rattle.doc_types.specs.Chunks.{CursorPlace, first_place, place_from, rows_from, rows_with}
use Rattle.word_rows.proofs.Lists.{filter_twice}
use Rattle.word_rows.specs.steps.Cursors.{HasPassed, Passes}
use Rattle.word_rows.specs.Slots.{Stands, next_of, next_with}

kept_by : (row x : ℕ) (xs : List ℕ) (b : Bool) → nat_lt x row ≡ b → filter (nat_le row) (rows_from row xs) ≡ filter (nat_le row) xs → filter (nat_le row) (cond b (rows_from row xs) (x ∷ xs)) ≡ filter (nat_le row) (x ∷ xs)
kept_by row x xs true low rest =
    let fails : nat_le row x ≡ false = grind (arith, nat_tests) in
    rest ∙ sym (ap (λ b. cond b (x ∷ filter (nat_le row) xs) (filter (nat_le row) xs)) fails)
kept_by row x xs false high rest = refl

-- the rows from one on are none the fewer, and they begin with the first of them
kept_from : (row : ℕ) (xs : List ℕ) → filter (nat_le row) (rows_from row xs) ≡ filter (nat_le row) xs
kept_from row [] = refl
kept_from row (x ∷ xs) = kept_by row x xs (nat_lt x row) refl (kept_from row xs)

first_by : (row x : ℕ) (xs : List ℕ) (b : Bool) → nat_lt x row ≡ b → slice_get (rows_from row xs) 0 ≡ slice_get (filter (nat_le row) xs) 0 → slice_get (cond b (rows_from row xs) (x ∷ xs)) 0 ≡ slice_get (filter (nat_le row) (x ∷ xs)) 0
first_by row x xs true low rest =
    let fails : nat_le row x ≡ false = grind (arith, nat_tests) in
    rest ∙ sym (ap (λ b. slice_get (cond b (x ∷ filter (nat_le row) xs) (filter (nat_le row) xs)) 0) fails)
first_by row x xs false high rest =
    let passes : nat_le row x ≡ true = grind (arith, nat_tests) in
    sym (ap (λ b. slice_get (cond b (x ∷ filter (nat_le row) xs) (filter (nat_le row) xs)) 0) passes)

first_from : (row : ℕ) (xs : List ℕ) → slice_get (rows_from row xs) 0 ≡ slice_get (filter (nat_le row) xs) 0
first_from row [] = refl
first_from row (x ∷ xs) = first_by row x xs (nat_lt x row) refl (first_from row xs)

above_both : (from row : ℕ) → from ≤ row → (m : ℕ) → (nat_le from m && nat_le row m) ≡ nat_le row m
above_both from row order m = grind (arith, nat_tests)

higher : (from row : ℕ) (ms : List ℕ) → from ≤ row → filter (nat_le row) (filter (nat_le from) ms) ≡ filter (nat_le row) ms
higher from row ms order = filter_twice (nat_le row) (nat_le from) ms ∙ filter_agree (λ m. nat_le from m && nat_le row m) (nat_le row) (above_both from row order) ms

-- what `seek` gives
pub sought : (belongs : Cursor → Type 0) (place : Cursor → CursorPlace) (row : ℕ) (old new : Cursor) → belongs new → place new ≡ place_from row (place old) → HasPassed belongs place row old new
sought belongs place row old new its moved = record {
  kept = record {
    its = its;
    over = ap (λ (p : CursorPlace). p.word) moved;
    ahead = ap (λ (p : CursorPlace). filter (nat_le row) p.ahead) moved ∙ kept_from row (place old).ahead;
  };
  next = ap (λ (p : CursorPlace). slice_get p.ahead 0) moved ∙ first_from row (place old).ahead;
}

-- what `start` gives
pub started : (belongs : Cursor → Type 0) (place : Cursor → CursorPlace) (rows : List DocRow) (word bytes : List ℕ) (cursor : Option Cursor) → bytes ≡ word → IfNone cursor (rows_with bytes rows ≡ []) → IfSome cursor (λ c. belongs c × (place c ≡ first_place bytes rows)) → Stands belongs place rows 0 word cursor
started belongs place rows word bytes None same none some = ap (λ w. rows_with w rows) (sym same) ∙ none
started belongs place rows word bytes (Some cursor) same none some = record {
  its = some.0;
  over = ap (λ (p : CursorPlace). p.word) some.1 ∙ same;
  ahead = ap (λ (p : CursorPlace). filter (nat_le 0) p.ahead) some.1 ∙ ap (λ w. filter (nat_le 0) (rows_with w rows)) same;
}

-- ---- all cursors
module _ (belongs : Cursor → Type 0) (place : Cursor → CursorPlace) (rows : List DocRow) where
  pub it_belongs : (from : ℕ) (word : List ℕ) (cursor : Option Cursor) → Stands belongs place rows from word cursor → IfSome cursor belongs
  it_belongs from word None stands = tt
  it_belongs from word (Some cursor) stands = stands.its

  pub all_belong : (from : ℕ) (words : List (List ℕ)) (cursors : List (Option Cursor)) → AllZip (Stands belongs place rows from) words cursors → All (λ cursor. IfSome cursor belongs) cursors
  all_belong from [] [] stand = All-nil (λ cursor. IfSome cursor belongs)
  all_belong from [] (cursor ∷ cursors) stand = absurd stand
  all_belong from (word ∷ words) [] stand = absurd stand
  all_belong from (word ∷ words) (cursor ∷ cursors) stand = All-cons (λ cursor. IfSome cursor belongs) cursor cursors (it_belongs from word cursor stand.0) (all_belong from words cursors stand.1)

  it_passed : (row : ℕ) (word : List ℕ) (old new : Option Cursor) → Stands belongs place rows row word old → Passes belongs place row old new → Stands belongs place rows row word new × (next_of place new ≡ next_with word rows row)
  it_passed row word None new stands passes =
      let none : next_with word rows row ≡ None = ap (λ ms. slice_get (filter (nat_le row) ms) 0) stands in
      (subst (Stands belongs place rows row word) (sym passes) stands, ap (next_of place) passes ∙ sym none)
  it_passed row word (Some old) None stands passes = absurd passes
  it_passed row word (Some old) (Some new) stands passes = (
    record { its = passes.kept.its; over = passes.kept.over ∙ stands.over; ahead = passes.kept.ahead ∙ stands.ahead },
    passes.next ∙ ap (λ ms. slice_get ms 0) stands.ahead,
  )

  abbrev IsAt : ℕ → List ℕ → Option Cursor → Type 0
  IsAt row word cursor = next_of place cursor ≡ next_with word rows row

  pub all_passed : (row : ℕ) (words : List (List ℕ)) (old new : List (Option Cursor)) → AllZip (Stands belongs place rows row) words old → AllZip (Passes belongs place row) old new → AllZip (Stands belongs place rows row) words new × AllZip (IsAt row) words new
  all_passed row [] [] [] stand pass = (tt, tt)
  all_passed row [] [] (c ∷ new) stand pass = absurd pass
  all_passed row [] (b ∷ old) new stand pass = absurd stand
  all_passed row (word ∷ words) [] new stand pass = absurd stand
  all_passed row (word ∷ words) (b ∷ old) [] stand pass = absurd pass
  all_passed row (word ∷ words) (b ∷ old) (c ∷ new) stand pass =
      let one = it_passed row word b c stand.0 pass.0 in
      let rest = all_passed row words old new stand.1 pass.1 in
      ((one.0, rest.0), (one.1, rest.1))

  -- cursors that have not gone over a row from one on have not gone over one from a later one on
  it_weakens : (from row : ℕ) → from ≤ row → (word : List ℕ) (cursor : Option Cursor) → Stands belongs place rows from word cursor → Stands belongs place rows row word cursor
  it_weakens from row order word None stands = stands
  it_weakens from row order word (Some cursor) stands = record {
    its = stands.its;
    over = stands.over;
    ahead = sym (higher from row (place cursor).ahead order) ∙ ap (filter (nat_le row)) stands.ahead ∙ higher from row (rows_with word rows) order;
  }

  pub all_weaken : (from row : ℕ) → from ≤ row → (words : List (List ℕ)) (cursors : List (Option Cursor)) → AllZip (Stands belongs place rows from) words cursors → AllZip (Stands belongs place rows row) words cursors
  all_weaken from row order [] [] stand = tt
  all_weaken from row order [] (cursor ∷ cursors) stand = absurd stand
  all_weaken from row order (word ∷ words) [] stand = absurd stand
  all_weaken from row order (word ∷ words) (cursor ∷ cursors) stand = (it_weakens from row order word cursor stand.0, all_weaken from row order words cursors stand.1)
