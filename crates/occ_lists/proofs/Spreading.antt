-- Occurrences that are made to reach as far as those before them: how a loop comes to that list, that each then reaches as far as
-- those before it, and that the list holds the same places.
use Rattle.std.proofs.Common.{◌≡◌, ℕ, suc, ◌+◌, ◌-◌, ◌<◌, ◌≤◌, Bool, true, false, ◌||◌, List, [], ◌∷◌, ◌++◌, append_assoc, length, length-set, get_or, set, take, take_all, drop, refl, sym, ap, ◌∙◌, arith}
use Rattle.std.proofs.lemmas.List.{append-nil, drop_all, drop_more, drop-set-lt, get_or-set_same, get_or_read, take_more_set}
use Rattle.std.specs.List.{All, list_any}
use Rattle.std.proofs.lemmas.Bool.Decides.{nat_tests}
use Rattle.std.proofs.lemmas.List.Elements.{All-nil, All-cons}
use Rattle.std.proofs.lemmas.List.Kept.{AllPairs-cons}
use Rattle.occ_lists.specs.declared.occ.Occ.{Occ}
use Rattle.occ_lists.specs.Places.{occ, holds}
use Rattle.occ_lists.specs.OccLists.{Ascend, precedes}
use Rattle.occ_lists.specs.steps.Spread.{Spreads, IsSpread, reaching, spread_after, spread_all}

-- those before a place reach far enough already, and the others are as they were
pub record Spreading (initial now : List Occ) (at : ℕ) : Type 0 where
  pub long : length now ≡ length initial
  pub goes_on : take at now ++ spread_after (get_or now (at - 1) (occ 0 0 0)) (drop at now) ≡ spread_all initial

pub spreading_none : (occs : List Occ) → Spreading occs occs 1
spreading_none [] = record { long = refl; goes_on = refl }
spreading_none (o ∷ rest) = record { long = refl; goes_on = refl }

pub spreading_more : (initial now : List Occ) (at : ℕ) (before here made : Occ) → Spreading initial now at → 1 ≤ at → at < length now → before ≡ get_or now (at - 1) before → here ≡ get_or now at here → made ≡ reaching before here → Spreading initial (set now at made) (at + 1)
spreading_more initial now at before here made so_far low within was is makes =
    let rest = drop (at + 1) now in
    let was' : before ≡ get_or now (at - 1) (occ 0 0 0) = get_or_read now (at - 1) before (omega arith) was (occ 0 0 0) in
    let is' : here ≡ get_or now at (occ 0 0 0) = get_or_read now at here within is (occ 0 0 0) in
    let front : take (at + 1) (set now at made) ≡ take at now ++ made ∷ [] = take_more_set now at made within in
    let back : drop (at + 1) (set now at made) ≡ rest = drop-set-lt (at + 1) now at made (omega arith) in
    let index : at + 1 - 1 ≡ at = omega arith in
    let last : get_or (set now at made) (at + 1 - 1) (occ 0 0 0) ≡ made = ap (λ i. get_or (set now at made) i (occ 0 0 0)) index ∙ get_or-set_same now at made (occ 0 0 0) within in
    let split : drop at now ≡ here ∷ rest = drop_more now at (occ 0 0 0) within ∙ ap (λ o. o ∷ rest) (sym is') in
    let step : spread_after (get_or now (at - 1) (occ 0 0 0)) (drop at now) ≡ made ∷ spread_after made rest =
    ap (spread_after (get_or now (at - 1) (occ 0 0 0))) split ∙ ap (λ b. spread_after b (here ∷ rest)) (sym was') ∙ ap (λ m. m ∷ spread_after m rest) (sym makes) in
    record {
      long = length-set now at made ∙ so_far.long;
      goes_on =
          ap (λ xs. xs ++ spread_after (get_or (set now at made) (at + 1 - 1) (occ 0 0 0)) (drop (at + 1) (set now at made))) front
          ∙ ap (λ m. (take at now ++ made ∷ []) ++ spread_after m (drop (at + 1) (set now at made))) last
          ∙ ap (λ xs. (take at now ++ made ∷ []) ++ spread_after made xs) back
          ∙ append_assoc (take at now) (made ∷ []) (spread_after made rest)
          ∙ ap (λ xs. take at now ++ xs) (sym step)
          ∙ so_far.goes_on;
    }

pub spreading_all : (initial now : List Occ) (at : ℕ) → Spreading initial now at → length now ≤ at → now ≡ spread_all initial
spreading_all initial now at so_far past =
    sym (append-nil now)
    ∙ ap (λ xs. xs ++ []) (sym (take_all at now past))
    ∙ ap (λ xs. take at now ++ spread_after (get_or now (at - 1) (occ 0 0 0)) xs) (sym (drop_all at now past))
    ∙ so_far.goes_on

-- ---- each reaches as far as those before it
-- the one begins at the other's place or before
abbrev pub Begins : Occ → Occ → Type 0
Begins o later = (o.field ≤ later.field) × (o.field ≡ later.field → o.first ≤ later.first)

abbrev pub Rises : Occ → List Occ → Type 0
Rises before [] = Unit {0}
Rises before (o ∷ rest) = Begins before o × Rises o rest

begins : (o later : Occ) → precedes o later ≡ true → Begins o later
begins o later before = (grind (arith, nat_tests), grind (arith, nat_tests))

ascend_rest : (o : Occ) (rest : List Occ) → Ascend (o ∷ rest) → Ascend rest
ascend_rest o rest ascend i j d up within = ascend (suc i) (suc j) d (omega arith) (omega arith)

pub rises : (before : Occ) (rest : List Occ) → Ascend (before ∷ rest) → Rises before rest
rises before [] ascend = tt
rises before (o ∷ rest) ascend = (begins before o (ascend 0 1 before (omega arith) (omega arith)), rises o rest (ascend_rest before (o ∷ rest) ascend))

rises_alike : (before o : Occ) (rest : List Occ) → Rises o rest → Rises (reaching before o) rest
rises_alike before o [] up = tt
rises_alike before o (next ∷ rest) up = up

spreads_itself : (o : Occ) → Spreads o o
spreads_itself o = record { fields = omega arith; firsts = λ e. omega arith; lasts = λ e. omega arith }

spreads_trans : (a b c : Occ) → Spreads a b → Spreads b c → Spreads a c
spreads_trans a b c ab bc = record {
  fields = omega (arith, ab.fields, bc.fields);
  firsts = λ e. omega (arith, ab.fields, bc.fields, ab.firsts (omega (arith, ab.fields, bc.fields)), bc.firsts (omega (arith, ab.fields, bc.fields)));
  lasts = λ e. omega (arith, ab.fields, bc.fields, ab.lasts (omega (arith, ab.fields, bc.fields)), bc.lasts (omega (arith, ab.fields, bc.fields)));
}

spreads_reaching : (before o : Occ) → Begins before o → Spreads before (reaching before o)
spreads_reaching before o up = record {
  fields = up.0;
  firsts = up.1;
  lasts = λ e. grind (arith, nat_tests);
}

spreads_all_after : (earlier before : Occ) (rest : List Occ) → Spreads earlier before → Rises before rest → All (Spreads earlier) (spread_after before rest)
spreads_all_after earlier before [] far up = All-nil (Spreads earlier)
spreads_all_after earlier before (o ∷ rest) far up =
    let next : Spreads earlier (reaching before o) = spreads_trans earlier before (reaching before o) far (spreads_reaching before o up.0) in
    All-cons (Spreads earlier) (reaching before o) (spread_after (reaching before o) rest) next
    (spreads_all_after earlier (reaching before o) rest next (rises_alike before o rest up.1))

spread_pairs : (before : Occ) (rest : List Occ) → Rises before rest → IsSpread (before ∷ spread_after before rest)
spread_pairs before [] up = AllPairs-cons Spreads before [] (All-nil (Spreads before)) (λ i j d up within. absurd (omega arith))
spread_pairs before (o ∷ rest) up =
    AllPairs-cons Spreads before (spread_after before (o ∷ rest)) (spreads_all_after before before (o ∷ rest) (spreads_itself before) up)
    (spread_pairs (reaching before o) rest (rises_alike before o rest up.1))

pub spread_is : (occs : List Occ) → Ascend occs → IsSpread (spread_all occs)
spread_is [] ascend = λ i j d up within. absurd (omega arith)
spread_is (o ∷ rest) ascend = spread_pairs o rest (rises o rest ascend)

-- ---- the same places
or_joined : (a b c d : Bool) → (a || b) ≡ (a || c) → (a || (b || d)) ≡ (a || (c || d))
or_joined true b c d same = refl
or_joined false b c d same = ap (λ x. x || d) same

holds_reaching : (before o : Occ) (place : ℕ × ℕ) → Begins before o → (holds before place || holds (reaching before o) place) ≡ (holds before place || holds o place)
holds_reaching before o place up = grind (arith, nat_tests)

held_after : (place : ℕ × ℕ) (before : Occ) (rest : List Occ) → Rises before rest → (holds before place || list_any (λ o. holds o place) (spread_after before rest)) ≡ (holds before place || list_any (λ o. holds o place) rest)
held_after place before [] up = refl
held_after place before (o ∷ rest) up =
    ap (λ b. holds before place || b) (held_after place (reaching before o) rest (rises_alike before o rest up.1))
    ∙ or_joined (holds before place) (holds (reaching before o) place) (holds o place) (list_any (λ o. holds o place) rest) (holds_reaching before o place up.0)

pub spread_holds : (occs : List Occ) → Ascend occs → (place : ℕ × ℕ) → list_any (λ o. holds o place) (spread_all occs) ≡ list_any (λ o. holds o place) occs
spread_holds [] ascend place = refl
spread_holds (o ∷ rest) ascend place = held_after place o rest (rises o rest ascend)
