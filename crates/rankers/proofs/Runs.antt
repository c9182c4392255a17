-- Hits whose fields ascend: those of a field stand together, and each field looks at its own.
use Rattle.std.proofs.Common.{◌≡◌, ℕ, zero, suc, ◌+◌, ◌^◌, ◌<◌, ◌≤◌, Bool, true, false, cond, ◌==◌, List, [], ◌∷◌, ◌++◌, length, get_or, take, drop, inl, inr, refl, sym, ap, subst, ◌∙◌, append_assoc, append-nil, arith}
use Rattle.std.specs.List.{filter, enumerate_from, sum_by, prefix_len, All, AllPairs}
use Rattle.std.proofs.lemmas.Bool.{cases_eq, ne_eqb, eqb-true}
use Rattle.std.proofs.lemmas.List.{nil_from_length, take-append-drop}
use Rattle.std.proofs.lemmas.List.Elements.{All-nil, All-cons, All-head, All-tail, All-append, All-weaker, filter-append}
use Rattle.std.proofs.lemmas.List.Kept.{AllPairs-cons}
use Rattle.std.proofs.lemmas.List.Sums.{sum_by-cons}
use Rattle.doc_types.specs.declared.hits.Hit.{Hit}
use Rattle.rankers.specs.declared.ranker.Ranker.{Ranker}
use Rattle.rankers.specs.Weight.{Differ, in_field}
use Rattle.rankers.specs.steps.FieldValue.{AreWithin, IsWithin, own_value, field_value, fields_value}
use Rattle.rankers.proofs.FieldValues.{IsSummed, summed_more, summed_all, value_with, value_without}

-- ---- the parts of a list

module _ {X : Type 0} where
  all_left : (P : X → Type 0) (xs ys : List X) → All P (xs ++ ys) → All P xs
  all_left P [] ys all = All-nil P
  all_left P (x ∷ xs) ys all = All-cons P x xs (All-head P x (xs ++ ys) all) (all_left P xs ys (All-tail P x (xs ++ ys) all))

  all_right : (P : X → Type 0) (xs ys : List X) → All P (xs ++ ys) → All P ys
  all_right P [] ys all = all
  all_right P (x ∷ xs) ys all = all_right P xs ys (All-tail P x (xs ++ ys) all)

  pairs_head : (R : X → X → Type 0) (x : X) (xs : List X) → AllPairs R (x ∷ xs) → All (R x) xs
  pairs_head R x xs pairs k d within = pairs 0 (suc k) d (omega arith) (omega arith)

  pairs_tail : (R : X → X → Type 0) (x : X) (xs : List X) → AllPairs R (x ∷ xs) → AllPairs R xs
  pairs_tail R x xs pairs i j d order within = pairs (suc i) (suc j) d (omega arith) (omega arith)

  pairs_left : (R : X → X → Type 0) (xs ys : List X) → AllPairs R (xs ++ ys) → AllPairs R xs
  pairs_left R [] ys pairs = λ i j d order within. absurd (omega arith)
  pairs_left R (x ∷ xs) ys pairs = AllPairs-cons R x xs (all_left (R x) xs ys (pairs_head R x (xs ++ ys) pairs)) (pairs_left R xs ys (pairs_tail R x (xs ++ ys) pairs))

  pairs_right : (R : X → X → Type 0) (xs ys : List X) → AllPairs R (xs ++ ys) → AllPairs R ys
  pairs_right R [] ys pairs = pairs
  pairs_right R (x ∷ xs) ys pairs = pairs_right R xs ys (pairs_tail R x (xs ++ ys) pairs)

  filter_none : (p : X → Bool) (xs : List X) → All (λ x. p x ≡ false) xs → filter p xs ≡ []
  filter_none p [] fails = refl
  filter_none p (x ∷ xs) fails =
      ap (λ b. cond b (x ∷ filter p xs) (filter p xs)) (All-head (λ x. p x ≡ false) x xs fails) ∙ filter_none p xs (All-tail (λ x. p x ≡ false) x xs fails)

  passed : (p : X → Bool) (x : X) (xs : List X) (n : ℕ) (b : Bool) → p x ≡ b → All (λ x. p x ≡ true) (take n xs) → All (λ x. p x ≡ true) (take (cond b (1 + n) 0) (x ∷ xs))
  passed p x xs n true is rest =
      let more : 1 + n ≡ suc n = omega arith in
      subst (λ m. All (λ x. p x ≡ true) (take m (x ∷ xs))) (sym more) (All-cons (λ x. p x ≡ true) x (take n xs) is rest)
  passed p x xs n false is rest = All-nil (λ x. p x ≡ true)

  -- what comes first passes
  taken_pass : (p : X → Bool) (xs : List X) → All (λ x. p x ≡ true) (take (prefix_len p xs) xs)
  taken_pass p [] = All-nil (λ x. p x ≡ true)
  taken_pass p (x ∷ xs) = passed p x xs (prefix_len p xs) (p x) refl (taken_pass p xs)

-- ---- what the fields up to one give

same_below : (f g : ℕ × ℕ → ℕ) (m n : ℕ) (weights : List ℕ) → ((e : ℕ × ℕ) → e.0 < m + n → f e ≡ g e) → sum_by f (take n (enumerate_from m weights)) ≡ sum_by g (take n (enumerate_from m weights))
same_below f g m zero weights same = refl
same_below f g m (suc n) [] same = refl
same_below f g m (suc n) (w ∷ ws) same =
    let here = same (m, w) (omega arith) in
    let rest = same_below f g (m + 1) n ws (λ e low. same e (omega (arith, low))) in
    omega (arith, here, rest, sum_by-cons f (m, w) (take n (enumerate_from (m + 1) ws)), sum_by-cons g (m, w) (take n (enumerate_from (m + 1) ws)))

-- what a field gives, by its own hits
by_own : (ranker : Ranker) (most number weight : ℕ) (hits others : List Hit) → in_field number hits ≡ in_field number others → field_value ranker most number weight hits ≡ field_value ranker most number weight others
by_own ranker most number weight hits others same =
    elim (cases_eq (length (in_field number hits)) 0) [
      | inl none ↦ sym (value_without ranker most number weight hits none) ∙ value_without ranker most number weight others (sym (ap length same) ∙ none)
      | inr some ↦
          sym (value_with ranker ranker most number weight (own_value ranker most number weight (in_field number hits)) hits refl (omega (arith, some)) refl)
          ∙ value_with ranker ranker most number weight (own_value ranker most number weight (in_field number hits)) others refl (omega (arith, some, ap length same)) (ap (own_value ranker most number weight) same)
    ]

module _ (field : ℕ) (before own : List Hit) (here : All (λ hit. (hit.field == field) ≡ true) own) where
  earlier_field : (number : ℕ) → number < field → in_field number (before ++ own) ≡ in_field number before
  earlier_field number low =
      filter-append (λ (hit : Hit). hit.field == number) before own
      ∙ (ap (λ hits. in_field number before ++ hits)
      (filter_none (λ (hit : Hit). hit.field == number) own
      (All-weaker (λ (hit : Hit). (hit.field == field) ≡ true) (λ hit. (hit.field == number) ≡ false) (λ hit is. ne_eqb hit.field number (λ e. absurd (let at = eqb-true hit.field field is in omega (arith, low, e, at)))) own here))
      ∙ append-nil (in_field number before))

  this_field : All (λ hit. hit.field < field) before → in_field field (before ++ own) ≡ in_field field own
  this_field below =
      filter-append (λ (hit : Hit). hit.field == field) before own
      ∙ ap (λ hits. hits ++ in_field field own)
      (filter_none (λ (hit : Hit). hit.field == field) before
      (All-weaker (λ (hit : Hit). hit.field < field) (λ hit. (hit.field == field) ≡ false) (λ hit low. ne_eqb hit.field field (λ e. absurd (omega (arith, low, e)))) before below))

-- the hits before the rest are of the fields that were summed
pub record AreSummed (ranker : Ranker) (most : ℕ) (weights : List ℕ) (hits rest : List Hit) (count total : ℕ) : Type 0 where
  pub before : List Hit
  pub both : before ++ rest ≡ hits
  pub below : All (λ hit. hit.field < count) before
  pub within : AreWithin rest
  pub summed : IsSummed (λ number weight. field_value ranker most number weight before) weights count total

pub summed_none : (ranker : Ranker) (most : ℕ) (weights : List ℕ) (hits : List Hit) → AreWithin hits → AreSummed ranker most weights hits hits 0 0
summed_none ranker most weights hits within = record {
  before = [];
  both = refl;
  below = All-nil (λ (hit : Hit). hit.field < 0);
  within = within;
  summed = record { value = refl; bound = omega arith };
}

module _ (ranker : Ranker) (most : ℕ) (weights : List ℕ) (hits rest : List Hit) (count total : ℕ) (are : AreSummed ranker most weights hits rest count total) where
  abbrev run : ℕ
  run = prefix_len (λ (hit : Hit). hit.field == count) rest

  whole : take run rest ++ drop run rest ≡ rest
  whole = take-append-drop run rest

  own_within : AreWithin (take run rest ++ drop run rest)
  own_within = subst AreWithin (sym whole) are.within

  pub within_own : AreWithin (take run rest)
  within_own = record {
    each = all_left IsWithin (take run rest) (drop run rest) own_within.each;
    apart = pairs_left Differ (take run rest) (drop run rest) own_within.apart;
  }

  -- one field more
  pub run_more : (more : ℕ) → count < length weights → more ≡ field_value ranker most count (get_or weights count 0) (take run rest) → more ≤ 2 ^ 54 → AreSummed ranker most weights hits (drop run rest) (count + 1) (total + more)
  run_more more inside is small =
      let own = take run rest in
      let here : All (λ hit. (hit.field == count) ≡ true) own = taken_pass (λ (hit : Hit). hit.field == count) rest in
      let after : List Hit = are.before ++ own in
      let earlier = same_below (λ (e : ℕ × ℕ). field_value ranker most e.0 e.1 are.before) (λ (e : ℕ × ℕ). field_value ranker most e.0 e.1 after) 0 count weights
      (λ e low. by_own ranker most e.0 e.1 are.before after (sym (earlier_field count are.before own here e.0 (omega (arith, low))))) in
      let so : IsSummed (λ number weight. field_value ranker most number weight after) weights count total = record { value = are.summed.value ∙ earlier; bound = are.summed.bound } in
      record {
        before = after;
        both = append_assoc are.before own (drop run rest) ∙ (ap (λ hs. are.before ++ hs) whole ∙ are.both);
        below =
            All-append (λ (hit : Hit). hit.field < count + 1) are.before own
            (All-weaker (λ (hit : Hit). hit.field < count) (λ hit. hit.field < count + 1) (λ hit low. omega (arith, low)) are.before are.below)
            (All-weaker (λ (hit : Hit). (hit.field == count) ≡ true) (λ hit. hit.field < count + 1) (λ hit at. let e = eqb-true hit.field count at in omega (arith, e)) own here);
        within = record {
          each = all_right IsWithin own (drop run rest) own_within.each;
          apart = pairs_right Differ own (drop run rest) own_within.apart;
        };
        summed =
            summed_more (λ number weight. field_value ranker most number weight after) weights count total so more inside
            (is ∙ by_own ranker most count (get_or weights count 0) own after (sym (this_field count are.before own here are.below)))
            small;
      }

  -- all fields, where no hit is left
  pub runs_all : length rest ≡ 0 → length weights ≤ count → total ≡ fields_value ranker most weights hits
  runs_all none all =
      let same : are.before ≡ hits = sym (append-nil are.before) ∙ (ap (λ hs. are.before ++ hs) (sym (nil_from_length rest none)) ∙ are.both) in
      summed_all (λ number weight. field_value ranker most number weight are.before) weights count total are.summed all ∙ ap (fields_value ranker most weights) same

-- what is empty has no element
pub empty_is : (long : ℕ) (empty : Bool) → empty ≡ (long == 0) → empty ≡ true → long ≡ 0
empty_is long empty is none = eqb-true long 0 (sym is ∙ none)
