-- The words of all parts, merged.
use Rattle.std.proofs.Common.{◌≡◌, ◌≢◌, ℕ, ◌+◌, ◌<◌, ◌≤◌, List, [], ◌∷◌, ◌++◌, Bool, true, false, Option, Some, None, nat_le, if◌then◌else◌, slice_get, length, get_or, set, replicate, refl, sym, ap, subst, ◌∙◌, arith, All, Contains, ◌⊎◌, ⊎_elim}
use Rattle.std.specs.Cmp.Lexicographic.{slice_cmp}
use Rattle.std.specs.List.{list_any}
use Rattle.std.specs.Ordering.{nat_cmp}
use Rattle.std.specs.declared.cmp.Ordering.TheVariants.{Less}
use Rattle.std.proofs.lemmas.Bool.{both_ways, cases_Bool, cases_lt, cases_order, le-leb, leb-true, lt-leb}
use Rattle.std.proofs.lemmas.List.{get_or-replicate, get_or-set_other, get_or-set_same, get_or_default, length-replicate, take_all}
use Rattle.std.proofs.lemmas.List.Elements.{All-nil, All-push, Contains-append_left, Contains-push}
use Rattle.std.proofs.lemmas.List.Quantifiers.{all_pairs_push}
use Rattle.std.proofs.lemmas.Option.{none-some, same_Some, slice_get-get_or, slice_get_within}
use Rattle.prefix_terms.specs.steps.Parts.{Ascend, PartValue, less}
use Rattle.prefix_terms.specs.steps.Keeping.{AreFound, with_living}
use Rattle.prefix_terms.specs.steps.Merging.{ArePassed, AreMerged, AreWordsUpTo, IsLeastWord, IsPassed, IsWordOf, StandAt, blank_part, front_at, is_ahead, lesser, lives_in, number_at, part_at}
use Rattle.prefix_terms.proofs.Order.{is_less, less_than, not_back, not_itself, not_less, same_word}
use Rattle.prefix_terms.proofs.Runs.{in_order}

equal_or_below : (a b : ℕ) → a < b + 1 → (a ≡ b) ⊎ (a < b)
equal_or_below a b low = grind arith

-- ---- the least of the words at which the parts stand

nothing_before : (parts : List PartValue) (numbers : List ℕ) → IsLeastWord parts numbers 0 None
nothing_before parts numbers k low = absurd (omega (arith, low))

pub least_none : (parts : List PartValue) (numbers : List ℕ) (now : Option (List ℕ)) → now ≡ None → IsLeastWord parts numbers 0 now
least_none parts numbers now e = subst (IsLeastWord parts numbers 0) (sym e) (nothing_before parts numbers)

module _ (parts : List PartValue) (numbers : List ℕ) (i : ℕ) where
  not_now : (word front : List ℕ) → front_at parts numbers i ≡ None → front_at parts numbers i ≡ Some front → less front word ≡ false
  not_now word front none at = absurd (none-some front (sym none ∙ at))

  more_none : (now : Option (List ℕ)) → front_at parts numbers i ≡ None → IsLeastWord parts numbers i now → IsLeastWord parts numbers (i + 1) (lesser now None)
  more_none None none was = λ k low. ⊎_elim (λ same. ap (front_at parts numbers) same ∙ none) (λ below. was k below) (equal_or_below k i low)
  more_none (Some word) none was = (
    (was.0.0, omega (arith, was.0.1), was.0.2),
    λ k front low at. ⊎_elim (λ same. not_now word front none (sym (ap (front_at parts numbers) same) ∙ at)) (λ below. was.1 k front below at) (equal_or_below k i low),
  )

  same_front : (own front : List ℕ) (k : ℕ) → front_at parts numbers i ≡ Some own → k ≡ i → front_at parts numbers k ≡ Some front → own ≡ front
  same_front own front k here same at = same_Some own front (sym here ∙ sym (ap (front_at parts numbers) same) ∙ at)

  more_first : (own : List ℕ) → front_at parts numbers i ≡ Some own → ((k : ℕ) (front : List ℕ) → k < i → front_at parts numbers k ≡ Some front → less front own ≡ false) → IsLeastWord parts numbers (i + 1) (Some own)
  more_first own here before = (
    (i, omega arith, here),
    λ k front low at.
        ⊎_elim
        (λ same. subst (λ (w : List ℕ). less w own ≡ false) (same_front own front k here same at) (not_itself own))
        (λ below. before k front below at)
        (equal_or_below k i low),
  )

  more_kept : (word own : List ℕ) → front_at parts numbers i ≡ Some own → less own word ≡ false → IsLeastWord parts numbers i (Some word) → IsLeastWord parts numbers (i + 1) (Some word)
  more_kept word own here high was = (
    (was.0.0, omega (arith, was.0.1), was.0.2),
    λ k front low at.
        ⊎_elim
        (λ same. subst (λ (w : List ℕ). less w word ≡ false) (same_front own front k here same at) high)
        (λ below. was.1 k front below at)
        (equal_or_below k i low),
  )

  more_some : (now : Option (List ℕ)) (own : List ℕ) → front_at parts numbers i ≡ Some own → IsLeastWord parts numbers i now → IsLeastWord parts numbers (i + 1) (lesser now (Some own))
  more_some None own here was = more_first own here (λ k front low at. absurd (none-some front (sym (was k low) ∙ at)))
  more_some (Some word) own here was =
      elim (less own word) as (λ b. less own word ≡ b → IsLeastWord parts numbers (i + 1) (if b then Some own else Some word)) [
        | true ↦ λ low. more_first own here (λ k front below at. not_less front word own (was.1 k front below at) (not_back own word low))
        | false ↦ λ high. more_kept word own here high was
      ] refl

  -- one part more
  pub least_more : (part : PartValue) (now own after : Option (List ℕ)) → i < length parts → part ≡ get_or parts i part → own ≡ slice_get part.words (number_at numbers i) → after ≡ lesser now own → IsLeastWord parts numbers i now → IsLeastWord parts numbers (i + 1) after
  least_more part now own after low is of put was =
      let here : part ≡ part_at parts i = is ∙ get_or_default parts i part blank_part low in
      let its : own ≡ front_at parts numbers i = of ∙ ap (λ (p : PartValue). slice_get p.words (number_at numbers i)) here in
      subst (IsLeastWord parts numbers (i + 1)) (sym (put ∙ ap (lesser now) its)) (by_front (front_at parts numbers i) refl)
    where
      by_front : (front : Option (List ℕ)) → front_at parts numbers i ≡ front → IsLeastWord parts numbers (i + 1) (lesser now front)
      by_front None at = more_none now at was
      by_front (Some own_word) at = more_some now own_word at was

pub least_all : (parts : List PartValue) (numbers : List ℕ) (i count : ℕ) (word : Option (List ℕ)) → i ≡ count → IsLeastWord parts numbers i word → IsLeastWord parts numbers count word
least_all parts numbers i count word same was = subst (λ n. IsLeastWord parts numbers n word) same was

-- ---- the word is gone over

-- one part more
pub passed_more : (word : List ℕ) (parts : List PartValue) (old now : List ℕ) (i next : ℕ) (part : PartValue) → i < length now → i < length parts → part ≡ get_or parts i part → number_at now i ≡ number_at old i
    → (slice_get part.words (number_at now i) ≡ Some word → next ≡ number_at now i + 1) → (slice_get part.words (number_at now i) ≢ Some word → next ≡ number_at now i)
    → ArePassed word parts old now i → ArePassed word parts old (set now i next) (i + 1)
passed_more word parts old now i next part within low is kept over stays was k below =
    let here : part ≡ part_at parts i = is ∙ get_or_default parts i part blank_part low in
    let front : slice_get part.words (number_at now i) ≡ front_at parts old i = ap (λ (p : PartValue). slice_get p.words (number_at now i)) here ∙ ap (slice_get (part_at parts i).words) kept in
    let put : number_at (set now i next) i ≡ next = get_or-set_same now i next 0 within in
    let own : IsPassed word (front_at parts old i) (number_at old i) (number_at (set now i next) i) = record {
      over = λ at. put ∙ over (front ∙ at) ∙ ap (λ n. n + 1) kept;
      stays = λ other. put ∙ stays (λ at. other (sym front ∙ at)) ∙ kept;
    } in
    ⊎_elim
    (λ same. subst (λ n. IsPassed word (front_at parts old n) (number_at old n) (number_at (set now i next) n)) (sym same) own)
    (λ before.
    let left : number_at (set now i next) k ≡ number_at now k = get_or-set_other now i k next 0 (λ same. omega (arith, same, before)) in
    subst (IsPassed word (front_at parts old k) (number_at old k)) (sym left) (was k before))
    (equal_or_below k i below)

-- those behind stand as they did
pub later_more : (now old : List ℕ) (i next : ℕ) → ((k : ℕ) → i ≤ k → number_at now k ≡ number_at old k) → (k : ℕ) → i + 1 ≤ k → number_at (set now i next) k ≡ number_at old k
later_more now old i next was k low = get_or-set_other now i k next 0 (λ same. omega (arith, same, low)) ∙ was k (omega (arith, low))

-- what isn't ahead of the last word isn't ahead of a word that is
stays_behind : (last : Option (List ℕ)) (word own : List ℕ) → is_ahead last word ≡ true → is_ahead last own ≡ false → less word own ≡ false
stays_behind None word own ahead behind = absurd (both_ways true behind refl)
stays_behind (Some last) word own ahead behind = not_less word last own (not_back last word ahead) behind

module _ (last : Option (List ℕ)) (parts : List PartValue) (numbers : List ℕ) (word : List ℕ) (ascend : All (λ part. Ascend part.words) parts) (stand : StandAt last parts numbers) (least : IsLeastWord parts numbers (length parts) (Some word)) where
  up : (k : ℕ) → k < length parts → Ascend (part_at parts k).words
  up k low = ascend k blank_part low

  -- the least word is ahead, and no word ahead stands before it
  pub least_ahead : is_ahead last word ≡ true
  least_ahead = stand.split least.0.0 (number_at numbers least.0.0) word least.0.1 least.0.2 ∙ le-leb (number_at numbers least.0.0) (number_at numbers least.0.0) (omega arith)

  front_of : (k n : ℕ) (own : List ℕ) → k < length parts → slice_get (part_at parts k).words n ≡ Some own → number_at numbers k ≤ n → (front : List ℕ) × (front_at parts numbers k ≡ Some front)
  front_of k n own low here ahead =
      let words = (part_at parts k).words in
      let within = slice_get_within words n own here in
      (get_or words (number_at numbers k) own, slice_get-get_or words (number_at numbers k) own (omega (arith, within, ahead)))

  at_front : (k n : ℕ) (front own : List ℕ) → front_at parts numbers k ≡ Some front → n ≡ number_at numbers k → slice_get (part_at parts k).words n ≡ Some own → front ≡ own
  at_front k n front own here same at = same_Some front own (sym here ∙ ap (slice_get (part_at parts k).words) (sym same) ∙ at)

  pub none_before : (k n : ℕ) (own : List ℕ) → k < length parts → slice_get (part_at parts k).words n ≡ Some own → number_at numbers k ≤ n → less own word ≡ false
  none_before k n own low here ahead =
      let its = front_of k n own low here ahead in
      let front = its.0 in
      let high : less front word ≡ false = least.1 k front low its.1 in
      ⊎_elim
      (λ same. subst (λ (w : List ℕ). less w word ≡ false) (at_front k n front own its.1 same here) high)
      (λ other.
      ⊎_elim
      (λ below. absurd (omega (arith, below, ahead)))
      (λ above. not_less own front word (not_back front own (in_order (part_at parts k).words (number_at numbers k) n front own (up k low) above its.1 here)) high)
      other)
      (cases_order n (number_at numbers k))

  module _ (after : List ℕ) (long : length after ≡ length numbers) (passed : ArePassed word parts numbers after (length parts)) where
    behind : (k n : ℕ) (own : List ℕ) → k < length parts → slice_get (part_at parts k).words n ≡ Some own → n < number_at numbers k → less word own ≡ false
    behind k n own low here before = stays_behind last word own least_ahead (stand.split k n own low here ∙ lt-leb (number_at numbers k) n before)

    -- a part that stood at the word
    over : (k n : ℕ) (own : List ℕ) → k < length parts → slice_get (part_at parts k).words n ≡ Some own → front_at parts numbers k ≡ Some word → less word own ≡ nat_le (number_at after k) n
    over k n own low here at =
        let next : number_at after k ≡ number_at numbers k + 1 = (passed k low).over at in
        ⊎_elim
        (λ same. subst (λ (w : List ℕ). less word w ≡ false) (at_front k n word own at same here) (not_itself word) ∙ sym (lt-leb (number_at after k) n (omega (arith, next, same))))
        (λ other.
        ⊎_elim
        (λ below. behind k n own low here below ∙ sym (lt-leb (number_at after k) n (omega (arith, next, below))))
        (λ above. in_order (part_at parts k).words (number_at numbers k) n word own (up k low) above at here ∙ sym (le-leb (number_at after k) n (omega (arith, next, above))))
        other)
        (cases_order n (number_at numbers k))

    -- and one that didn't
    aside : (k n : ℕ) (front own : List ℕ) → k < length parts → slice_get (part_at parts k).words n ≡ Some own → front_at parts numbers k ≡ Some front → less word front ≡ true → less word own ≡ nat_le (number_at after k) n
    aside k n front own low here at before =
        let next : number_at after k ≡ number_at numbers k =
        (passed k low).stays (λ wrong. both_ways (less word front) (subst (λ (w : List ℕ). less word w ≡ false) (same_Some word front (sym wrong ∙ at)) (not_itself word)) before) in
        ⊎_elim
        (λ same. subst (λ (w : List ℕ). less word w ≡ true) (at_front k n front own at same here) before ∙ sym (le-leb (number_at after k) n (omega (arith, next, same))))
        (λ other.
        ⊎_elim
        (λ below. behind k n own low here below ∙ sym (lt-leb (number_at after k) n (omega (arith, next, below))))
        (λ above. less_than word front own before (in_order (part_at parts k).words (number_at numbers k) n front own (up k low) above at here) ∙ sym (le-leb (number_at after k) n (omega (arith, next, above))))
        other)
        (cases_order n (number_at numbers k))

    -- a part at its end, or behind the word
    past : (k n : ℕ) (own : List ℕ) → k < length parts → slice_get (part_at parts k).words n ≡ Some own → n < number_at numbers k → less word own ≡ nat_le (number_at after k) n
    past k n own low here before =
        let kept : number_at numbers k ≤ number_at after k = not_back_over k low in
        behind k n own low here before ∙ sym (lt-leb (number_at after k) n (omega (arith, kept, before)))
      where
        not_back_over : (m : ℕ) → m < length parts → number_at numbers m ≤ number_at after m
        not_back_over m within = by_front (front_at parts numbers m) refl where
          by_front : (front : Option (List ℕ)) → front_at parts numbers m ≡ front → number_at numbers m ≤ number_at after m
          by_front None at = let e = (passed m within).stays (λ wrong. none-some word (sym at ∙ wrong)) in omega (arith, e)
          by_front (Some front) at =
              ⊎_elim
              (λ (low : less word front ≡ true).
              let e = (passed m within).stays (λ wrong. both_ways (less word front) (subst (λ (w : List ℕ). less word w ≡ false) (same_Some word front (sym wrong ∙ at)) (not_itself word)) low) in
              omega (arith, e))
              (λ (high : less word front ≡ false).
              let same : word ≡ front = same_word word front high (least.1 m front within at) in
              let e = (passed m within).over (at ∙ ap Some (sym same)) in
              omega (arith, e))
              (cases_Bool (less word front))

    pub stands_behind : StandAt (Some word) parts after
    stands_behind = record {
      long = long ∙ stand.long;
      split = λ k n own low here.
          ⊎_elim
          (λ before. past k n own low here before)
          (λ ahead.
          let its = front_of k n own low here ahead in
          ⊎_elim
          (λ (before : less word its.0 ≡ true). aside k n its.0 own low here its.1 before)
          (λ (not_before : less word its.0 ≡ false). over k n own low here (its.1 ∙ ap Some (sym (same_word word its.0 not_before (least.1 k its.0 low its.1)))))
          (cases_Bool (less word its.0)))
          (cases_lt n (number_at numbers k));
    }

  -- ---- the words up to this one

  module _ (words : List (List ℕ)) (was : AreWordsUpTo parts last words) where
    pub its_own : IsWordOf parts word
    its_own = record { part = least.0.0; number = number_at numbers least.0.0; within = least.0.1; here = least.0.2 }

    -- a word that stands before this one was gone over
    gone : (own : List ℕ) → IsWordOf parts own → less own word ≡ true → is_ahead last own ≡ false
    gone own is low =
        elim (is_ahead last own) as (λ b. is_ahead last own ≡ b → b ≡ false) [
          | true ↦ λ ahead.
              let from : number_at numbers is.part ≤ is.number = leb-true (number_at numbers is.part) is.number (sym (stand.split is.part is.number own is.within is.here) ∙ ahead) in
              absurd (both_ways (less own word) (none_before is.part is.number own is.within is.here from) low)
          | false ↦ λ _. refl
        ] refl

    all_behind : All (λ own. less word own ≡ false) words
    all_behind k d h = stays_behind last word (get_or words k d) least_ahead (was.behind k d h)

    -- and none of those is this one
    before_word : (own : List ℕ) → is_ahead last own ≡ false → less own word ≡ true
    before_word own e =
        elim (less own word) as (λ b. less own word ≡ b → b ≡ true) [
          | true ↦ λ _. refl
          | false ↦ λ not_low.
              let same : own ≡ word = same_word own word not_low (stays_behind last word own least_ahead e) in
              absurd (both_ways (is_ahead last word) (ap (is_ahead last) (sym same) ∙ e) least_ahead)
        ] refl

    pub words_more : (living : Bool) → living ≡ list_any (lives_in word) parts → AreWordsUpTo parts (Some word) (with_living living words word)
    words_more true is = record {
      ascend = all_pairs_push (λ (w later : List ℕ). slice_cmp nat_cmp w later ≡ Less) words word was.ascend (λ k d h. is_less (get_or words k d) word (before_word (get_or words k d) (was.behind k d h)));
      behind = All-push (λ own. less word own ≡ false) words word all_behind (not_itself word);
      there = All-push (IsWordOf parts) words word was.there its_own;
      live = All-push (λ own. list_any (lives_in own) parts ≡ true) words word was.live (sym is);
      all = λ own of lives e.
          ⊎_elim
          (λ (low : less own word ≡ true). Contains-append_left words (word ∷ []) own (was.all own of lives (gone own of low)))
          (λ (high : less own word ≡ false).
          let same : word ≡ own = sym (same_word own word high e) in
          subst (Contains (words ++ word ∷ [])) same (Contains-push words word))
          (cases_Bool (less own word));
    }
    words_more false is = record {
      ascend = was.ascend;
      behind = all_behind;
      there = was.there;
      live = was.live;
      all = λ own of lives e.
          ⊎_elim
          (λ (low : less own word ≡ true). was.all own of lives (gone own of low))
          (λ (high : less own word ≡ false).
          let same : own ≡ word = same_word own word high e in
          absurd (both_ways (list_any (lives_in word) parts) (sym is) (subst (λ (w : List ℕ). list_any (lives_in w) parts ≡ true) same lives)))
          (cases_Bool (less own word));
    }

-- before the first word
pub words_none : (parts : List PartValue) → AreWordsUpTo parts None []
words_none parts = record {
  ascend = λ i j d l h. absurd (omega (arith, h));
  behind = All-nil (λ own. is_ahead None own ≡ false);
  there = All-nil (IsWordOf parts);
  live = All-nil (λ own. list_any (lives_in own) parts ≡ true);
  all = λ own of lives e. absurd (both_ways true e refl);
}

pub stand_first : (parts : List PartValue) (numbers : List ℕ) → length numbers ≡ length parts → ((k : ℕ) → k < length parts → number_at numbers k ≡ 0) → StandAt None parts numbers
stand_first parts numbers long zeros = record {
  long = long;
  split = λ k n own low here. let zero_at = zeros k low in sym (le-leb (number_at numbers k) n (omega (arith, zero_at)));
}

-- behind the last word
pub words_all : (last : Option (List ℕ)) (parts : List PartValue) (numbers : List ℕ) (words : List (List ℕ)) → StandAt last parts numbers → IsLeastWord parts numbers (length parts) None → AreWordsUpTo parts last words → AreMerged parts words
words_all last parts numbers words stand none was = record {
  ascend = was.ascend;
  there = was.there;
  live = was.live;
  all = λ own of lives. was.all own of lives (behind own of);
}
  where
    behind : (own : List ℕ) → IsWordOf parts own → is_ahead last own ≡ false
    behind own of =
        ⊎_elim
        (λ before. stand.split of.part of.number own of.within of.here ∙ lt-leb (number_at numbers of.part) of.number before)
        (λ ahead.
        let all = (part_at parts of.part).words in
        let within = slice_get_within all of.number own of.here in
        absurd (none-some (get_or all (number_at numbers of.part) own) (sym (none of.part of.within) ∙ slice_get-get_or all (number_at numbers of.part) own (omega (arith, within, ahead)))))
        (cases_lt of.number (number_at numbers of.part))

-- the parts stand somewhere, and the words up to there were found
pub record IsAmid (parts : List PartValue) (numbers : List ℕ) (room : ℕ) (kept : List (List ℕ)) (count : ℕ) : Type 0 where
  pub last : Option (List ℕ)
  pub words : List (List ℕ)
  pub stand : StandAt last parts numbers
  pub up_to : AreWordsUpTo parts last words
  pub found : AreFound room words kept count

-- before the first word
pub amid_none : (parts : List PartValue) (numbers : List ℕ) (room : ℕ) (kept : List (List ℕ)) (count : ℕ) → numbers ≡ replicate (length parts) 0 → kept ≡ [] → count ≡ 0 → IsAmid parts numbers room kept count
amid_none parts numbers room kept count zeros none nothing = record {
  last = None;
  words = [];
  stand = subst (StandAt None parts) (sym zeros) (stand_first parts (replicate (length parts) 0) (length-replicate (length parts) 0) (λ k low. get_or-replicate (length parts) k 0 0 low));
  up_to = words_none parts;
  found = record { first = none ∙ sym (take_all room [] (omega arith)); counted = nothing };
}

-- one word more
pub amid_more : (parts : List PartValue) (numbers after : List ℕ) (room : ℕ) (kept next : List (List ℕ)) (count more : ℕ) (word : List ℕ) (living : Bool) (was : IsAmid parts numbers room kept count) → All (λ part. Ascend part.words) parts → IsLeastWord parts numbers (length parts) (Some word)
    → length after ≡ length numbers → ArePassed word parts numbers after (length parts) → living ≡ list_any (lives_in word) parts
    → ((words : List (List ℕ)) → AreFound room words kept count → AreFound room (with_living living words word) next more) → IsAmid parts after room next more
amid_more parts numbers after room kept next count more word living was ascend least long passed is take_one = record {
  last = Some word;
  words = with_living living was.words word;
  stand = stands_behind was.last parts numbers word ascend was.stand least after long passed;
  up_to = words_more was.last parts numbers word ascend was.stand least was.words was.up_to living is;
  found = take_one was.words was.found;
}

-- all words
pub amid_all : (parts : List PartValue) (numbers : List ℕ) (room : ℕ) (kept : List (List ℕ)) (count : ℕ) (was : IsAmid parts numbers room kept count) → IsLeastWord parts numbers (length parts) None → (words : List (List ℕ)) × AreMerged parts words × AreFound room words kept count
amid_all parts numbers room kept count was none = (was.words, words_all was.last parts numbers was.words was.stand none was.up_to, was.found)
